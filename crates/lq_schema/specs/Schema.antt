-- The tables: their columns in order, and the one that has a name.
use Rattle.std.specs.Prelude.{ℕ, Option, Some, None, List, [], ◌∷◌, map, find, bytes_eq, nat_eq}
use Rattle.std.specs.Prelude.{drop, length, if◌then◌else◌}
use Rattle.std.specs.List.{flat_map, starts_with}
use Rattle.std.specs.Option.{option_or, option_and_then}
use Rattle.lq_schema.specs.declared.columns.Table.{Table}
use Rattle.lq_schema.specs.declared.columns.Table.TheVariants as table
use Rattle.lq_schema.specs.declared.columns.Subject.{Subject}
use Rattle.lq_schema.specs.declared.columns.Subject.TheVariants as subject
use Rattle.lq_schema.specs.declared.columns.Prefix.{Prefix}
use Rattle.lq_schema.specs.declared.columns.Prefix.TheVariants as prefix
use Rattle.lq_schema.specs.declared.columns.Part.{Part}
use Rattle.lq_schema.specs.declared.columns.Col.{Col}
use Rattle.lq_schema.specs.Names.{full_name, own_prefix, table_name}
use Rattle.lq_schema.specs.Order.{own_columns}

-- ---- tables

abbrev pub tables : List Table
tables =
    table.Hosts ∷ table.Services ∷ table.HostGroups ∷ table.ServiceGroups ∷ table.Contacts
    ∷ table.ContactGroups ∷ table.Commands ∷ table.TimePeriods ∷ table.Downtimes ∷ table.Comments
    ∷ table.Log ∷ table.Status ∷ table.Columns ∷ table.HostsByGroup ∷ table.ServicesByGroup
    ∷ table.ServicesByHostGroup ∷ table.StateHist ∷ []

-- the table that has a name
abbrev pub table_of : List ℕ → Option Table
table_of name = find (λ table. bytes_eq name (table_name table)) tables

-- what the rows of a table are about
abbrev pub subject_of : Table → Subject
subject_of table.Hosts = subject.Host
subject_of table.Services = subject.Service
subject_of table.HostGroups = subject.HostGroup
subject_of table.ServiceGroups = subject.ServiceGroup
subject_of table.Contacts = subject.Contact
subject_of table.ContactGroups = subject.ContactGroup
subject_of table.Commands = subject.Command
subject_of table.TimePeriods = subject.Period
subject_of table.Downtimes = subject.Downtime
subject_of table.Comments = subject.Comment
subject_of table.Log = subject.Line
subject_of table.Status = subject.Program
subject_of table.Columns = subject.Schema
subject_of table.HostsByGroup = subject.Host
subject_of table.ServicesByGroup = subject.Service
subject_of table.ServicesByHostGroup = subject.Service
subject_of table.StateHist = subject.Slice

abbrev pub part : Prefix → Subject → Part
part prefix subject = record { prefix = prefix; subject = subject }

-- whose columns a table has beside its own
abbrev pub joined_of : Table → List Part
joined_of table.Hosts = []
joined_of table.Services = part prefix.Host subject.Host ∷ []
joined_of table.HostGroups = []
joined_of table.ServiceGroups = []
joined_of table.Contacts = []
joined_of table.ContactGroups = []
joined_of table.Commands = []
joined_of table.TimePeriods = []
joined_of table.Downtimes =
    part prefix.Host subject.Host ∷ part prefix.Service subject.Service ∷ []
joined_of table.Comments =
    part prefix.Host subject.Host ∷ part prefix.Service subject.Service ∷ []
joined_of table.Log =
    part prefix.CurrentHost subject.Host ∷ part prefix.CurrentService subject.Service ∷ []
joined_of table.Status = []
joined_of table.Columns = []
joined_of table.HostsByGroup = part prefix.HostGroup subject.HostGroup ∷ []
joined_of table.ServicesByGroup =
    part prefix.Host subject.Host ∷ part prefix.ServiceGroup subject.ServiceGroup ∷ []
joined_of table.ServicesByHostGroup =
    part prefix.Host subject.Host ∷ part prefix.HostGroup subject.HostGroup ∷ []
joined_of table.StateHist =
    part prefix.CurrentHost subject.Host ∷ part prefix.CurrentService subject.Service ∷ []

-- ---- columns

abbrev pub part_columns : Part → List Col
part_columns part =
    map (λ column. record { prefix = part.prefix; own = column }) (own_columns part.subject)

-- the table's own columns, then those of each joined part
unfoldable pub columns_of : Table → List Col
columns_of table = flat_map part_columns (part prefix.Own (subject_of table) ∷ joined_of table)

-- the column of a table that has a whole name
abbrev pub column_named : Table → List ℕ → Option Col
column_named table name = find (λ column. bytes_eq name (full_name column)) (columns_of table)

-- what follows a front, None where the name doesn't begin with that
abbrev pub without_prefix : List ℕ → List ℕ → Option (List ℕ)
without_prefix name front =
    if starts_with nat_eq name front then Some (drop (length front) name) else None

-- The column that a name means: the one with that name, else the one whose name follows the table's
-- own prefix.
unfoldable pub column_of : Table → List ℕ → Option Col
column_of table name =
    option_or (column_named table name)
    (option_and_then (column_named table) (without_prefix name (own_prefix (subject_of table))))
