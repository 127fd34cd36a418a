-- Columns whose cells take no memory, those whose numbers stand in the state as they are, and those
-- whose lists are searched where their texts stand.
use Rattle.lq_schema.specs.declared.columns.OwnColumn.{OwnColumn}
use Rattle.lq_schema.specs.declared.columns.OwnColumn.TheVariants as own
use Rattle.lq_schema.specs.declared.schema_column.SchemaColumn.TheVariants as schema
use Rattle.lq_schema.specs.Kinds.{own_kind}
use Rattle.lq_columns.specs.Plain.{IsHeldByHost, IsHeldByService, IsPlain, IsSearchedAtHost}
use Rattle.lq_columns.specs.Plain.{IsSearchedAtService}

-- numbers and single texts, but not the whole name of a column, which is put together
abbrev pub IsLight : OwnColumn → Type 0
IsLight (own.Schema schema.Name) = ⊥
IsLight (own.Schema schema.Description) = ⊥
IsLight column = IsPlain (own_kind column)

-- numbers that are found without a look at other objects: all but counters, how many downtimes
-- hold, and what the log tells of a host or a service
abbrev pub IsHeld : OwnColumn → Type 0
IsHeld (own.Host column) = IsHeldByHost column
IsHeld (own.Service column) = IsHeldByService column
IsHeld (own.Period column) = Unit {0}
IsHeld (own.Downtime column) = Unit {0}
IsHeld (own.Comment column) = Unit {0}
IsHeld (own.Line column) = Unit {0}
IsHeld (own.Slice column) = Unit {0}
IsHeld (own.Program column) = Unit {0}
IsHeld column = ⊥

-- the contacts and the contact groups of hosts and services
abbrev pub IsSearchedIn : OwnColumn → Type 0
IsSearchedIn (own.Host column) = IsSearchedAtHost column
IsSearchedIn (own.Service column) = IsSearchedAtService column
IsSearchedIn column = ⊥
