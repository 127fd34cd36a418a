-- What a row is about.
use Rattle.std.specs.Prelude.{◌≡◌, ℕ, ◌==◌, Option, Some, None, List}
use Rattle.std.specs.List.{find, slice_get}
use Rattle.std.specs.Option.{IsSome, option_map, option_and_then}
use Rattle.lq_records.specs.Places.{field_at, found_at}
use Rattle.lq_records.specs.declared.base.Base.{Base}
use Rattle.lq_records.specs.declared.base.Command.{Command}
use Rattle.lq_records.specs.declared.base.Contact.{Contact}
use Rattle.lq_records.specs.declared.base.ContactGroup.{ContactGroup}
use Rattle.lq_records.specs.declared.base.HostGroup.{HostGroup}
use Rattle.lq_records.specs.declared.base.Period.{Period}
use Rattle.lq_records.specs.declared.base.ServiceGroup.{ServiceGroup}
use Rattle.lq_records.specs.declared.ids.HostGroupId.{HostGroupId}
use Rattle.lq_records.specs.declared.ids.ServiceGroupId.{ServiceGroupId}
use Rattle.lq_events.specs.declared.log_entry.LogEntry.{LogEntry}
use Rattle.lq_events.specs.declared.status.Comment.{Comment}
use Rattle.lq_events.specs.declared.status.Downtime.{Downtime}
use Rattle.lq_records.specs.declared.object.Object.{Object}
use Rattle.lq_records.specs.declared.object.Object.TheVariants as object
use Rattle.lq_log.specs.Told.{object_of}
use Rattle.lq_live.specs.State.{State}
use Rattle.lq_columns.specs.Cells.{HostRecord, ServiceRecord, host_at, service_at}
use Rattle.lq_tables.specs.Schema.{schema}
use Rattle.lq_tables.specs.declared.history_row.HistoryRow.{HistoryRow}
use Rattle.lq_tables.specs.declared.row.Row.{Row}
use Rattle.lq_tables.specs.declared.row.Row.TheVariants as row
use Rattle.lq_tables.specs.declared.schema.Entry.{Entry}

-- ---- downtimes and comments

-- the first downtime with an id
abbrev pub downtime_with : ℕ → List Downtime → Option Downtime
downtime_with id downtimes = find (λ downtime. downtime.id == id) downtimes

-- the first comment with an id
abbrev pub comment_with : ℕ → List Comment → Option Comment
comment_with id comments = find (λ comment. comment.id == id) comments

abbrev pub row_downtime : State → Row → Option Downtime
row_downtime s (row.Downtime id) = downtime_with id s.downtimes
row_downtime s row = None

abbrev pub row_comment : State → Row → Option Comment
row_comment s (row.Comment id) = comment_with id s.comments
row_comment s row = None

-- ---- lines of the log

-- the line at a place of the log
abbrev pub row_line : State → Row → Option LogEntry
row_line s (row.Line place) = slice_get s.log place
row_line s row = None

-- ---- slices of histories

abbrev pub row_slice : Row → Option HistoryRow
row_slice (row.Slice history) = Some history
row_slice row = None

-- ---- hosts and services

-- the host or service that a row is about; a downtime and a comment are about that of their own, a
-- line of the log about the one that it names, where the base has it; a slice about that whose
-- history it is of
abbrev pub row_object : State → Row → Option Object
row_object s (row.Host id) = Some (object.Host id)
row_object s (row.HostOf group id) = Some (object.Host id)
row_object s (row.Service id) = Some (object.Service id)
row_object s (row.ServiceOf group id) = Some (object.Service id)
row_object s (row.GroupService group id) = Some (object.Service id)
row_object s (row.Downtime id) =
    option_map (λ downtime. downtime.object) (downtime_with id s.downtimes)
row_object s (row.Comment id) = option_map (λ comment. comment.object) (comment_with id s.comments)
row_object s (row.Line place) = found_at (object_of s.base) s.log place
row_object s (row.Slice history) = Some history.slice.object
row_object s row = None

-- the service itself
abbrev pub service_of_object : State → Object → Option ServiceRecord
service_of_object s (object.Host id) = None
service_of_object s (object.Service id) = service_at s id

-- the host itself, or the one that the service runs on
abbrev pub host_of_object : State → Object → Option HostRecord
host_of_object s (object.Host id) = host_at s id
host_of_object s (object.Service id) =
    option_and_then (λ about. host_at s about.service.host) (service_at s id)

-- the service that a row is about
abbrev pub row_service : State → Row → Option ServiceRecord
row_service s row = option_and_then (service_of_object s) (row_object s row)

-- the host that a row is about, or whose service it is about
abbrev pub row_host : State → Row → Option HostRecord
row_host s row = option_and_then (host_of_object s) (row_object s row)

-- a row of the table of hosts, whose host stands in the base
abbrev pub IsHost : State → Row → Type 0
IsHost s (row.Host id) = IsSome (host_at s id)
IsHost s row = ⊥

-- a row of the table of services, whose service stands in the base
abbrev pub IsService : State → Row → Type 0
IsService s (row.Service id) = IsSome (service_at s id)
IsService s row = ⊥

-- a host, a service, a downtime, a comment and a line of the log
pub record Subjects : Type 0 where
  pub host : Option HostRecord
  pub service : Option ServiceRecord
  pub downtime : Option Downtime
  pub comment : Option Comment
  pub line : Option LogEntry

-- subjects are those that a row is about, None where it is about no such thing
pub record IsAbout (s : State) (row : Row) (subjects : Subjects) : Type 0 where
  pub host_found : subjects.host ≡ row_host s row
  pub service_found : subjects.service ≡ row_service s row
  pub downtime_found : subjects.downtime ≡ row_downtime s row
  pub comment_found : subjects.comment ≡ row_comment s row
  pub line_found : subjects.line ≡ row_line s row

-- ---- groups

-- a group of hosts: its id, and what the object file says of it
pub record HostGroupRecord : Type 0 where
  pub id : HostGroupId
  pub group : HostGroup

-- the group of hosts with an id
abbrev pub host_group_at : Base → HostGroupId → Option HostGroupRecord
host_group_at base id =
    field_at (λ group. record { id = id; group = group }) base.host_groups id.0

abbrev pub row_host_group_id : Row → Option HostGroupId
row_host_group_id (row.HostGroup id) = Some id
row_host_group_id (row.HostOf id host) = Some id
row_host_group_id (row.GroupService id service) = Some id
row_host_group_id row = None

-- the group of hosts that a row is about, alone or beside a host or a service
abbrev pub row_host_group : Base → Row → Option HostGroupRecord
row_host_group base row = option_and_then (host_group_at base) (row_host_group_id row)

-- a group of services: its id, and what the object file says of it
pub record ServiceGroupRecord : Type 0 where
  pub id : ServiceGroupId
  pub group : ServiceGroup

-- the group of services with an id
abbrev pub service_group_at : Base → ServiceGroupId → Option ServiceGroupRecord
service_group_at base id =
    field_at (λ group. record { id = id; group = group }) base.service_groups id.0

abbrev pub row_service_group_id : Row → Option ServiceGroupId
row_service_group_id (row.ServiceGroup id) = Some id
row_service_group_id (row.ServiceOf id service) = Some id
row_service_group_id row = None

-- the group of services that a row is about, alone or beside a service
abbrev pub row_service_group : Base → Row → Option ServiceGroupRecord
row_service_group base row = option_and_then (service_group_at base) (row_service_group_id row)

-- ---- the rest of the base

abbrev pub row_contact : Base → Row → Option Contact
row_contact base (row.Contact id) = slice_get base.contacts id.0
row_contact base row = None

abbrev pub row_contact_group : Base → Row → Option ContactGroup
row_contact_group base (row.ContactGroup id) = slice_get base.contact_groups id.0
row_contact_group base row = None

abbrev pub row_command : Base → Row → Option Command
row_command base (row.Command id) = slice_get base.commands id.0
row_command base row = None

abbrev pub row_period : Base → Row → Option Period
row_period base (row.Period id) = slice_get base.periods id.0
row_period base row = None

-- ---- the program and its tables

abbrev pub row_entry : Row → Option Entry
row_entry (row.Column place) = slice_get schema place
row_entry row = None
