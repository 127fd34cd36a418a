-- The value of each cell.
use Rattle.std.specs.Prelude.{Option, Some, None, filter}
use Rattle.lq_records.specs.declared.base.Base.{Base}
use Rattle.lq_records.specs.declared.base.ContactGroup.{ContactGroup}
use Rattle.lq_schema.specs.declared.columns.Col.{Col}
use Rattle.lq_schema.specs.declared.contact_group.ContactGroupColumn.{ContactGroupColumn}
use Rattle.lq_schema.specs.declared.contact_group.ContactGroupColumn.TheVariants as contact_group
use Rattle.lq_schema.specs.declared.host.HostColumn.{HostColumn}
use Rattle.lq_schema.specs.declared.host_group.HostGroupColumn.{HostGroupColumn}
use Rattle.lq_schema.specs.declared.host_group.HostGroupColumn.TheVariants as host_group
use Rattle.lq_schema.specs.declared.columns.OwnColumn.{OwnColumn}
use Rattle.lq_schema.specs.declared.columns.OwnColumn.TheVariants as own
use Rattle.lq_schema.specs.declared.service.ServiceColumn.{ServiceColumn}
use Rattle.lq_schema.specs.declared.service_group.ServiceGroupColumn.{ServiceGroupColumn}
use Rattle.lq_schema.specs.declared.service_group.ServiceGroupColumn.TheVariants as service_group
use Rattle.lq_schema.specs.Kinds.{contact_group_kind, host_group_kind, host_kind}
use Rattle.lq_schema.specs.Kinds.{service_group_kind, service_kind}
use Rattle.lq_schema.specs.Value.{Value, Words, Texts, Pairs, empty_value}
use Rattle.lq_live.specs.State.{State}
use Rattle.lq_auth.specs.Rights.{sees_host, sees_service}
use Rattle.lq_auth.specs.declared.view.View.{View}
use Rattle.lq_columns.specs.Names.{contact_names_of, host_names_of}
use Rattle.lq_columns.specs.Cells.{HostRecord, ServiceRecord, host_cell, hosts_cell, service_cell}
use Rattle.lq_columns.specs.Cells.{services_cell}
use Rattle.lq_columns.specs.declared.scope.Scope.TheVariants as scope
use Rattle.lq_tables.specs.About.{HostGroupRecord, ServiceGroupRecord, row_command, row_comment}
use Rattle.lq_tables.specs.About.{row_contact, row_contact_group, row_downtime, row_entry, row_host}
use Rattle.lq_tables.specs.About.{row_host_group, row_line, row_period, row_service}
use Rattle.lq_tables.specs.About.{row_service_group, row_slice}
use Rattle.lq_tables.specs.declared.row.Row.{Row}
use Rattle.lq_tables.specs.Parts.{command_cell, comment_cell, contact_cell, downtime_cell}
use Rattle.lq_tables.specs.Parts.{line_cell, pairs_of, period_cell, program_part, schema_cell}
use Rattle.lq_tables.specs.Slices.{slice_cell}

-- ---- groups

abbrev pub contact_group_cell : Base → Option ContactGroup → ContactGroupColumn → Value
contact_group_cell base None column = empty_value (contact_group_kind column)
contact_group_cell base (Some group) contact_group.Name = Words group.contactgroup_name
contact_group_cell base (Some group) contact_group.Alias = Words group.alias
contact_group_cell base (Some group) contact_group.Members =
    Texts (contact_names_of base group.members)

-- of the hosts and services of a group those that are seen
abbrev pub host_group_cell : State → View → HostGroupRecord → HostGroupColumn → Value
host_group_cell s view about host_group.Name = Words about.group.hostgroup_name
host_group_cell s view about host_group.Alias = Words about.group.alias
host_group_cell s view about host_group.Notes = Words about.group.notes
host_group_cell s view about host_group.NotesUrl = Words about.group.notes_url
host_group_cell s view about host_group.ActionUrl = Words about.group.action_url
host_group_cell s view about host_group.Members =
    Texts (host_names_of s.base (filter (sees_host view) about.group.members))
host_group_cell s view about (host_group.Hosts column) = hosts_cell s view about.id column
host_group_cell s view about (host_group.Services column) =
    services_cell s view (scope.HostGroup about.id) column

abbrev pub host_group_part : State → View → Option HostGroupRecord → HostGroupColumn → Value
host_group_part s view None column = empty_value (host_group_kind column)
host_group_part s view (Some about) column = host_group_cell s view about column

abbrev pub service_group_cell : State → View → ServiceGroupRecord → ServiceGroupColumn → Value
service_group_cell s view about service_group.Name = Words about.group.servicegroup_name
service_group_cell s view about service_group.Alias = Words about.group.alias
service_group_cell s view about service_group.Notes = Words about.group.notes
service_group_cell s view about service_group.NotesUrl = Words about.group.notes_url
service_group_cell s view about service_group.ActionUrl = Words about.group.action_url
service_group_cell s view about service_group.Members =
    Pairs (pairs_of s.base (filter (sees_service view) about.group.members))
service_group_cell s view about (service_group.Services column) =
    services_cell s view (scope.ServiceGroup about.id) column

abbrev pub service_group_part : State → View → Option ServiceGroupRecord → ServiceGroupColumn
    → Value
service_group_part s view None column = empty_value (service_group_kind column)
service_group_part s view (Some about) column = service_group_cell s view about column

-- ---- hosts and services

abbrev pub host_part : State → View → Option HostRecord → HostColumn → Value
host_part s view None column = empty_value (host_kind column)
host_part s view (Some about) column = host_cell s view about column

abbrev pub service_part : State → Option ServiceRecord → ServiceColumn → Value
service_part s None column = empty_value (service_kind column)
service_part s (Some about) column = service_cell s about column

-- ---- all columns

-- the value of a column of what it is about; the empty value of its kind where the row isn't about
-- such a thing. Of members, and of what counts them, a query sees what its view does
abbrev pub own_cell : State → View → Row → OwnColumn → Value
own_cell s view row (own.Host column) = host_part s view (row_host s row) column
own_cell s view row (own.Service column) = service_part s (row_service s row) column
own_cell s view row (own.HostGroup column) =
    host_group_part s view (row_host_group s.base row) column
own_cell s view row (own.ServiceGroup column) =
    service_group_part s view (row_service_group s.base row) column
own_cell s view row (own.Contact column) = contact_cell (row_contact s.base row) column
own_cell s view row (own.ContactGroup column) =
    contact_group_cell s.base (row_contact_group s.base row) column
own_cell s view row (own.Command column) = command_cell (row_command s.base row) column
own_cell s view row (own.Period column) = period_cell s (row_period s.base row) column
own_cell s view row (own.Downtime column) = downtime_cell (row_downtime s row) column
own_cell s view row (own.Comment column) = comment_cell (row_comment s row) column
own_cell s view row (own.Line column) = line_cell (row_line s row) column
own_cell s view row (own.Slice column) = slice_cell s (row_slice row) column
own_cell s view row (own.Program column) = program_part s row column
own_cell s view row (own.Schema column) = schema_cell (row_entry row) column

abbrev pub cell_of : State → View → Row → Col → Value
cell_of s view row column = own_cell s view row column.own

-- a row at a state, and what a query sees of it
pub record StateRow : Type 0 where
  pub state : State
  pub view : View
  pub row : Row
