-- The rows of each table, in order.
use Rattle.std.specs.Prelude.{ℕ, ◌==◌, ◌&&◌, nat_le, nat_lt, Bool, true, false, List, [], ◌∷◌}
use Rattle.std.specs.Prelude.{length, map, filter}
use Rattle.std.specs.List.{enumerate_from, flat_map, range_with_len}
use Rattle.std.specs.Option.{option_map_or}
use Rattle.lq_records.specs.Places.{holds_at}
use Rattle.lq_records.specs.declared.base.Base.{Base}
use Rattle.lq_records.specs.declared.base.HostGroup.{HostGroup}
use Rattle.lq_records.specs.declared.base.Service.{Service}
use Rattle.lq_records.specs.declared.base.ServiceGroup.{ServiceGroup}
use Rattle.lq_schema.specs.declared.columns.Table.{Table}
use Rattle.lq_schema.specs.declared.columns.Table.TheVariants as table
use Rattle.lq_records.specs.declared.ids.HostGroupId.{HostGroupId}
use Rattle.lq_records.specs.declared.ids.HostId.{HostId}
use Rattle.lq_events.specs.declared.log_entry.LogEntry.{LogEntry}
use Rattle.lq_log.specs.Told.{object_of}
use Rattle.lq_live.specs.State.{State}
use Rattle.lq_auth.specs.Lines.{sees_line}
use Rattle.lq_auth.specs.Rights.{sees_host, sees_host_group, sees_object, sees_service}
use Rattle.lq_auth.specs.Rights.{sees_service_group}
use Rattle.lq_auth.specs.declared.view.View.{View}
use Rattle.lq_auth.specs.declared.view.View.TheVariants.{All}
use Rattle.lq_statehist.specs.Slices.{slices_of}
use Rattle.lq_statehist.specs.declared.slice.Slice.{Slice}
use Rattle.lq_tables.specs.About.{row_line, row_object}
use Rattle.lq_tables.specs.Schema.{schema}
use Rattle.lq_tables.specs.declared.row.Row.{Row}
use Rattle.lq_tables.specs.declared.row.Row.TheVariants as row
use Rattle.lq_tables.specs.declared.window.Window.{Window}

-- the places in a list, in order
abbrev pub places_of : {A : Type 0} → List A → List ℕ
places_of items = range_with_len 0 (length items)

-- each item with its place before it
abbrev pub with_places : {A : Type 0} → List A → List (ℕ × A)
with_places items = enumerate_from 0 items

-- ---- the members of groups, as they are listed

abbrev pub host_group_rows : ℕ × HostGroup → List Row
host_group_rows (place, group) = map (row.HostOf (record { 0 = place })) group.members

abbrev pub service_group_rows : ℕ × ServiceGroup → List Row
service_group_rows (place, group) = map (row.ServiceOf (record { 0 = place })) group.members

-- ---- the services of the hosts of groups

-- whether the service at a place runs on a host
abbrev pub runs_on : List Service → HostId → ℕ → Bool
runs_on services host place = holds_at (λ service. service.host.0 == host.0) services place

-- a host's services, in the order of the base
abbrev pub service_rows : List Service → HostGroupId → HostId → List Row
service_rows services group host =
    map (λ place. row.GroupService group (record { 0 = place }))
    (filter (runs_on services host) (places_of services))

abbrev pub group_service_rows : List Service → ℕ × HostGroup → List Row
group_service_rows services (place, group) =
    flat_map (service_rows services (record { 0 = place })) group.members

-- ---- windows

-- whether the second of a line of the log is within a window
abbrev pub is_within : Window → LogEntry → Bool
is_within window line = nat_le window.from line.time && nat_lt line.time window.until

-- whether that of the line at a place is
abbrev pub has_line_within : Window → List LogEntry → ℕ → Bool
has_line_within window log place = holds_at (is_within window) log place

-- a slice of a history over the interval of a window
abbrev pub history_row : Window → Slice → Row
history_row window slice =
    row.Slice (record { slice = slice; from = window.from; until = window.until })

-- ---- tables

-- all rows of a table, whoever asks
abbrev pub table_rows : State → Window → Table → List Row
table_rows s window table.Hosts =
    map (λ place. row.Host (record { 0 = place })) (places_of s.base.hosts)
table_rows s window table.Services =
    map (λ place. row.Service (record { 0 = place })) (places_of s.base.services)
table_rows s window table.HostGroups =
    map (λ place. row.HostGroup (record { 0 = place })) (places_of s.base.host_groups)
table_rows s window table.ServiceGroups =
    map (λ place. row.ServiceGroup (record { 0 = place })) (places_of s.base.service_groups)
table_rows s window table.Contacts =
    map (λ place. row.Contact (record { 0 = place })) (places_of s.base.contacts)
table_rows s window table.ContactGroups =
    map (λ place. row.ContactGroup (record { 0 = place })) (places_of s.base.contact_groups)
table_rows s window table.Commands =
    map (λ place. row.Command (record { 0 = place })) (places_of s.base.commands)
table_rows s window table.TimePeriods =
    map (λ place. row.Period (record { 0 = place })) (places_of s.base.periods)
table_rows s window table.Downtimes = map (λ downtime. row.Downtime downtime.id) s.downtimes
table_rows s window table.Comments = map (λ comment. row.Comment comment.id) s.comments
table_rows s window table.Log =
    map row.Line (filter (has_line_within window s.log) (places_of s.log))
table_rows s window table.Status = row.Status ∷ []
table_rows s window table.Columns = map row.Column (places_of schema)
table_rows s window table.HostsByGroup = flat_map host_group_rows (with_places s.base.host_groups)
table_rows s window table.ServicesByGroup =
    flat_map service_group_rows (with_places s.base.service_groups)
table_rows s window table.ServicesByHostGroup =
    flat_map (group_service_rows s.base.services) (with_places s.base.host_groups)
table_rows s window table.StateHist =
    map (history_row window) (slices_of s.base All s.log window.from window.until)

-- ---- rights

-- a line of the log is seen by the object that it is about
abbrev pub sees_entry : Base → View → LogEntry → Bool
sees_entry base view entry = sees_line view (object_of base entry) entry

-- a group is seen by itself, a pair of a group and an object where both are, any other row where
-- the host or the service is seen that it is about; rows about none are seen by all
abbrev pub sees_row : State → View → Row → Bool
sees_row s view (row.HostGroup id) = sees_host_group view id
sees_row s view (row.ServiceGroup id) = sees_service_group view id
sees_row s view (row.HostOf group id) = sees_host_group view group && sees_host view id
sees_row s view (row.ServiceOf group id) = sees_service_group view group && sees_service view id
sees_row s view (row.GroupService group id) = sees_host_group view group && sees_service view id
sees_row s view (row.Line place) =
    option_map_or (sees_entry s.base view) (row_line s (row.Line place)) true
sees_row s view row = option_map_or (sees_object view) (row_object s row) true

-- the rows of a table that a query sees
abbrev pub rows_of : State → View → Window → Table → List Row
rows_of s view window table = filter (sees_row s view) (table_rows s window table)

-- ---- the limit

-- whether a table has the slices of histories
abbrev pub is_history : Table → Bool
is_history table.StateHist = true
is_history table = false

-- whether a query would be shown more than 1,000,000 slices of histories
abbrev pub are_too_many : State → View → Window → Table → Bool
are_too_many s view window table =
    is_history table && nat_lt 1000000 (length (rows_of s view window table))
