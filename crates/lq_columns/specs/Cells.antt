-- The value that each column has of a host and of a service.
use Rattle.std.specs.Prelude.{ℕ, ℤ, pos, ◌==◌, ◌&&◌, Bool, Option, List, length, map, filter}
use Rattle.std.specs.Prelude.{if◌then◌else◌}
use Rattle.std.specs.Ordering.{int_eq}
use Rattle.lq_records.specs.Places.{list_at, made_at}
use Rattle.lq_records.specs.declared.base.Base.{Base}
use Rattle.lq_records.specs.declared.base.ObjectFields.{ObjectFields}
use Rattle.lq_records.specs.declared.base.Host.{Host}
use Rattle.lq_records.specs.declared.base.Service.{Service}
use Rattle.lq_records.specs.declared.ids.HostId.{HostId}
use Rattle.lq_records.specs.declared.ids.ServiceId.{ServiceId}
use Rattle.lq_records.specs.declared.ids.HostGroupId.{HostGroupId}
use Rattle.lq_events.specs.declared.status.Status.{Status}
use Rattle.lq_records.specs.declared.object.Object.{Object}
use Rattle.lq_records.specs.declared.object.Object.TheVariants as object
use Rattle.lq_schema.specs.declared.object.ObjectColumn.{ObjectColumn}
use Rattle.lq_schema.specs.declared.object.ObjectColumn.TheVariants as object_column
use Rattle.lq_schema.specs.declared.status.StatusColumn.{StatusColumn}
use Rattle.lq_schema.specs.declared.status.StatusColumn.TheVariants as status_column
use Rattle.lq_schema.specs.declared.service_counter.ServiceCounter.{ServiceCounter}
use Rattle.lq_schema.specs.declared.service_counter.ServiceCounter.TheVariants as service_counter
use Rattle.lq_schema.specs.declared.host_counter.HostCounter.{HostCounter}
use Rattle.lq_schema.specs.declared.host_counter.HostCounter.TheVariants as host_counter
use Rattle.lq_schema.specs.declared.host.HostColumn.{HostColumn}
use Rattle.lq_schema.specs.declared.host.HostColumn.TheVariants as host_column
use Rattle.lq_schema.specs.declared.service.ServiceColumn.{ServiceColumn}
use Rattle.lq_schema.specs.declared.service.ServiceColumn.TheVariants as service_column
use Rattle.lq_schema.specs.Value.{Value, Number, Words, Texts, Numbers}
use Rattle.lq_log.specs.LastTold.{is_flapping, is_period_on}
use Rattle.lq_live.specs.State.{State}
use Rattle.lq_records.specs.Object.{is_same_object}
use Rattle.lq_auth.specs.declared.view.View.{View}
use Rattle.lq_columns.specs.Names.{child_names_of, contact_group_names_of, contact_names_of}
use Rattle.lq_columns.specs.Names.{contacts_of, descriptions_of, group_names_of, parent_names_of}
use Rattle.lq_columns.specs.Names.{variable_names_of, variable_values_of}
use Rattle.lq_columns.specs.Counts.{hosts_counted, services_counted, worst_host, worst_service}
use Rattle.lq_columns.specs.declared.scope.Scope.{Scope}
use Rattle.lq_columns.specs.declared.scope.Scope.TheVariants as scope
use Rattle.lq_columns.specs.declared.counted.Counted.TheVariants as counted
use Rattle.lq_columns.specs.declared.host.HostRow.{HostRow}
use Rattle.lq_columns.specs.declared.service.ServiceRow.{ServiceRow}

-- a number that is never below 0
abbrev pub natural : ℕ → Value
natural number = Number (pos number)

-- 1 where something holds, else 0
abbrev pub flag : Bool → Value
flag holds = natural (if holds then 1 else 0)

-- ---- what the object file says of a host or a service

abbrev pub object_cell : Base → Object → ObjectFields → ObjectColumn → Value
object_cell base about fields object_column.DisplayName = Words fields.display_name
object_cell base about fields object_column.CheckCommand = Words fields.check_command
object_cell base about fields object_column.CheckPeriod = Words fields.check_period
object_cell base about fields object_column.NotificationPeriod = Words fields.notification_period
object_cell base about fields object_column.MaxCheckAttempts = natural fields.max_check_attempts
object_cell base about fields object_column.Notes = Words fields.notes
object_cell base about fields object_column.NotesUrl = Words fields.notes_url
object_cell base about fields object_column.ActionUrl = Words fields.action_url
object_cell base about fields object_column.IconImage = Words fields.icon_image
object_cell base about fields object_column.Contacts =
    Texts (contact_names_of base (contacts_of base fields))
object_cell base about fields object_column.ContactGroups =
    Texts (contact_group_names_of base fields.contact_groups)
object_cell base about fields object_column.Groups = Texts (group_names_of base about)
object_cell base about fields object_column.CustomVariableNames = Texts (variable_names_of fields)
object_cell base about fields object_column.CustomVariableValues = Texts (variable_values_of fields)

-- ---- the status of a host or a service

-- the state where it is hard, else the last one that was; being well is hard at once
abbrev pub hard_state : Status → ℤ
hard_state status =
    if int_eq status.state (pos 0) then pos 0
    else if status.state_type == 1 then status.state
    else status.last_hard_state

-- how many downtimes of the object hold
abbrev pub depth_of : State → Object → ℕ
depth_of s about =
    length
    (filter (λ downtime. downtime.active && is_same_object downtime.object about) s.downtimes)

-- the ids of the object's downtimes, whether they hold or not
abbrev pub downtime_ids_of : State → Object → List ℕ
downtime_ids_of s about =
    map (λ downtime. downtime.id)
    (filter (λ downtime. is_same_object downtime.object about) s.downtimes)

abbrev pub comment_ids_of : State → Object → List ℕ
comment_ids_of s about =
    map (λ comment. comment.id) (filter (λ comment. is_same_object comment.object about) s.comments)

-- the name of the time period in which people are notified about an object
abbrev pub notification_period_of : Base → Object → List ℕ
notification_period_of base (object.Host id) =
    list_at (λ host. host.fields.notification_period) base.hosts id.0
notification_period_of base (object.Service id) =
    list_at (λ service. service.fields.notification_period) base.services id.0

-- flapping and the period follow the log
abbrev pub status_cell : State → Object → Status → StatusColumn → Value
status_cell s about status status_column.State = Number status.state
status_cell s about status status_column.StateType = natural status.state_type
status_cell s about status status_column.HardState = Number (hard_state status)
status_cell s about status status_column.LastHardState = Number status.last_hard_state
status_cell s about status status_column.HasBeenChecked = natural status.has_been_checked
status_cell s about status status_column.CurrentAttempt = natural status.current_attempt
status_cell s about status status_column.LastCheck = natural status.last_check
status_cell s about status status_column.LastStateChange = natural status.last_state_change
status_cell s about status status_column.LastHardStateChange = natural status.last_hard_state_change
status_cell s about status status_column.PluginOutput = Words status.plugin_output
status_cell s about status status_column.PerfData = Words status.perf_data
status_cell s about status status_column.Acknowledged = natural status.acknowledged
status_cell s about status status_column.AcknowledgementType = natural status.acknowledgement_type
status_cell s about status status_column.ScheduledDowntimeDepth = natural (depth_of s about)
status_cell s about status status_column.IsFlapping = flag (is_flapping s.base s.log about)
status_cell s about status status_column.NotificationsEnabled = natural status.notifications_enabled
status_cell s about status status_column.InNotificationPeriod =
    flag (is_period_on s.log (notification_period_of s.base about))
status_cell s about status status_column.Comments = Numbers (comment_ids_of s about)
status_cell s about status status_column.Downtimes = Numbers (downtime_ids_of s about)

-- ---- counters

-- of the services of a host, of the services of the hosts that a group lists, or of the services
-- that a group lists, as far as they are seen
abbrev pub services_cell : State → View → Scope → ServiceCounter → Value
services_cell s view scope service_counter.NumServices =
    natural (services_counted s view scope counted.All)
services_cell s view scope service_counter.NumServicesOk =
    natural (services_counted s view scope (counted.In (pos 0)))
services_cell s view scope service_counter.NumServicesWarn =
    natural (services_counted s view scope (counted.In (pos 1)))
services_cell s view scope service_counter.NumServicesCrit =
    natural (services_counted s view scope (counted.In (pos 2)))
services_cell s view scope service_counter.NumServicesUnknown =
    natural (services_counted s view scope (counted.In (pos 3)))
services_cell s view scope service_counter.NumServicesPending =
    natural (services_counted s view scope counted.Pending)
services_cell s view scope service_counter.WorstServiceState = natural (worst_service s view scope)

-- of the hosts that a group lists, as far as they are seen
abbrev pub hosts_cell : State → View → HostGroupId → HostCounter → Value
hosts_cell s view group host_counter.NumHosts = natural (hosts_counted s view group counted.All)
hosts_cell s view group host_counter.NumHostsUp =
    natural (hosts_counted s view group (counted.In (pos 0)))
hosts_cell s view group host_counter.NumHostsDown =
    natural (hosts_counted s view group (counted.In (pos 1)))
hosts_cell s view group host_counter.NumHostsUnreach =
    natural (hosts_counted s view group (counted.In (pos 2)))
hosts_cell s view group host_counter.NumHostsPending =
    natural (hosts_counted s view group counted.Pending)
hosts_cell s view group host_counter.WorstHostState = natural (worst_host s view group)

-- ---- hosts

-- a host of a state: its id, what the object file says of it, and its status
pub record HostRecord : Type 0 where
  pub id : HostId
  pub host : Host
  pub status : Status

-- what the row of a host says
abbrev pub host_record : HostRow → HostRecord
host_record row = record { id = row.id; host = row.host.now; status = row.status.now }

-- the host with an id
abbrev pub host_at : State → HostId → Option HostRecord
host_at s id =
    made_at (λ host status. record { id = id; host = host; status = status })
    s.base.hosts s.host_status id.0

abbrev pub host_cell : State → View → HostRecord → HostColumn → Value
host_cell s view about host_column.Name = Words about.host.host_name
host_cell s view about host_column.Alias = Words about.host.alias
host_cell s view about host_column.Address = Words about.host.address
host_cell s view about (host_column.Object column) =
    object_cell s.base (object.Host about.id) about.host.fields column
host_cell s view about host_column.Parents =
    Texts (parent_names_of s.base view about.host)
host_cell s view about host_column.Childs =
    Texts (child_names_of s.base view about.id)
host_cell s view about host_column.Services =
    Texts (descriptions_of s.base view about.id)
host_cell s view about (host_column.Status column) =
    status_cell s (object.Host about.id) about.status column
host_cell s view about (host_column.Counter column) =
    services_cell s view (scope.Host about.id) column

-- ---- services

-- a service of a state: its id, what the object file says of it, and its status
pub record ServiceRecord : Type 0 where
  pub id : ServiceId
  pub service : Service
  pub status : Status

-- what the row of a service says
abbrev pub service_record : ServiceRow → ServiceRecord
service_record row = record { id = row.id; service = row.service.now; status = row.status.now }

-- the service with an id
abbrev pub service_at : State → ServiceId → Option ServiceRecord
service_at s id =
    made_at (λ service status. record { id = id; service = service; status = status })
    s.base.services s.service_status id.0

abbrev pub service_cell : State → ServiceRecord → ServiceColumn → Value
service_cell s about service_column.Description = Words about.service.service_description
service_cell s about (service_column.Object column) =
    object_cell s.base (object.Service about.id) about.service.fields column
service_cell s about (service_column.Status column) =
    status_cell s (object.Service about.id) about.status column
