-- The columns on the status of a host or a service.
use Rattle.std.specs.Prelude.{List, codes, [], ◌∷◌}
use Rattle.lq_schema.specs.Heading.{Heading, heading}
use Rattle.lq_schema.specs.declared.status.StatusColumn.{StatusColumn}
use Rattle.lq_schema.specs.declared.status.StatusColumn.TheVariants as status
use Rattle.lq_schema.specs.declared.columns.ColKind.TheVariants as kind

abbrev pub status_heading : StatusColumn → Heading
status_heading status.State = heading (codes "state") kind.Int
status_heading status.StateType = heading (codes "state_type") kind.Int
status_heading status.HardState = heading (codes "hard_state") kind.Int
status_heading status.LastHardState = heading (codes "last_hard_state") kind.Int
status_heading status.HasBeenChecked = heading (codes "has_been_checked") kind.Int
status_heading status.CurrentAttempt = heading (codes "current_attempt") kind.Int
status_heading status.LastCheck = heading (codes "last_check") kind.Int
status_heading status.LastStateChange = heading (codes "last_state_change") kind.Int
status_heading status.LastHardStateChange = heading (codes "last_hard_state_change") kind.Int
status_heading status.PluginOutput = heading (codes "plugin_output") kind.Str
status_heading status.PerfData = heading (codes "perf_data") kind.Str
status_heading status.Acknowledged = heading (codes "acknowledged") kind.Int
status_heading status.AcknowledgementType = heading (codes "acknowledgement_type") kind.Int
status_heading status.ScheduledDowntimeDepth = heading (codes "scheduled_downtime_depth") kind.Int
status_heading status.IsFlapping = heading (codes "is_flapping") kind.Int
status_heading status.NotificationsEnabled = heading (codes "notifications_enabled") kind.Int
status_heading status.InNotificationPeriod = heading (codes "in_notification_period") kind.Int
status_heading status.Comments = heading (codes "comments") kind.Nums
status_heading status.Downtimes = heading (codes "downtimes") kind.Nums

-- in order
abbrev pub status_columns : List StatusColumn
status_columns =
    status.State ∷ status.StateType ∷ status.HardState ∷ status.LastHardState
    ∷ status.HasBeenChecked ∷ status.CurrentAttempt ∷ status.LastCheck ∷ status.LastStateChange
    ∷ status.LastHardStateChange ∷ status.PluginOutput ∷ status.PerfData ∷ status.Acknowledged
    ∷ status.AcknowledgementType ∷ status.ScheduledDowntimeDepth ∷ status.IsFlapping
    ∷ status.NotificationsEnabled ∷ status.InNotificationPeriod ∷ status.Comments
    ∷ status.Downtimes ∷ []
