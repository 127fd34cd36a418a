-- The columns on a slice of an object's history.
use Rattle.std.specs.Prelude.{List, codes, [], ◌∷◌}
use Rattle.lq_schema.specs.Heading.{Heading, heading}
use Rattle.lq_schema.specs.declared.slice.SliceColumn.{SliceColumn}
use Rattle.lq_schema.specs.declared.slice.SliceColumn.TheVariants as slice
use Rattle.lq_schema.specs.declared.columns.ColKind.TheVariants as kind

abbrev pub slice_heading : SliceColumn → Heading
slice_heading slice.Time = heading (codes "time") kind.Int
slice_heading slice.From = heading (codes "from") kind.Int
slice_heading slice.Until = heading (codes "until") kind.Int
slice_heading slice.Duration = heading (codes "duration") kind.Int
slice_heading slice.DurationPart = heading (codes "duration_part") kind.Int
slice_heading slice.DurationOk = heading (codes "duration_ok") kind.Int
slice_heading slice.DurationWarning = heading (codes "duration_warning") kind.Int
slice_heading slice.DurationCritical = heading (codes "duration_critical") kind.Int
slice_heading slice.DurationUnknown = heading (codes "duration_unknown") kind.Int
slice_heading slice.DurationUnmonitored = heading (codes "duration_unmonitored") kind.Int
slice_heading slice.State = heading (codes "state") kind.Int
slice_heading slice.HostDown = heading (codes "host_down") kind.Int
slice_heading slice.InDowntime = heading (codes "in_downtime") kind.Int
slice_heading slice.InHostDowntime = heading (codes "in_host_downtime") kind.Int
slice_heading slice.IsFlapping = heading (codes "is_flapping") kind.Int
slice_heading slice.InNotificationPeriod = heading (codes "in_notification_period") kind.Int
slice_heading slice.NotificationPeriod = heading (codes "notification_period") kind.Str
slice_heading slice.HostName = heading (codes "host_name") kind.Str
slice_heading slice.ServiceDescription = heading (codes "service_description") kind.Str
slice_heading slice.LogOutput = heading (codes "log_output") kind.Str

-- in order
abbrev pub slice_columns : List SliceColumn
slice_columns =
    slice.Time ∷ slice.From ∷ slice.Until ∷ slice.Duration ∷ slice.DurationPart
    ∷ slice.DurationOk ∷ slice.DurationWarning ∷ slice.DurationCritical ∷ slice.DurationUnknown
    ∷ slice.DurationUnmonitored ∷ slice.State ∷ slice.HostDown ∷ slice.InDowntime
    ∷ slice.InHostDowntime ∷ slice.IsFlapping ∷ slice.InNotificationPeriod
    ∷ slice.NotificationPeriod ∷ slice.HostName ∷ slice.ServiceDescription ∷ slice.LogOutput ∷ []
