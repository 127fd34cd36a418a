-- The values of the columns on slices of histories.
use Rattle.std.specs.Prelude.{ℕ, ◌-◌, ◌*◌, ◌/◌, ◌==◌, ℤ, pos, negsuc, Option, Some, None, List, []}
use Rattle.std.specs.Prelude.{if◌then◌else◌}
use Rattle.std.specs.Ordering.{int_eq}
use Rattle.lq_records.specs.Places.{list_at}
use Rattle.lq_records.specs.declared.base.Base.{Base}
use Rattle.lq_records.specs.declared.ids.HostId.{HostId}
use Rattle.lq_records.specs.declared.object.Object.{Object}
use Rattle.lq_records.specs.declared.object.Object.TheVariants as object
use Rattle.lq_events.specs.declared.log_entry.LogEntry.{LogEntry}
use Rattle.lq_schema.specs.declared.slice.SliceColumn.{SliceColumn}
use Rattle.lq_schema.specs.declared.slice.SliceColumn.TheVariants as slice
use Rattle.lq_schema.specs.Kinds.{slice_kind}
use Rattle.lq_schema.specs.Value.{Value, Number, Words, empty_value}
use Rattle.lq_statehist.specs.declared.slice.Slice.{Slice}
use Rattle.lq_live.specs.State.{State}
use Rattle.lq_columns.specs.Cells.{flag, natural, notification_period_of}
use Rattle.lq_tables.specs.declared.history_row.HistoryRow.{HistoryRow}

-- ---- seconds

-- how many seconds a slice has
abbrev pub duration_of : Slice → ℕ
duration_of part = part.until - part.from

-- how many it has where its state is this one, else 0
abbrev pub seconds_in : ℤ → Slice → ℕ
seconds_in state part = if int_eq part.state state then duration_of part else 0

-- how many millionths of a whole some seconds are, rounded down; 0 of nothing
abbrev pub millionths : ℕ → ℕ → ℕ
millionths seconds whole = if whole == 0 then 0 else seconds * 1000000 / whole

-- how much of the asked interval a slice takes, in millionths
abbrev pub part_of_interval : HistoryRow → ℕ
part_of_interval row = millionths (duration_of row.slice) (row.until - row.from)

-- ---- what a slice is of

-- the name of the host with an id
abbrev pub name_of_host : Base → HostId → List ℕ
name_of_host base id = list_at (λ host. host.host_name) base.hosts id.0

-- the name of the host itself, or of the one that the service runs on
abbrev pub host_name_of : Base → Object → List ℕ
host_name_of base (object.Host id) = name_of_host base id
host_name_of base (object.Service id) =
    list_at (λ service. name_of_host base service.host) base.services id.0

-- empty for a host
abbrev pub description_of : Base → Object → List ℕ
description_of base (object.Host id) = []
description_of base (object.Service id) =
    list_at (λ service. service.service_description) base.services id.0

-- the output of the line at a place of the log, empty without a line
abbrev pub output_at : List LogEntry → Option ℕ → List ℕ
output_at log None = []
output_at log (Some place) = list_at (λ line. line.output) log place

-- ---- all columns

abbrev pub slice_cell : State → Option HistoryRow → SliceColumn → Value
slice_cell s None column = empty_value (slice_kind column)
slice_cell s (Some row) slice.Time = natural row.slice.from
slice_cell s (Some row) slice.From = natural row.slice.from
slice_cell s (Some row) slice.Until = natural row.slice.until
slice_cell s (Some row) slice.Duration = natural (duration_of row.slice)
slice_cell s (Some row) slice.DurationPart = natural (part_of_interval row)
slice_cell s (Some row) slice.DurationOk = natural (seconds_in (pos 0) row.slice)
slice_cell s (Some row) slice.DurationWarning = natural (seconds_in (pos 1) row.slice)
slice_cell s (Some row) slice.DurationCritical = natural (seconds_in (pos 2) row.slice)
slice_cell s (Some row) slice.DurationUnknown = natural (seconds_in (pos 3) row.slice)
slice_cell s (Some row) slice.DurationUnmonitored = natural (seconds_in (negsuc 0) row.slice)
slice_cell s (Some row) slice.State = Number row.slice.state
slice_cell s (Some row) slice.HostDown = flag row.slice.host_down
slice_cell s (Some row) slice.InDowntime = flag row.slice.in_downtime
slice_cell s (Some row) slice.InHostDowntime = flag row.slice.in_host_downtime
slice_cell s (Some row) slice.IsFlapping = flag row.slice.is_flapping
slice_cell s (Some row) slice.InNotificationPeriod = flag row.slice.in_period
slice_cell s (Some row) slice.NotificationPeriod =
    Words (notification_period_of s.base row.slice.object)
slice_cell s (Some row) slice.HostName = Words (host_name_of s.base row.slice.object)
slice_cell s (Some row) slice.ServiceDescription = Words (description_of s.base row.slice.object)
slice_cell s (Some row) slice.LogOutput = Words (output_at s.log row.slice.line)
