-- While a log is read, a status keeps the whole output of its last line: most lines are followed by
-- others about the same object, and only the last output is parted into its two texts.
use Rattle.std.specs.Prelude.{Bool, [], map}
use Rattle.std.specs.List.{before_first, after_first}
use Rattle.lq_events.specs.declared.log_entry.LogEntry.{LogEntry}
use Rattle.lq_events.specs.declared.status.Status.{Status}
use Rattle.lq_live.specs.Opening.{status_told}
use Rattle.lq_live.specs.Results.{is_bar}
use Rattle.lq_live.specs.State.{State}

-- the status after a state or alert line, with the whole output
abbrev pub whole_told : LogEntry → Bool → Status → Status
whole_told entry hard old =
    record (status_told entry hard old) { plugin_output = entry.output; perf_data = [] }

-- the status whose output is parted
abbrev pub with_parted_output : Status → Status
with_parted_output status = record status {
  plugin_output = before_first is_bar status.plugin_output;
  perf_data = after_first is_bar status.plugin_output;
}

-- the state whose outputs are parted
abbrev pub all_parted : State → State
all_parted s = record s {
  host_status = map with_parted_output s.host_status;
  service_status = map with_parted_output s.service_status;
}
