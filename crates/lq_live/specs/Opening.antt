-- The state that a base and its log open with.
use Rattle.std.specs.Prelude.{Bool, Option, Some, List, [], ◌∷◌}
use Rattle.lq_records.specs.declared.base.Base.{Base}
use Rattle.lq_records.specs.declared.object.Object.{Object}
use Rattle.lq_events.specs.declared.log_entry.LogEntry.{LogEntry}
use Rattle.lq_events.specs.declared.status.Status.{Status}
use Rattle.lq_log.specs.Book.{last_time}
use Rattle.lq_log.specs.Told.{object_of, told_by}
use Rattle.lq_log.specs.declared.telling.Told.{Told}
use Rattle.lq_log.specs.declared.telling.Told.TheVariants as told
use Rattle.lq_live.specs.Results.{status_after}
use Rattle.lq_live.specs.State.{State, all_pending, with_status}

-- the status after a state or alert line, which is recorded as a check result of the line's second
abbrev pub status_told : LogEntry → Bool → Status → Status
status_told entry hard old =
    status_after entry.time (record { hard = hard; number = entry.attempt }) entry.state
    entry.output old

abbrev pub where_told : LogEntry → Option Told → Option Object → State → State
where_told entry (Some (told.State hard)) (Some object) s =
    with_status (status_told entry hard) object s
where_told entry _ _ s = s

-- a state or alert line about an object of the base changes that object's status, and any other
-- line changes nothing
abbrev pub with_log_line : LogEntry → State → State
with_log_line entry s = where_told entry (told_by entry) (object_of s.base entry) s

-- the lines of a log in their order
abbrev pub with_lines : List LogEntry → State → State
with_lines [] s = s
with_lines (entry ∷ log) s = with_lines log (with_log_line entry s)

-- Each object is pending, and then the lines of the log are recorded. The present second is that of
-- the last line, 0 without one.
abbrev pub opening_state : Base → List LogEntry → State
opening_state base log =
    record (with_lines log (all_pending base)) { log = log; now = last_time log }
