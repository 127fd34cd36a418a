-- How the code works: a step is made as a list of single changes, and these are played then.
use Rattle.std.specs.Prelude.{ℕ, ◌+◌, ◌||◌, not, nat_le, nat_lt, Bool, Option, Some, None, List, []}
use Rattle.std.specs.Prelude.{◌∷◌, ◌++◌, filter, map}
use Rattle.lq_events.specs.declared.log_entry.LogEntry.{LogEntry}
use Rattle.lq_events.specs.declared.status.Downtime.{Downtime}
use Rattle.lq_live.specs.State.{State, with_status}
use Rattle.lq_live.specs.Effects.{acknowledge_as, add_comment, add_line, end_acknowledgement}
use Rattle.lq_live.specs.Effects.{has_id_and_kind, remove_comment}
use Rattle.lq_live.specs.declared.edit.Edit.{Edit}
use Rattle.lq_live.specs.declared.edit.Edit.TheVariants as edit

-- ---- the downtimes when all that is due at a second has happened

abbrev pub begun_by : ℕ → Downtime → Downtime
begun_by second downtime =
    record downtime { active = downtime.active || nat_le downtime.start second }

abbrev pub ends_after : ℕ → Downtime → Bool
ends_after second downtime = nat_lt second downtime.end

-- those that have ended are gone, and those whose start has come are active
abbrev pub downtimes_at : ℕ → List Downtime → List Downtime
downtimes_at second downtimes = map (begun_by second) (filter (ends_after second) downtimes)

-- ---- single changes

abbrev pub make_edit : Edit → State → State
make_edit (edit.Now second) s =
    record s { now = second; downtimes = downtimes_at second s.downtimes }
make_edit (edit.Line entry) s = add_line entry s
make_edit (edit.SetStatus object status) s = with_status (λ _. status) object s
make_edit (edit.SetAcknowledgement object kind) s = with_status (acknowledge_as kind) object s
make_edit (edit.SetNotifications object on) s =
    with_status (λ status. record status { notifications_enabled = on }) object s
make_edit (edit.EndAcknowledgement object) s = end_acknowledgement object s
make_edit (edit.AddComment comment) s = add_comment comment s
make_edit (edit.RemoveComment kind id) s = remove_comment kind id s
make_edit (edit.AddDowntime downtime) s = record s {
  downtimes = s.downtimes ++ downtime ∷ [];
  next_downtime = s.next_downtime + 1;
}
make_edit (edit.RemoveDowntime kind id) s = record s {
  downtimes = filter (λ downtime. not (has_id_and_kind kind id downtime.id downtime.object))
      s.downtimes;
}
make_edit (edit.NotifyAtAll on) s = record s { notifications = on }

abbrev pub play_edits : List Edit → State → State
play_edits [] s = s
play_edits (edit ∷ edits) s = play_edits edits (make_edit edit s)

-- the line that an edit writes
abbrev pub line_of_edit : Edit → Option LogEntry
line_of_edit (edit.Line entry) = Some entry
line_of_edit _ = None

-- the edits that write lines
abbrev pub line_edits : List LogEntry → List Edit
line_edits entries = map (λ entry. edit.Line entry) entries
