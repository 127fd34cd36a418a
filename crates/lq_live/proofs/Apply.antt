-- The edits of a step, as they are made and played.
use Rattle.std.proofs.Common.{◌≡◌, ◌∙◌, ℕ, ◌≤◌, List, [], ◌∷◌, ◌++◌, refl, arith}
use Rattle.lq_events.specs.declared.log_entry.LogEntry.{LogEntry}
use Rattle.lq_events.specs.declared.status.Status.{Status}
use Rattle.lq_records.specs.declared.object.Object.{Object}
use Rattle.lq_records.specs.declared.object.Object.TheVariants as object
use Rattle.lq_events.specs.declared.update.Update.{Update}
use Rattle.lq_log.specs.Book.{last_time}
use Rattle.lq_live.specs.State.{State, with_status}
use Rattle.lq_live.specs.Effects.{acknowledge_as}
use Rattle.lq_live.specs.Edits.{make_edit, play_edits}
use Rattle.lq_live.specs.StepEdits.{step_edits}
use Rattle.lq_live.specs.Kept.{HasRoom, IsKept, Timely}
use Rattle.lq_live.specs.Step.{step}
use Rattle.lq_live.specs.declared.live_state.LiveState.{LiveState}
use Rattle.lq_live.specs.declared.edit.Edit.{Edit}
use Rattle.lq_live.specs.declared.edit.Edit.TheVariants as edit
use Rattle.lq_live.proofs.Kept.{step_timely}

-- ---- one edit after another

last_added : (log : List LogEntry) (entry : LogEntry) → last_time (log ++ entry ∷ []) ≡ entry.time
last_added [] entry = refl
last_added (first ∷ []) entry = refl
last_added (first ∷ next ∷ log) entry = last_added (next ∷ log) entry

timely_status : (change : Status → Status) (object : Object) (rest : List Edit) (s : State) → Timely (last_time s.log) rest → Timely (last_time (with_status change object s).log) rest
timely_status change (object.Host id) rest s timely = timely
timely_status change (object.Service id) rest s timely = timely

pub timely_next : (edit : Edit) (rest : List Edit) (s : State) → Timely (last_time s.log) (edit ∷ rest) → Timely (last_time (make_edit edit s).log) rest
timely_next (edit.Line entry) rest s timely = rw (last_added s.log entry) timely.1
timely_next (edit.SetStatus object status) rest s timely = timely_status (λ _. status) object rest s timely.1
timely_next (edit.SetAcknowledgement object kind) rest s timely = timely_status (acknowledge_as kind) object rest s timely.1
timely_next (edit.SetNotifications object on) rest s timely = timely_status (λ status. record status { notifications_enabled = on }) object rest s timely.1
timely_next _ rest s timely = timely.1

pub room_less : (live : LiveState) (more less : ℕ) → less ≤ more → HasRoom live more → HasRoom live less
room_less live more less low room = record {
  lines = omega (arith, low, room.lines);
  comments = omega (arith, low, room.comments);
  downtimes = omega (arith, low, room.downtimes);
  downtime_ids = omega (arith, low, room.downtime_ids);
  comment_ids = omega (arith, low, room.comment_ids);
}

-- ---- a whole step

pub timely_for : (old mid : State) (update : Update) (edits : List Edit) → IsKept old → edits ≡ step_edits old update → mid ≡ old → Timely (last_time mid.log) edits
timely_for old mid update edits kept is same = rw (is, same) (step_timely old update kept)

pub step_for : (old mid new : State) (update : Update) (edits : List Edit) → play_edits edits old ≡ step old update → mid ≡ old → new ≡ play_edits edits mid → new ≡ step old update
step_for old mid new update edits takes same plays = plays ∙ rw same takes
