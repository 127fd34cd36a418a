-- A step adds lines at the end of the log, and keeps the base.
use Rattle.std.proofs.Common.{◌≡◌, List, [], ◌∷◌, ◌++◌, sym, ap, ◌∙◌, subst, append-nil, append_assoc, refl}
use Rattle.lq_records.specs.declared.object.Object.{Object}
use Rattle.lq_records.specs.declared.object.Object.TheVariants as object
use Rattle.lq_events.specs.declared.log_entry.LogEntry.{LogEntry}
use Rattle.lq_events.specs.declared.status.Status.{Status}
use Rattle.lq_events.specs.declared.update.Update.{Update}
use Rattle.lq_live.specs.State.{State, with_status}
use Rattle.lq_live.specs.Always.{IsFront}
use Rattle.lq_live.specs.Effects.{acknowledge_as, command_of_act}
use Rattle.lq_live.specs.Edits.{make_edit, play_edits}
use Rattle.lq_live.specs.Ids.{HasRisingIds}
use Rattle.lq_live.specs.Kept.{AllOrdered, at_second}
use Rattle.lq_live.specs.Step.{second_after, step}
use Rattle.lq_live.specs.StepEdits.{effect_edits}
use Rattle.lq_live.specs.declared.edit.Edit.{Edit}
use Rattle.lq_live.specs.declared.edit.Edit.TheVariants as edit
use Rattle.lq_live.proofs.Played.{ready_by, step_by}

pub own_front : (log : List LogEntry) → IsFront log log
own_front log = record { rest = []; is = sym (append-nil log) }

more_front : (log more : List LogEntry) → IsFront log (log ++ more)
more_front log more = record { rest = more; is = λ i. log ++ more }

front_on : (a b c : List LogEntry) → IsFront a b → IsFront b c → IsFront a c
front_on a b c ab bc = record { rest = ab.rest ++ bc.rest; is = bc.is ∙ ap (λ log. log ++ bc.rest) ab.is ∙ append_assoc a ab.rest bc.rest }

status_front : (change : Status → Status) (object : Object) (s : State) → IsFront s.log (with_status change object s).log
status_front change (object.Host id) s = own_front s.log
status_front change (object.Service id) s = own_front s.log

edit_front : (edit : Edit) (s : State) → IsFront s.log (make_edit edit s).log
edit_front (edit.Line entry) s = more_front s.log _
edit_front (edit.SetStatus object status) s = status_front (λ _. status) object s
edit_front (edit.SetAcknowledgement object kind) s = status_front (acknowledge_as kind) object s
edit_front (edit.SetNotifications object on) s = status_front (λ status. record status { notifications_enabled = on }) object s
edit_front _ s = own_front s.log

play_front : (edits : List Edit) (s : State) → IsFront s.log (play_edits edits s).log
play_front [] s = own_front s.log
play_front (edit ∷ edits) s = front_on s.log (make_edit edit s).log (play_edits edits (make_edit edit s)).log (edit_front edit s) (play_front edits (make_edit edit s))

pub step_front : (s : State) (update : Update) → HasRisingIds s → AllOrdered s.downtimes → IsFront s.log (step s update).log
step_front s update ids order =
    let changes : List Edit = effect_edits (command_of_act update.act) (at_second (second_after s update) s) in
    subst (λ t. IsFront s.log t.log) (step_by s update ids order)
    (front_on s.log (ready_by s update).log (play_edits changes (ready_by s update)).log
    (front_on s.log _ (ready_by s update).log (more_front s.log _) (more_front _ _))
    (play_front changes (ready_by s update)))

-- ---- the base

status_base : (change : Status → Status) (object : Object) (s : State) → (with_status change object s).base ≡ s.base
status_base change (object.Host id) s = refl
status_base change (object.Service id) s = refl

edit_base : (edit : Edit) (s : State) → (make_edit edit s).base ≡ s.base
edit_base (edit.SetStatus object status) s = status_base (λ _. status) object s
edit_base (edit.SetAcknowledgement object kind) s = status_base (acknowledge_as kind) object s
edit_base (edit.SetNotifications object on) s = status_base (λ status. record status { notifications_enabled = on }) object s
edit_base _ s = refl

play_base : (edits : List Edit) (s : State) → (play_edits edits s).base ≡ s.base
play_base [] s = refl
play_base (edit ∷ edits) s = play_base edits (make_edit edit s) ∙ edit_base edit s

pub step_base : (s : State) (update : Update) → HasRisingIds s → AllOrdered s.downtimes → (step s update).base ≡ s.base
step_base s update ids order =
    ap (λ (t : State). t.base) (sym (step_by s update ids order))
    ∙ play_base (effect_edits (command_of_act update.act) (at_second (second_after s update) s)) (ready_by s update)
