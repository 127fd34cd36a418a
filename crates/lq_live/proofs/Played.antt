-- The edits of a step, played, are the step.
use Rattle.std.proofs.Common.{◌≡◌, ℕ, ℤ, pos, ◌&&◌, nat_le, not, Bool, true, false, Option, Some, None, List, [], ◌∷◌, ◌++◌, filter, refl, sym, ap, ◌∙◌, append-nil, append_assoc, if◌then◌else◌}
use Rattle.std.specs.List.{find}
use Rattle.lq_records.specs.declared.object.Object.{Object}
use Rattle.lq_records.specs.declared.object.Object.TheVariants as object
use Rattle.lq_records.specs.declared.object.ObjectKind.{ObjectKind}
use Rattle.lq_events.specs.declared.log_entry.LogEntry.{LogEntry}
use Rattle.lq_events.specs.declared.status.Downtime.{Downtime}
use Rattle.lq_events.specs.declared.status.Status.{Status}
use Rattle.lq_events.specs.declared.update.Update.{Update}
use Rattle.lq_log.specs.Written.{entry_of_form}
use Rattle.lq_log.specs.declared.written.DowntimeChange.{DowntimeChange}
use Rattle.lq_log.specs.declared.written.DowntimeChange.TheVariants as downtime_change
use Rattle.lq_log.specs.declared.written.Form.TheVariants as form
use Rattle.lq_live.specs.State.{LineNames, State, names_of, object_status}
use Rattle.lq_live.specs.Results.{Attempt, check_attempt, differs, ends_acknowledgement, is_ok, most_code, status_after}
use Rattle.lq_live.specs.Downtimes.{Event, downtimes_after, crosses, depth, due, happen, happen_all, line_if, only_if}
use Rattle.lq_live.specs.Effects.{AcknowledgeProblem, AddComment, CheckResult, Command, DelComment, DelDowntime, DisableNotifications, DisableNotificationsOf, EnableNotifications, EnableNotificationsOf, NewComment, NewDowntime, RemoveAcknowledgement, ScheduleDowntime, Unknown, acknowledge_in, add_line, alert_line, with_check_result, command_of_act, comment_of, downtime_of, effect_of, holds_object, has_id_and_kind, is_taken, remove_found, result_of, schedule, take_result, when}
use Rattle.lq_live.specs.Edits.{line_edits, make_edit, play_edits, downtimes_at}
use Rattle.lq_live.specs.Ids.{HasRisingIds}
use Rattle.lq_live.specs.Kept.{AllOrdered, at_second}
use Rattle.lq_live.specs.Order.{after_all, due_lines}
use Rattle.lq_live.specs.Step.{ready, second_after, step}
use Rattle.lq_live.specs.StepEdits.{acknowledge_edits_in, advance_edits, change_edits, check_edits, edits_at, effect_edits, known_edits, remove_found_edits, result_edits}
use Rattle.lq_live.specs.declared.edit.Edit.{Edit}
use Rattle.lq_live.specs.declared.edit.Edit.TheVariants as edit
use Rattle.lq_live.proofs.Fates.{due_settled}

pub play_append : (a b : List Edit) (s : State) → play_edits (a ++ b) s ≡ play_edits b (play_edits a s)
play_append [] b s = refl
play_append (first ∷ a) b s = play_append a b (make_edit first s)

-- edits of lines add their lines
pub lines_played : (entries : List LogEntry) (s : State) → play_edits (line_edits entries) s ≡ record s { log = s.log ++ entries }
lines_played [] s = ap (λ log. record s { log = log }) (sym (append-nil s.log))
lines_played (entry ∷ entries) s =
    lines_played entries (add_line entry s) ∙ ap (λ log. record s { log = log }) (append_assoc s.log (entry ∷ []) entries)

-- ---- the events

happened : (events : List Event) (s : State)
    → happen_all events s ≡ record s { downtimes = after_all events s.downtimes; log = s.log ++ due_lines s.base events s.downtimes }
happened [] s = ap (λ log. record s { log = log }) (sym (append-nil s.log))
happened (event ∷ events) s =
    happened events (happen event s)
    ∙ ap (λ log. record s { downtimes = after_all events (downtimes_after event s.downtimes); log = log })
    (append_assoc s.log _ (due_lines s.base events (downtimes_after event s.downtimes)))

-- a state before its command, its fields beside the old ones
abbrev pub ready_by : State → Update → State
ready_by s update =
    let second : ℕ = second_after s update in
    record s {
      now = second;
      downtimes = downtimes_at second s.downtimes;
      log = (s.log ++ due_lines s.base (due second s.downtimes) s.downtimes) ++ entry_of_form second (form.External update.text) ∷ [];
    }

pub ready_is : (s : State) (update : Update) → HasRisingIds s → AllOrdered s.downtimes → ready s update ≡ ready_by s update
ready_is s update ids order =
    let second : ℕ = second_after s update in
    ap (add_line (entry_of_form second (form.External update.text)))
    (happened (due second s.downtimes) (record s { now = second }))
    ∙ ap (λ downtimes. record (ready_by s update) { downtimes = downtimes }) (due_settled second s.next_downtime s.downtimes ids.downtimes order)

-- ---- the effects, whose edits are made before the log changes

abbrev logged : State → List LogEntry → State
logged s log = record s { log = log }

if_plays : (test : Bool) (edits : List Edit) (changed s : State) → play_edits edits s ≡ changed → play_edits (if test then edits else []) s ≡ (if test then changed else s)
if_plays true edits changed s is = is
if_plays false edits changed s is = refl

unless_plays : (test : Bool) (edits : List Edit) (changed s : State) → play_edits edits s ≡ changed → play_edits (if test then [] else edits) s ≡ (if test then s else changed)
unless_plays true edits changed s is = refl
unless_plays false edits changed s is = is

one_plays : (test : Bool) (edit : Edit) (rest : List Edit) (s : State) → play_edits (only_if test edit ++ rest) s ≡ play_edits rest (when test (make_edit edit) s)
one_plays true edit rest s = refl
one_plays false edit rest s = refl

alone_plays : (test : Bool) (edit : Edit) (changed s : State) → make_edit edit s ≡ changed → play_edits (only_if test edit) s ≡ (if test then changed else s)
alone_plays true edit changed s is = is
alone_plays false edit changed s is = refl

known_plays : (object : Object) (names : LineNames) (attempt : Attempt) (new : ℤ) (output : List ℕ) (old : Status) (s : State)
    → play_edits (known_edits s.now object names attempt new output old) s ≡ take_result object names attempt new output old s
known_plays object names attempt new output old s =
    one_plays (differs attempt new old) (edit.Line (alert_line s.now names attempt new output)) _ s
    ∙ one_plays (ends_acknowledgement new old) (edit.EndAcknowledgement object) (edit.SetStatus object (status_after s.now attempt new output old) ∷ []) _

result_plays : (object : Object) (new : ℤ) (output : List ℕ) (names : Option LineNames) (old : Option Status) (s : State)
    → play_edits (result_edits s.now s.base object new output names old) s ≡ result_of object new output names old s
result_plays object new output None old s = refl
result_plays object new output (Some names) None s = refl
result_plays object new output (Some names) (Some old) s = known_plays object names (check_attempt s.base object new old) new output old s

status_same : (object : Object) (s : State) (log : List LogEntry) → object_status s object ≡ object_status (logged s log) object
status_same (object.Host id) s log = refl
status_same (object.Service id) s log = refl

check_plays : (object : Object) (code : ℕ) (output : List ℕ) (s : State) (log : List LogEntry)
    → play_edits (check_edits object code output s) (logged s log) ≡ with_check_result object code output (logged s log)
check_plays object code output s log =
    if_plays (nat_le code (most_code object)) (result_edits s.now s.base object (pos code) output (names_of s.base object) (object_status s object)) _ (logged s log)
    (ap (λ old. play_edits (result_edits s.now s.base object (pos code) output (names_of s.base object) old) (logged s log)) (status_same object s log)
    ∙ result_plays object (pos code) output (names_of s.base object) (object_status (logged s log) object) (logged s log))

acknowledge_plays : (old : Option Status) (object : Object) (sticky : ℕ) (new : NewComment) (s : State) (log : List LogEntry)
    → play_edits (acknowledge_edits_in old object sticky new s) (logged s log) ≡ acknowledge_in old object sticky new (logged s log)
acknowledge_plays None object sticky new s log = refl
acknowledge_plays (Some old) object sticky new s log = unless_plays (is_ok old.state) _ _ (logged s log) refl

-- a change of the downtimes after its line
change_plays : (change : DowntimeChange) (object : Object) (changed : List Downtime) (edit : Edit) (s : State) (log : List LogEntry)
    → play_edits (change_edits change object changed s ++ edit ∷ []) (logged s log)
    ≡ make_edit edit (logged s (log ++ line_if (crosses (depth object s.downtimes) (depth object changed)) s.now change (names_of s.base object)))
change_plays change object changed edit s log =
    play_append (change_edits change object changed s) (edit ∷ []) (logged s log)
    ∙ ap (make_edit edit) (lines_played (line_if (crosses (depth object s.downtimes) (depth object changed)) s.now change (names_of s.base object)) (logged s log))

schedule_plays : (new : NewDowntime) (s : State) (log : List LogEntry)
    → play_edits (effect_edits (ScheduleDowntime new) s) (logged s log) ≡ schedule new (logged s log)
schedule_plays new s log =
    if_plays (holds_object s.base new.object && is_taken s.now new) _ _ (logged s log)
    (change_plays downtime_change.Started new.object (s.downtimes ++ downtime_of new s ∷ []) (edit.AddDowntime (downtime_of new s)) s log)

remove_plays : (found : Option Downtime) (kind : ObjectKind) (id : ℕ) (s : State) (log : List LogEntry)
    → play_edits (remove_found_edits found kind id s) (logged s log) ≡ remove_found found kind id (logged s log)
remove_plays None kind id s log = refl
remove_plays (Some found) kind id s log =
    change_plays downtime_change.Cancelled found.object (filter (λ downtime. not (has_id_and_kind kind id downtime.id downtime.object)) s.downtimes) (edit.RemoveDowntime kind id) s log

effect_plays : (command : Command) (s : State) (log : List LogEntry) → play_edits (effect_edits command s) (logged s log) ≡ effect_of command (logged s log)
effect_plays (CheckResult object code output) s log = check_plays object code output s log
effect_plays (AddComment object new) s log = alone_plays (holds_object s.base object) (edit.AddComment (comment_of 1 object new s)) _ _ refl
effect_plays (DelComment kind id) s log = refl
effect_plays (AcknowledgeProblem object sticky new) s log =
    acknowledge_plays (object_status s object) object sticky new s log
    ∙ ap (λ old. acknowledge_in old object sticky new (logged s log)) (status_same object s log)
effect_plays (RemoveAcknowledgement object) s log = if_plays (holds_object s.base object) _ _ _ refl
effect_plays (ScheduleDowntime new) s log = schedule_plays new s log
effect_plays (DelDowntime kind id) s log = remove_plays (find (λ downtime. has_id_and_kind kind id downtime.id downtime.object) s.downtimes) kind id s log
effect_plays (EnableNotificationsOf object) s log = alone_plays (holds_object s.base object) (edit.SetNotifications object 1) _ _ refl
effect_plays (DisableNotificationsOf object) s log = alone_plays (holds_object s.base object) (edit.SetNotifications object 0) _ _ refl
effect_plays EnableNotifications s log = refl
effect_plays DisableNotifications s log = refl
effect_plays Unknown s log = refl

-- ---- the step

-- the step, from the edits of the effect
pub step_by : (s : State) (update : Update) → HasRisingIds s → AllOrdered s.downtimes
    → play_edits (effect_edits (command_of_act update.act) (at_second (second_after s update) s)) (ready_by s update) ≡ step s update
step_by s update ids order =
    effect_plays (command_of_act update.act) (at_second (second_after s update) s) (ready_by s update).log
    ∙ ap (effect_of (command_of_act update.act)) (sym (ready_is s update ids order))

pub edits_played : (s : State) (update : Update) → HasRisingIds s → AllOrdered s.downtimes
    → play_edits (edits_at (second_after s update) s update) s ≡ step s update
unfolding advance_edits
edits_played s update ids order =
    let second : ℕ = second_after s update in
    let lines : List LogEntry = due_lines s.base (due second s.downtimes) s.downtimes in
    let line : Edit = edit.Line (entry_of_form second (form.External update.text)) in
    let changes : List Edit = effect_edits (command_of_act update.act) (at_second second s) in
    play_append (line_edits lines) (line ∷ changes) (at_second second s)
    ∙ ap (play_edits (line ∷ changes)) (lines_played lines (at_second second s))
    ∙ step_by s update ids order
