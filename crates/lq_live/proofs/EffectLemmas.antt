-- A command's effect writes its lines at the present second, adds what lies ahead, and adds one thing at most.
use Rattle.std.proofs.Common.{◌≡◌, ℕ, ℤ, pos, ◌+◌, ◌<◌, ◌≤◌, ◌&&◌, nat_le, Bool, true, false, Option, Some, None, List, [], ◌∷◌, ◌++◌, filter, not, refl, arith, if◌then◌else◌}
use Rattle.std.proofs.lemmas.Bool.{false≢true}
use Rattle.std.proofs.lemmas.Bool.Decides.{nat_tests}
use Rattle.std.specs.List.{before_first, find}
use Rattle.lq_records.specs.declared.base.Base.{Base}
use Rattle.lq_records.specs.declared.object.Object.{Object}
use Rattle.lq_records.specs.declared.object.ObjectKind.{ObjectKind}
use Rattle.lq_events.specs.declared.log_entry.LogEntry.{LogEntry}
use Rattle.lq_events.specs.declared.status.Downtime.{Downtime}
use Rattle.lq_events.specs.declared.status.Status.{Status}
use Rattle.lq_log.specs.Book.{time_limit}
use Rattle.lq_log.specs.declared.written.DowntimeChange.{DowntimeChange}
use Rattle.lq_log.specs.declared.written.DowntimeChange.TheVariants as downtime_change
use Rattle.lq_log.specs.declared.written.Form.TheVariants as form
use Rattle.lq_log.proofs.LineLemmas.{written_of_line}
use Rattle.lq_live.specs.State.{LineNames, State, names_of, object_status}
use Rattle.lq_live.specs.Results.{Attempt, check_attempt, differs, ends_acknowledgement, is_bar, is_ok, most_code, status_after}
use Rattle.lq_live.specs.Downtimes.{crosses, depth, downtime_line, line_if, only_if}
use Rattle.lq_live.specs.Effects.{AcknowledgeProblem, AddComment, CheckResult, Command, DelComment, DelDowntime, DisableNotifications, DisableNotificationsOf, EnableNotifications, EnableNotificationsOf, NewComment, NewDowntime, RemoveAcknowledgement, ScheduleDowntime, Unknown, alert_line, comment_of, downtime_of, holds_object, has_id_and_kind, is_taken}
use Rattle.lq_live.specs.Edits.{line_edits, line_of_edit}
use Rattle.lq_live.specs.StepEdits.{acknowledge_edits_in, change_edits, check_edits, comment_edits, effect_edits, known_edits, notify_edits, remove_acknowledgement_edits, remove_found_edits, result_edits, schedule_edits}
use Rattle.lq_live.specs.Order.{EditAt, EditsAt, IsNew, LineAt, additions, all_additions}
use Rattle.lq_live.specs.Kept.{MayFollow, Timely, last_time_after}
use Rattle.lq_live.specs.declared.edit.Edit.{Edit}
use Rattle.lq_live.specs.declared.edit.Edit.TheVariants as edit

-- an effect of a second that adds one thing at most
pub record IsEffect (second : ℕ) (edits : List Edit) : Type 0 where
  pub at : EditsAt second edits
  pub one : all_additions edits ≤ 1

-- ---- lists

at_append : (second : ℕ) (a b : List Edit) → EditsAt second a → EditsAt second b → EditsAt second (a ++ b)
at_append second [] b all more = more
at_append second (edit ∷ a) b all more = (all.0, at_append second a b all.1 more)

additions_append : (a b : List Edit) → all_additions (a ++ b) ≡ all_additions a + all_additions b
additions_append [] b = grind arith
additions_append (edit ∷ a) b = grind (arith, additions_append a b)

-- edits that add nothing, before others
before_effect : (second : ℕ) (a b : List Edit) → EditsAt second a → all_additions a ≡ 0 → IsEffect second b → IsEffect second (a ++ b)
before_effect second a b all none effect = record { at = at_append second a b all effect.at; one = grind (arith, additions_append a b, none, effect.one) }

nothing : (second : ℕ) → IsEffect second []
nothing second = record { at = tt; one = omega arith }

only_if_at : (second : ℕ) (test : Bool) (edit : Edit) → EditAt second edit → EditsAt second (only_if test edit)
only_if_at second true edit at = (at, tt)
only_if_at second false edit at = tt

only_if_none : (test : Bool) (edit : Edit) → additions edit ≡ 0 → all_additions (only_if test edit) ≡ 0
only_if_none true edit none = grind (arith, none)
only_if_none false edit none = refl

if_effect : (second : ℕ) (test : Bool) (edit : Edit) → (test ≡ true → EditAt second edit) → additions edit ≤ 1 → IsEffect second (only_if test edit)
if_effect second true edit at one = record { at = (at refl, tt); one = grind (arith, one) }
if_effect second false edit at one = nothing second

effect_if : (second : ℕ) (test : Bool) (edits : List Edit) → IsEffect second edits → IsEffect second (if test then edits else [])
effect_if second true edits is = is
effect_if second false edits is = nothing second

effect_unless : (second : ℕ) (test : Bool) (edits : List Edit) → IsEffect second edits → IsEffect second (if test then [] else edits)
effect_unless second true edits is = nothing second
effect_unless second false edits is = is

-- ---- the effects

alert_at : (now : ℕ) (names : LineNames) (attempt : Attempt) (new : ℤ) (output : List ℕ) → LineAt now (Some (alert_line now names attempt new output))
unfolding alert_line
alert_at now names attempt new output =
    (refl, written_of_line now (form.Alert names.host names.service new attempt.hard attempt.number (before_first is_bar output)))

known_effect : (now : ℕ) (object : Object) (names : LineNames) (attempt : Attempt) (new : ℤ) (output : List ℕ) (old : Status)
    → IsEffect now (known_edits now object names attempt new output old)
known_effect now object names attempt new output old =
    before_effect now (only_if (differs attempt new old) (edit.Line (alert_line now names attempt new output))) _
    (only_if_at now (differs attempt new old) (edit.Line (alert_line now names attempt new output)) (alert_at now names attempt new output, tt))
    (only_if_none (differs attempt new old) (edit.Line (alert_line now names attempt new output)) refl)
    (before_effect now (only_if (ends_acknowledgement new old) (edit.EndAcknowledgement object)) (edit.SetStatus object (status_after now attempt new output old) ∷ [])
    (only_if_at now (ends_acknowledgement new old) (edit.EndAcknowledgement object) (tt, tt))
    (only_if_none (ends_acknowledgement new old) (edit.EndAcknowledgement object) refl)
    (record { at = ((tt, tt), tt); one = omega arith }))

result_effect : (now : ℕ) (base : Base) (object : Object) (new : ℤ) (output : List ℕ) (names : Option LineNames) (old : Option Status)
    → IsEffect now (result_edits now base object new output names old)
result_effect now base object new output None old = nothing now
result_effect now base object new output (Some names) None = nothing now
result_effect now base object new output (Some names) (Some old) = known_effect now object names (check_attempt base object new old) new output old

check_effect : (object : Object) (code : ℕ) (output : List ℕ) (s : State) → IsEffect s.now (check_edits object code output s)
check_effect object code output s =
    effect_if s.now (nat_le code (most_code object)) (result_edits s.now s.base object (pos code) output (names_of s.base object) (object_status s object))
    (result_effect s.now s.base object (pos code) output (names_of s.base object) (object_status s object))

comment_effect : (object : Object) (new : NewComment) (s : State) → IsEffect s.now (comment_edits object new s)
comment_effect object new s =
    if_effect s.now (holds_object s.base object) (edit.AddComment (comment_of 1 object new s)) (λ _. (tt, tt)) (omega arith)

acknowledge_effect : (old : Option Status) (object : Object) (sticky : ℕ) (new : NewComment) (s : State)
    → IsEffect s.now (acknowledge_edits_in old object sticky new s)
acknowledge_effect None object sticky new s = nothing s.now
acknowledge_effect (Some old) object sticky new s = effect_unless s.now (is_ok old.state) _ (record { at = ((tt, tt), ((tt, tt), tt)); one = omega arith })

remove_acknowledgement_effect : (object : Object) (s : State) → IsEffect s.now (remove_acknowledgement_edits object s)
remove_acknowledgement_effect object s = effect_if s.now (holds_object s.base object) _ (record { at = ((tt, tt), ((tt, tt), tt)); one = omega arith })

notify_effect : (object : Object) (on : ℕ) (s : State) → IsEffect s.now (notify_edits object on s)
notify_effect object on s = if_effect s.now (holds_object s.base object) (edit.SetNotifications object on) (λ _. (tt, tt)) (omega arith)

change_line_at : (moment : ℕ) (test : Bool) (change : DowntimeChange) (names : Option LineNames) (rest : List Edit) → EditsAt moment rest
    → EditsAt moment (line_edits (line_if test moment change names) ++ rest)
unfolding downtime_line
change_line_at moment test change None rest at = at
change_line_at moment false change (Some names) rest at = at
change_line_at moment true change (Some names) rest at = (((refl, written_of_line moment (form.Downtime names.host names.service change)), tt), at)

change_line_adds : (moment : ℕ) (test : Bool) (change : DowntimeChange) (names : Option LineNames) (rest : List Edit)
    → all_additions (line_edits (line_if test moment change names) ++ rest) ≡ all_additions rest
change_line_adds moment test change None rest = refl
change_line_adds moment false change (Some names) rest = refl
change_line_adds moment true change (Some names) rest = omega arith

-- one edit after the line of its change
change_effect : (change : DowntimeChange) (object : Object) (changed : List Downtime) (edit : Edit) (s : State) → EditAt s.now edit → additions edit ≤ 1
    → IsEffect s.now (change_edits change object changed s ++ edit ∷ [])
change_effect change object changed edit s at one = record {
  at = change_line_at s.now _ change (names_of s.base object) (edit ∷ []) (at, tt);
  one = rw (change_line_adds s.now (crosses (depth object s.downtimes) (depth object changed)) change (names_of s.base object) (edit ∷ [])) (omega (arith, one));
}

taken_end : (now : ℕ) (new : NewDowntime) → is_taken now new ≡ true → (new.start < new.end) × (now + 1 ≤ new.end)
taken_end now new is = (grind (arith, nat_tests, is), grind (arith, nat_tests, is))

later_start : (now start : ℕ) → nat_le start now ≡ false → now + 1 ≤ start
later_start now start is = grind (arith, nat_tests, is)

new_downtime : (new : NewDowntime) (s : State) → (new.start < new.end) × (s.now + 1 ≤ new.end) → IsNew s.now (downtime_of new s)
new_downtime new s ends = record {
  order = ends.0;
  ahead = record { end = ends.1; start = λ inactive. later_start s.now new.start inactive };
  begun = λ active. grind (arith, nat_tests, active);
}

both_true : (a b : Bool) → (a && b) ≡ true → b ≡ true
both_true true b is = is
both_true false b is = absurd (false≢true is)

schedule_effect : (new : NewDowntime) (s : State) → IsEffect s.now (schedule_edits new s)
schedule_effect new s = by (holds_object s.base new.object && is_taken s.now new) refl
  where
    by : (test : Bool) → (holds_object s.base new.object && is_taken s.now new) ≡ test → IsEffect s.now (schedule_edits new s)
    by true is =
        rw is (change_effect downtime_change.Started new.object (s.downtimes ++ downtime_of new s ∷ []) (edit.AddDowntime (downtime_of new s)) s
        (tt, new_downtime new s (taken_end s.now new (both_true (holds_object s.base new.object) _ is))) (omega arith))
    by false is = rw is (nothing s.now)

one_edit : (second : ℕ) (edit : Edit) → EditAt second edit → additions edit ≤ 1 → IsEffect second (edit ∷ [])
one_edit second edit at one = record { at = (at, tt); one = grind (arith, one) }

remove_effect : (found : Option Downtime) (kind : ObjectKind) (id : ℕ) (s : State) → IsEffect s.now (remove_found_edits found kind id s)
remove_effect None kind id s = nothing s.now
remove_effect (Some found) kind id s = change_effect downtime_change.Cancelled found.object (filter (λ downtime. not (has_id_and_kind kind id downtime.id downtime.object)) s.downtimes) (edit.RemoveDowntime kind id) s (tt, tt) (omega arith)

pub effect_is : (command : Command) (s : State) → IsEffect s.now (effect_edits command s)
effect_is (CheckResult object code output) s = check_effect object code output s
effect_is (AddComment object new) s = comment_effect object new s
effect_is (DelComment kind id) s = one_edit s.now (edit.RemoveComment kind id) (tt, tt) (omega arith)
effect_is (AcknowledgeProblem object sticky new) s = acknowledge_effect (object_status s object) object sticky new s
effect_is (RemoveAcknowledgement object) s = remove_acknowledgement_effect object s
effect_is (ScheduleDowntime new) s = schedule_effect new s
effect_is (DelDowntime kind id) s = remove_effect (find (λ downtime. has_id_and_kind kind id downtime.id downtime.object) s.downtimes) kind id s
effect_is (EnableNotificationsOf object) s = notify_effect object 1 s
effect_is (DisableNotificationsOf object) s = notify_effect object 0 s
effect_is EnableNotifications s = one_edit s.now (edit.NotifyAtAll true) (tt, tt) (omega arith)
effect_is DisableNotifications s = one_edit s.now (edit.NotifyAtAll false) (tt, tt) (omega arith)
effect_is Unknown s = nothing s.now

-- lines of one second are in order
at_by : (second : ℕ) (line : Option LogEntry) (edits : List Edit) → second < time_limit → LineAt second line → Timely second edits
    → MayFollow second line × Timely (last_time_after second line) edits
at_by second None edits below at timely = (tt, timely)
at_by second (Some entry) edits below at timely =
    let can : entry.time < time_limit = rw at.0 below in
    ((omega (arith, at.0), can, at.1 can), rw at.0 timely)

pub at_timely : (second : ℕ) (edits : List Edit) → second < time_limit → EditsAt second edits → Timely second edits
at_timely second [] below all = tt
at_timely second (edit ∷ edits) below all = at_by second (line_of_edit edit) edits below all.0.0 (at_timely second edits below all.1)
