-- How the code works: the edits of a step, which are made from the state before it.
use Rattle.std.specs.Prelude.{◌≡◌, ℕ, ℤ, pos, ◌==◌, ◌&&◌, nat_le, Bool, true, false, Option, Some}
use Rattle.std.specs.Prelude.{None, List, [], ◌∷◌, ◌++◌, filter, not, if◌then◌else◌}
use Rattle.std.specs.List.{find}
use Rattle.lq_records.specs.declared.base.Base.{Base}
use Rattle.lq_records.specs.declared.object.Object.{Object}
use Rattle.lq_records.specs.declared.object.ObjectKind.{ObjectKind}
use Rattle.lq_events.specs.declared.status.Status.{Status}
use Rattle.lq_events.specs.declared.status.Downtime.{Downtime}
use Rattle.lq_events.specs.declared.update.Act.{Act}
use Rattle.lq_events.specs.declared.update.Act.TheVariants as act
use Rattle.lq_events.specs.declared.update.Update.{Update}
use Rattle.lq_log.specs.Written.{entry_of_form}
use Rattle.lq_log.specs.declared.written.DowntimeChange.{DowntimeChange}
use Rattle.lq_log.specs.declared.written.DowntimeChange.TheVariants as downtime_change
use Rattle.lq_log.specs.declared.written.Form.TheVariants as form
use Rattle.lq_live.specs.State.{LineNames, State, names_of, object_status}
use Rattle.lq_live.specs.Results.{Attempt, check_attempt, most_code, differs, ends_acknowledgement}
use Rattle.lq_live.specs.Results.{is_ok, status_after}
use Rattle.lq_live.specs.Downtimes.{crosses, depth, due, line_if, only_if}
use Rattle.lq_live.specs.Effects.{AcknowledgeProblem, AddComment, CheckResult, Command, DelComment}
use Rattle.lq_live.specs.Effects.{DelDowntime, DisableNotifications, DisableNotificationsOf}
use Rattle.lq_live.specs.Effects.{EnableNotifications, EnableNotificationsOf, NewComment}
use Rattle.lq_live.specs.Effects.{NewDowntime, RemoveAcknowledgement, ScheduleDowntime, Unknown}
use Rattle.lq_live.specs.Effects.{alert_line, command_of_act, comment_of, downtime_of, holds_object}
use Rattle.lq_live.specs.Effects.{has_id_and_kind, is_taken}
use Rattle.lq_live.specs.Step.{second_after}
use Rattle.lq_live.specs.Edits.{line_edits}
use Rattle.lq_live.specs.Order.{due_lines}
use Rattle.lq_live.specs.Kept.{at_second, state_at}
use Rattle.lq_live.specs.declared.outcome.CheckAttempt.{CheckAttempt}
use Rattle.lq_live.specs.declared.downtime_effects.DowntimeRequest.{DowntimeRequest}
use Rattle.lq_live.specs.declared.live_state.LiveState.{LiveState}
use Rattle.lq_live.specs.declared.edit.Edit.{Edit}
use Rattle.lq_live.specs.declared.edit.Edit.TheVariants as edit

-- edits have become more by others
abbrev pub Adds : List Edit → List Edit → List Edit → Type 0
Adds old new more = new ≡ old ++ more

-- ---- check results

abbrev pub attempt_of : CheckAttempt → Attempt
attempt_of attempt = record { hard = attempt.hard; number = attempt.number }

abbrev pub known_edits : ℕ → Object → LineNames → Attempt → ℤ → List ℕ → Status → List Edit
known_edits now object names attempt new output old =
    only_if (differs attempt new old) (edit.Line (alert_line now names attempt new output))
    ++ (only_if (ends_acknowledgement new old) (edit.EndAcknowledgement object)
    ++ edit.SetStatus object (status_after now attempt new output old) ∷ [])

abbrev pub result_edits : ℕ → Base → Object → ℤ → List ℕ
    → Option LineNames → Option Status → List Edit
result_edits now base object new output None old = []
result_edits now base object new output (Some names) None = []
result_edits now base object new output (Some names) (Some old) =
    known_edits now object names (check_attempt base object new old) new output old

abbrev pub check_edits : Object → ℕ → List ℕ → State → List Edit
check_edits object code output s =
    if nat_le code (most_code object)
    then result_edits s.now s.base object (pos code) output (names_of s.base object)
    (object_status s object)
    else []

-- ---- comments and acknowledgements

abbrev pub comment_edits : Object → NewComment → State → List Edit
comment_edits object given s =
    only_if (holds_object s.base object) (edit.AddComment (comment_of 1 object given s))

abbrev pub acknowledge_edits_in : Option Status → Object → ℕ → NewComment → State → List Edit
acknowledge_edits_in None object sticky given s = []
acknowledge_edits_in (Some old) object sticky given s =
    if is_ok old.state then []
    else edit.SetAcknowledgement object (if sticky == 2 then 2 else 1)
    ∷ edit.AddComment (comment_of 4 object given s) ∷ []

abbrev pub acknowledge_edits : Object → ℕ → NewComment → State → List Edit
acknowledge_edits object sticky given s =
    acknowledge_edits_in (object_status s object) object sticky given s

abbrev pub remove_acknowledgement_edits : Object → State → List Edit
remove_acknowledgement_edits object s =
    if holds_object s.base object
    then edit.SetAcknowledgement object 0 ∷ edit.EndAcknowledgement object ∷ []
    else []

-- ---- downtimes

abbrev pub request_of : DowntimeRequest → NewDowntime
request_of request = record {
  object = request.object;
  start = request.start;
  end = request.end;
  fixed = request.fixed;
  trigger = request.trigger_id;
  duration = request.duration;
  author = request.author.now;
  text = request.text.now;
}

-- the line of a change of an object's downtimes, where it is written
abbrev pub change_edits : DowntimeChange → Object → List Downtime → State → List Edit
change_edits change object changed s =
    line_edits
    (line_if (crosses (depth object s.downtimes) (depth object changed)) s.now change
    (names_of s.base object))

abbrev pub schedule_edits : NewDowntime → State → List Edit
schedule_edits asked s =
    if holds_object s.base asked.object && is_taken s.now asked
    then change_edits downtime_change.Started asked.object
    (s.downtimes ++ downtime_of asked s ∷ []) s
    ++ edit.AddDowntime (downtime_of asked s) ∷ []
    else []

abbrev pub remove_found_edits : Option Downtime → ObjectKind → ℕ → State → List Edit
remove_found_edits None kind id s = []
remove_found_edits (Some found) kind id s =
    change_edits downtime_change.Cancelled found.object
    (filter (λ downtime. not (has_id_and_kind kind id downtime.id downtime.object)) s.downtimes) s
    ++ edit.RemoveDowntime kind id ∷ []

abbrev pub remove_downtime_edits : ObjectKind → ℕ → State → List Edit
remove_downtime_edits kind id s =
    remove_found_edits
    (find (λ downtime. has_id_and_kind kind id downtime.id downtime.object) s.downtimes)
    kind id s

-- ---- notifications

abbrev pub notify_edits : Object → ℕ → State → List Edit
notify_edits object on s = only_if (holds_object s.base object) (edit.SetNotifications object on)

-- ---- the commands

abbrev pub effect_edits : Command → State → List Edit
effect_edits (CheckResult object code output) s = check_edits object code output s
effect_edits (AddComment object given) s = comment_edits object given s
effect_edits (DelComment kind id) s = edit.RemoveComment kind id ∷ []
effect_edits (AcknowledgeProblem object sticky given) s = acknowledge_edits object sticky given s
effect_edits (RemoveAcknowledgement object) s = remove_acknowledgement_edits object s
effect_edits (ScheduleDowntime asked) s = schedule_edits asked s
effect_edits (DelDowntime kind id) s = remove_downtime_edits kind id s
effect_edits (EnableNotificationsOf object) s = notify_edits object 1 s
effect_edits (DisableNotificationsOf object) s = notify_edits object 0 s
effect_edits EnableNotifications s = edit.NotifyAtAll true ∷ []
effect_edits DisableNotifications s = edit.NotifyAtAll false ∷ []
effect_edits Unknown s = []

-- the same of the state that the code holds
abbrev pub effect_in : ℕ → LiveState → Act → List Edit
effect_in second live act = effect_edits (command_of_act act) (state_at second live)

-- ---- a step

-- the lines of all that is due at a second
unfoldable pub advance_edits : Base → ℕ → List Downtime → List Edit
advance_edits base second downtimes =
    line_edits (due_lines base (due second downtimes) downtimes)

abbrev pub edits_at : ℕ → State → Update → List Edit
edits_at second s update =
    edit.Now second ∷ advance_edits s.base second s.downtimes
    ++ edit.Line (entry_of_form second (form.External update.text))
    ∷ effect_edits (command_of_act update.act) (at_second second s)

unfoldable pub step_edits : State → Update → List Edit
step_edits s update = edits_at (second_after s update) s update

-- ---- the commands that one function of the code takes

abbrev pub is_of_checks : Act → Bool
is_of_checks (act.ProcessHostCheckResult host code output) = true
is_of_checks (act.ProcessServiceCheckResult service code output) = true
is_of_checks _ = false

abbrev pub is_of_comments : Act → Bool
is_of_comments (act.AddHostComment host persistent author text) = true
is_of_comments (act.AddSvcComment service persistent author text) = true
is_of_comments (act.DelHostComment id) = true
is_of_comments (act.DelSvcComment id) = true
is_of_comments _ = false

abbrev pub is_of_acknowledgements : Act → Bool
is_of_acknowledgements (act.AcknowledgeHostProblem host sticky notify persistent author text) = true
is_of_acknowledgements (act.AcknowledgeSvcProblem service sticky notify persistent _ _) = true
is_of_acknowledgements (act.RemoveHostAcknowledgement host) = true
is_of_acknowledgements (act.RemoveSvcAcknowledgement service) = true
is_of_acknowledgements _ = false

abbrev pub is_of_host_downtimes : Act → Bool
is_of_host_downtimes (act.ScheduleHostDowntime host start end fixed trigger duration _ _) = true
is_of_host_downtimes (act.DelHostDowntime id) = true
is_of_host_downtimes _ = false

abbrev pub is_of_service_downtimes : Act → Bool
is_of_service_downtimes (act.ScheduleSvcDowntime service start end fixed trigger duration _ _) =
    true
is_of_service_downtimes (act.DelSvcDowntime id) = true
is_of_service_downtimes _ = false

abbrev pub is_of_switches : Act → Bool
is_of_switches (act.EnableHostNotifications host) = true
is_of_switches (act.DisableHostNotifications host) = true
is_of_switches (act.EnableSvcNotifications service) = true
is_of_switches (act.DisableSvcNotifications service) = true
is_of_switches act.EnableNotifications = true
is_of_switches act.DisableNotifications = true
is_of_switches _ = false
