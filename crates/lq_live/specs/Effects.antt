-- What each external command changes in a state.
use Rattle.std.specs.Prelude.{ℕ, ℤ, pos, ◌+◌, ◌==◌, ◌&&◌, not, nat_lt, nat_le, Bool, true, false}
use Rattle.std.specs.Prelude.{Option, Some, None, List, [], ◌∷◌, ◌++◌, length, filter}
use Rattle.std.specs.Prelude.{if◌then◌else◌}
use Rattle.std.specs.List.{before_first, find}
use Rattle.lq_records.specs.declared.base.Base.{Base}
use Rattle.lq_events.specs.declared.log_entry.LogEntry.{LogEntry}
use Rattle.lq_events.specs.declared.status.Status.{Status}
use Rattle.lq_events.specs.declared.status.Downtime.{Downtime}
use Rattle.lq_events.specs.declared.status.Comment.{Comment}
use Rattle.lq_records.specs.declared.object.Object.{Object}
use Rattle.lq_records.specs.declared.object.Object.TheVariants as object
use Rattle.lq_records.specs.declared.object.ObjectKind.{ObjectKind}
use Rattle.lq_records.specs.declared.object.ObjectKind.TheVariants as object_kind
use Rattle.lq_records.specs.Object.{is_same_kind, is_same_object, kind_of}
use Rattle.lq_events.specs.declared.update.Act.{Act}
use Rattle.lq_events.specs.declared.update.Act.TheVariants as act
use Rattle.lq_log.specs.Written.{entry_of_form}
use Rattle.lq_log.specs.declared.written.DowntimeChange.TheVariants as downtime_change
use Rattle.lq_log.specs.declared.written.Form.TheVariants as form
use Rattle.lq_live.specs.State.{State, LineNames, names_of, object_status, with_status}
use Rattle.lq_live.specs.Results.{Attempt, check_attempt, most_code, differs, ends_acknowledgement}
use Rattle.lq_live.specs.Results.{status_after, is_ok, is_bar}
use Rattle.lq_live.specs.Downtimes.{change_downtimes}

-- whether the base holds an object
abbrev pub holds_object : Base → Object → Bool
holds_object base (object.Host id) = nat_lt id.0 (length base.hosts)
holds_object base (object.Service id) = nat_lt id.0 (length base.services)

-- whether it has an id and is about an object of a kind
abbrev pub has_id_and_kind : ObjectKind → ℕ → ℕ → Object → Bool
has_id_and_kind kind id own_id object = own_id == id && is_same_kind (kind_of object) kind

abbrev pub add_line : LogEntry → State → State
add_line entry s = record s { log = s.log ++ entry ∷ [] }

abbrev pub when : Bool → (State → State) → State → State
when test change s = if test then change s else s

-- ---- comments and acknowledgements

-- a comment as a command gives it
pub record NewComment : Type 0 where
  pub persistent : ℕ
  pub author : List ℕ
  pub text : List ℕ

-- its entry type is 1 where somebody makes it, and 4 where it comes with an acknowledgement
abbrev pub comment_of : ℕ → Object → NewComment → State → Comment
comment_of entry_type object given s = record {
  id = s.next_comment;
  object = object;
  author = given.author;
  text = given.text;
  time = s.now;
  entry_type = entry_type;
  persistent = if given.persistent == 0 then 0 else 1;
}

abbrev pub add_comment : Comment → State → State
add_comment comment s =
    record s { comments = s.comments ++ comment ∷ []; next_comment = s.next_comment + 1 }

-- the comment of an object of a kind that has an id
abbrev pub remove_comment : ObjectKind → ℕ → State → State
remove_comment kind id s = record s {
  comments = filter (λ comment. not (has_id_and_kind kind id comment.id comment.object)) s.comments;
}

-- 0 none, 1 normal, 2 sticky
abbrev pub acknowledge_as : ℕ → Status → Status
acknowledge_as kind status =
    record status { acknowledged = if kind == 0 then 0 else 1; acknowledgement_type = kind }

-- a comment of an acknowledgement that goes with it
abbrev pub goes_with_acknowledgement : Object → Comment → Bool
goes_with_acknowledgement object comment =
    is_same_object comment.object object && comment.entry_type == 4 && comment.persistent == 0

-- the comments that go with an object's acknowledgement end
abbrev pub end_acknowledgement : Object → State → State
end_acknowledgement object s = record s {
  comments = filter (λ comment. not (goes_with_acknowledgement object comment)) s.comments;
}

abbrev pub acknowledge_in : Option Status → Object → ℕ → NewComment → State → State
acknowledge_in None object sticky given s = s
acknowledge_in (Some old) object sticky given s =
    if is_ok old.state then s
    else add_comment (comment_of 4 object given s)
    (with_status (acknowledge_as (if sticky == 2 then 2 else 1)) object s)

-- only where the state isn't 0
abbrev pub acknowledge : Object → ℕ → NewComment → State → State
acknowledge object sticky given s = acknowledge_in (object_status s object) object sticky given s

abbrev pub remove_acknowledgement : Object → State → State
remove_acknowledgement object s =
    when (holds_object s.base object)
    (λ s. end_acknowledgement object (with_status (acknowledge_as 0) object s))
    s

-- ---- check results

unfoldable pub alert_line : ℕ → LineNames → Attempt → ℤ → List ℕ → LogEntry
alert_line now names attempt new output =
    entry_of_form now
    (form.Alert names.host names.service new attempt.hard attempt.number
    (before_first is_bar output))

-- the line, the end of the acknowledgement, the status
abbrev pub take_result : Object → LineNames → Attempt → ℤ → List ℕ → Status → State → State
take_result object names attempt new output old s =
    with_status (λ _. status_after s.now attempt new output old) object
    (when (ends_acknowledgement new old) (end_acknowledgement object)
    (when (differs attempt new old) (add_line (alert_line s.now names attempt new output)) s))

abbrev pub result_of : Object → ℤ → List ℕ → Option LineNames → Option Status → State → State
result_of object new output None old s = s
result_of object new output (Some names) None s = s
result_of object new output (Some names) (Some old) s =
    take_result object names (check_attempt s.base object new old) new output old s

abbrev pub with_check_result : Object → ℕ → List ℕ → State → State
with_check_result object code output s =
    if nat_le code (most_code object)
    then result_of object (pos code) output (names_of s.base object) (object_status s object) s
    else s

-- ---- downtimes

-- a downtime as a command asks for it
pub record NewDowntime : Type 0 where
  pub object : Object
  pub start : ℕ
  pub end : ℕ
  pub fixed : ℕ
  pub trigger : ℕ
  pub duration : ℕ
  pub author : List ℕ
  pub text : List ℕ

-- it is fixed, has no trigger, begins before it ends, isn't over, and its end can be written
abbrev pub is_taken : ℕ → NewDowntime → Bool
is_taken now asked =
    asked.fixed == 1 && asked.trigger == 0 && nat_lt asked.start asked.end && nat_lt now asked.end
    && nat_lt asked.end 1_000_000_000_000

-- it is active at once where its start isn't past the present second
abbrev pub downtime_of : NewDowntime → State → Downtime
downtime_of asked s = record {
  id = s.next_downtime;
  object = asked.object;
  author = asked.author;
  comment = asked.text;
  entry_time = s.now;
  start = asked.start;
  end = asked.end;
  active = nat_le asked.start s.now;
  duration = asked.duration;
}

abbrev pub add_downtime : Downtime → State → State
add_downtime downtime s =
    change_downtimes s.now downtime_change.Started downtime.object (s.downtimes ++ downtime ∷ [])
    (record s { next_downtime = s.next_downtime + 1 })

abbrev pub schedule : NewDowntime → State → State
schedule asked s =
    when (holds_object s.base asked.object && is_taken s.now asked)
    (add_downtime (downtime_of asked s)) s

abbrev pub remove_found : Option Downtime → ObjectKind → ℕ → State → State
remove_found None kind id s = s
remove_found (Some found) kind id s =
    change_downtimes s.now downtime_change.Cancelled found.object
    (filter (λ downtime. not (has_id_and_kind kind id downtime.id downtime.object)) s.downtimes)
    s

-- the downtime of an object of a kind that has an id
abbrev pub remove_downtime : ObjectKind → ℕ → State → State
remove_downtime kind id s =
    remove_found
    (find (λ downtime. has_id_and_kind kind id downtime.id downtime.object) s.downtimes)
    kind id s

-- ---- notifications

abbrev pub notify_of : Object → ℕ → State → State
notify_of object on s =
    when (holds_object s.base object)
    (with_status (λ status. record status { notifications_enabled = on }) object)
    s

-- ---- the commands

-- a command by what it is about, an object or an id of an object's kind
pub data Command : Type 0 where
  CheckResult : Object → ℕ → List ℕ → Command
  AddComment : Object → NewComment → Command
  DelComment : ObjectKind → ℕ → Command
  AcknowledgeProblem : Object → ℕ → NewComment → Command
  RemoveAcknowledgement : Object → Command
  ScheduleDowntime : NewDowntime → Command
  DelDowntime : ObjectKind → ℕ → Command
  EnableNotificationsOf : Object → Command
  DisableNotificationsOf : Object → Command
  EnableNotifications : Command
  DisableNotifications : Command
  Unknown : Command

abbrev pub comment_of_fields : ℕ → List ℕ → List ℕ → NewComment
comment_of_fields persistent author text =
    record { persistent = persistent; author = author; text = text }

abbrev pub command_of_act : Act → Command
command_of_act (act.ProcessHostCheckResult host code output) =
    CheckResult (object.Host host) code output
command_of_act (act.ProcessServiceCheckResult service code output) =
    CheckResult (object.Service service) code output
command_of_act (act.AddHostComment host persistent author text) =
    AddComment (object.Host host) (comment_of_fields persistent author text)
command_of_act (act.AddSvcComment service persistent author text) =
    AddComment (object.Service service) (comment_of_fields persistent author text)
command_of_act (act.DelHostComment id) = DelComment object_kind.Host id
command_of_act (act.DelSvcComment id) = DelComment object_kind.Service id
command_of_act (act.AcknowledgeHostProblem host sticky notify persistent author text) =
    AcknowledgeProblem (object.Host host) sticky (comment_of_fields persistent author text)
command_of_act (act.AcknowledgeSvcProblem service sticky notify persistent author text) =
    AcknowledgeProblem (object.Service service) sticky (comment_of_fields persistent author text)
command_of_act (act.RemoveHostAcknowledgement host) = RemoveAcknowledgement (object.Host host)
command_of_act (act.RemoveSvcAcknowledgement service) =
    RemoveAcknowledgement (object.Service service)
command_of_act (act.ScheduleHostDowntime host start end fixed trigger duration author text) =
    ScheduleDowntime
    (record {
      object = object.Host host;
      start = start;
      end = end;
      fixed = fixed;
      trigger = trigger;
      duration = duration;
      author = author;
      text = text;
    })
command_of_act (act.ScheduleSvcDowntime service start end fixed trigger duration author text) =
    ScheduleDowntime
    (record {
      object = object.Service service;
      start = start;
      end = end;
      fixed = fixed;
      trigger = trigger;
      duration = duration;
      author = author;
      text = text;
    })
command_of_act (act.DelHostDowntime id) = DelDowntime object_kind.Host id
command_of_act (act.DelSvcDowntime id) = DelDowntime object_kind.Service id
command_of_act (act.EnableHostNotifications host) = EnableNotificationsOf (object.Host host)
command_of_act (act.DisableHostNotifications host) = DisableNotificationsOf (object.Host host)
command_of_act (act.EnableSvcNotifications service) = EnableNotificationsOf (object.Service service)
command_of_act (act.DisableSvcNotifications service) =
    DisableNotificationsOf (object.Service service)
command_of_act act.EnableNotifications = EnableNotifications
command_of_act act.DisableNotifications = DisableNotifications
command_of_act act.Unknown = Unknown

abbrev pub effect_of : Command → State → State
effect_of (CheckResult object code output) s = with_check_result object code output s
effect_of (AddComment object given) s =
    when (holds_object s.base object) (add_comment (comment_of 1 object given s)) s
effect_of (DelComment kind id) s = remove_comment kind id s
effect_of (AcknowledgeProblem object sticky given) s = acknowledge object sticky given s
effect_of (RemoveAcknowledgement object) s = remove_acknowledgement object s
effect_of (ScheduleDowntime asked) s = schedule asked s
effect_of (DelDowntime kind id) s = remove_downtime kind id s
effect_of (EnableNotificationsOf object) s = notify_of object 1 s
effect_of (DisableNotificationsOf object) s = notify_of object 0 s
effect_of EnableNotifications s = record s { notifications = true }
effect_of DisableNotifications s = record s { notifications = false }
effect_of Unknown s = s

abbrev pub effect : Act → State → State
effect act s = effect_of (command_of_act act) s
