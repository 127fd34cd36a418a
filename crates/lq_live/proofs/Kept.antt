-- What every state keeps, through a step.
use Rattle.std.proofs.Common.{◌≡◌, ℕ, ◌+◌, ◌<◌, ◌≤◌, not, max, min, Bool, true, false, List, [], ◌∷◌, ◌++◌, length, filter, refl, subst, arith, length-append}
use Rattle.lq_records.specs.declared.object.Object.{Object}
use Rattle.lq_records.specs.declared.object.Object.TheVariants as object
use Rattle.lq_events.specs.declared.log_entry.LogEntry.{LogEntry}
use Rattle.lq_events.specs.declared.status.Downtime.{Downtime}
use Rattle.lq_events.specs.declared.status.Status.{Status}
use Rattle.lq_events.specs.declared.update.Update.{Update}
use Rattle.lq_log.specs.Book.{last_time, time_limit}
use Rattle.lq_log.specs.Written.{entry_of_form}
use Rattle.lq_log.specs.declared.written.Form.TheVariants as form
use Rattle.lq_log.proofs.LineLemmas.{written_of_line}
use Rattle.lq_live.specs.State.{State, with_status}
use Rattle.lq_live.specs.Downtimes.{Event, due}
use Rattle.lq_live.specs.Effects.{acknowledge_as, command_of_act, has_id_and_kind}
use Rattle.lq_live.specs.Edits.{line_edits, make_edit, play_edits}
use Rattle.lq_live.specs.StepEdits.{advance_edits, effect_edits, step_edits}
use Rattle.lq_live.specs.Order.{EditAt, EditsAt, LinesUpTo, Rising, additions, all_additions, due_lines}
use Rattle.lq_live.specs.Ids.{HasRisingIds}
use Rattle.lq_live.specs.Kept.{AllBegun, AllFrom, AllOrdered, IsKept, Timely, at_second}
use Rattle.lq_live.specs.Step.{second_after, step}
use Rattle.lq_live.specs.declared.edit.Edit.{Edit}
use Rattle.lq_live.specs.declared.edit.Edit.TheVariants as edit
use Rattle.lq_live.proofs.Ahead.{added_from, filter_from}
use Rattle.lq_live.proofs.Begun.{added_begun, filter_begun}
use Rattle.lq_live.proofs.Changed.{changed_length}
use Rattle.lq_live.proofs.IdLemmas.{effect_given, ids_played, ids_ready}
use Rattle.lq_live.proofs.EffectLemmas.{IsEffect, at_timely, effect_is}
use Rattle.lq_live.proofs.Played.{ready_by, step_by}
use Rattle.lq_live.proofs.Settled.{settled_begun, settled_from, settled_ordered}
use Rattle.lq_live.proofs.Rising.{due_lines_up_to, due_rising, due_timely, timely_later}

-- ---- the last line

last_up_to : (second : ℕ) (log lines : List LogEntry) → last_time log ≤ second → LinesUpTo second lines → last_time (log ++ lines) ≤ second
last_up_to second [] [] last all = last
last_up_to second [] (entry ∷ []) last all = all.0
last_up_to second [] (entry ∷ next ∷ lines) last all = last_up_to second [] (next ∷ lines) (omega arith) all.1
last_up_to second (first ∷ []) [] last all = last
last_up_to second (first ∷ []) (entry ∷ lines) last all = last_up_to second [] (entry ∷ lines) (omega arith) all
last_up_to second (first ∷ next ∷ log) lines last all = last_up_to second (next ∷ log) lines last all

-- ---- each downtime begins before it ends

ordered_kept : (test : Downtime → Bool) (d : Downtime) (ds : List Downtime) (passes : Bool) → test d ≡ passes → d.start < d.end → AllOrdered (filter test ds)
    → AllOrdered (filter test (d ∷ ds))
ordered_kept test d ds true is order rest = rw is (order, rest)
ordered_kept test d ds false is order rest = rw is rest

ordered_filter : (test : Downtime → Bool) (ds : List Downtime) → AllOrdered ds → AllOrdered (filter test ds)
ordered_filter test [] all = tt
ordered_filter test (d ∷ ds) all = ordered_kept test d ds (test d) refl all.0 (ordered_filter test ds all.1)

ordered_added : (d : Downtime) (ds : List Downtime) → d.start < d.end → AllOrdered ds → AllOrdered (ds ++ d ∷ [])
ordered_added d [] order all = (order, tt)
ordered_added d (first ∷ ds) order all = (all.0, ordered_added d ds order all.1)

-- ---- through the edits of an effect

-- what is kept while edits of one second are played, of which some are left
pub record IsOf (second count least : ℕ) (s : State) : Type 0 where
  pub hosts : length s.host_status ≡ length s.base.hosts
  pub services : length s.service_status ≡ length s.base.services
  pub now : s.now ≡ second
  pub lines : last_time s.log ≤ second
  pub ahead : AllFrom (second + 1) s.downtimes
  pub order : AllOrdered s.downtimes
  pub begun : AllBegun second s.downtimes
  pub downtime_ids : s.next_downtime + count ≤ length s.log + 1
  pub comment_ids : s.next_comment + count ≤ length s.log + 1
  pub longer : least ≤ length s.log

-- a state with the same times, downtimes, ids and log
same_fields : (second count least : ℕ) (s t : State) → length t.host_status ≡ length s.host_status → length t.service_status ≡ length s.service_status → t.base ≡ s.base
    → t.now ≡ s.now → t.log ≡ s.log → t.downtimes ≡ s.downtimes → t.next_downtime ≡ s.next_downtime → t.next_comment ≡ s.next_comment
    → IsOf second (0 + count) least s → IsOf second count least t
same_fields second count least s t hosts services base now log downtimes next_downtime next_comment of = record {
  hosts = rw (hosts, base) of.hosts;
  services = rw (services, base) of.services;
  now = rw now of.now;
  lines = rw log of.lines;
  ahead = rw downtimes of.ahead;
  order = rw downtimes of.order;
  begun = rw downtimes of.begun;
  downtime_ids = rw (next_downtime, log) (omega (arith, of.downtime_ids));
  comment_ids = rw (next_comment, log) (omega (arith, of.comment_ids));
  longer = rw log of.longer;
}

of_status : (second count least : ℕ) (change : Status → Status) (object : Object) (s : State) → IsOf second (0 + count) least s
    → IsOf second count least (with_status change object s)
of_status second count least change (object.Host id) s of =
    same_fields second count least s (with_status change (object.Host id) s) (changed_length change id.0 s.host_status) refl refl refl refl refl refl refl of
of_status second count least change (object.Service id) s of =
    same_fields second count least s (with_status change (object.Service id) s) refl (changed_length change id.0 s.service_status) refl refl refl refl refl refl of

of_edited : (second count least : ℕ) (edit : Edit) (s : State) → EditAt second edit → IsOf second (additions edit + count) least s → IsOf second count least (make_edit edit s)
of_edited second count least (edit.Now later) s at of = absurd at.1
of_edited second count least (edit.Line entry) s at of = record {
  hosts = of.hosts;
  services = of.services;
  now = of.now;
  lines = last_up_to second s.log (entry ∷ []) of.lines (omega (arith, at.0.0), tt);
  ahead = of.ahead;
  order = of.order;
  begun = of.begun;
  downtime_ids = grind (arith, length-append s.log (entry ∷ []), of.downtime_ids);
  comment_ids = grind (arith, length-append s.log (entry ∷ []), of.comment_ids);
  longer = grind (arith, length-append s.log (entry ∷ []), of.longer);
}
of_edited second count least (edit.SetStatus object status) s at of = of_status second count least (λ _. status) object s of
of_edited second count least (edit.SetAcknowledgement object kind) s at of = of_status second count least (acknowledge_as kind) object s of
of_edited second count least (edit.SetNotifications object on) s at of = of_status second count least (λ status. record status { notifications_enabled = on }) object s of
of_edited second count least (edit.EndAcknowledgement object) s at of =
    same_fields second count least s (make_edit (edit.EndAcknowledgement object) s) refl refl refl refl refl refl refl refl of
of_edited second count least (edit.AddComment comment) s at of = record {
  hosts = of.hosts;
  services = of.services;
  now = of.now;
  lines = of.lines;
  ahead = of.ahead;
  order = of.order;
  begun = of.begun;
  downtime_ids = omega (arith, of.downtime_ids);
  comment_ids = omega (arith, of.comment_ids);
  longer = of.longer;
}
of_edited second count least (edit.RemoveComment kind id) s at of =
    same_fields second count least s (make_edit (edit.RemoveComment kind id) s) refl refl refl refl refl refl refl refl of
of_edited second count least (edit.AddDowntime downtime) s at of = record {
  hosts = of.hosts;
  services = of.services;
  now = of.now;
  lines = of.lines;
  ahead = added_from (second + 1) downtime s.downtimes of.ahead at.1.ahead;
  order = ordered_added downtime s.downtimes at.1.order of.order;
  begun = added_begun second downtime s.downtimes of.begun at.1.begun;
  downtime_ids = omega (arith, of.downtime_ids);
  comment_ids = omega (arith, of.comment_ids);
  longer = of.longer;
}
of_edited second count least (edit.RemoveDowntime kind id) s at of = record {
  hosts = of.hosts;
  services = of.services;
  now = of.now;
  lines = of.lines;
  ahead = filter_from (second + 1) (λ downtime. not (has_id_and_kind kind id downtime.id downtime.object)) s.downtimes of.ahead;
  order = ordered_filter (λ downtime. not (has_id_and_kind kind id downtime.id downtime.object)) s.downtimes of.order;
  begun = filter_begun second (λ downtime. not (has_id_and_kind kind id downtime.id downtime.object)) s.downtimes of.begun;
  downtime_ids = omega (arith, of.downtime_ids);
  comment_ids = omega (arith, of.comment_ids);
  longer = of.longer;
}
of_edited second count least (edit.NotifyAtAll on) s at of =
    same_fields second count least s (make_edit (edit.NotifyAtAll on) s) refl refl refl refl refl refl refl refl of

of_played : (second least : ℕ) (edits : List Edit) (s : State) → EditsAt second edits → IsOf second (all_additions edits) least s → IsOf second 0 least (play_edits edits s)
of_played second least [] s all of = of
of_played second least (edit ∷ edits) s all of = of_played second least edits (make_edit edit s) all.1 (of_edited second (all_additions edits) least edit s all.0 of)

-- ---- through a step

second_below : (now time : ℕ) → now < time_limit → max now (min time 999_999_999_999) < time_limit
second_below now time below = grind (arith, below)

of_ready : (s : State) (update : Update) → IsKept s → IsOf (second_after s update) 1 (length s.log + 1) (ready_by s update)
of_ready s update kept =
    let second : ℕ = second_after s update in
    let later : s.now ≤ second = grind arith in
    let events : List Event = due second s.downtimes in
    let lines : List LogEntry = due_lines s.base events s.downtimes in
    let line : LogEntry = entry_of_form second (form.External update.text) in
    let rising : Rising s.now second events = due_rising s.now second s.downtimes kept.ahead in
    let longer : length ((s.log ++ lines) ++ line ∷ []) ≡ length s.log + length lines + 1 = grind (arith, length-append s.log lines, length-append (s.log ++ lines) (line ∷ [])) in
    record {
      hosts = kept.hosts;
      services = kept.services;
      now = refl;
      lines = last_up_to second (s.log ++ lines) (line ∷ [])
          (last_up_to second s.log lines (omega (arith, kept.lines, later)) (due_lines_up_to s.now second s.base events s.downtimes rising)) (omega arith, tt);
      ahead = settled_from second s.downtimes;
      order = settled_ordered second s.downtimes kept.order;
      begun = settled_begun second s.now s.downtimes later kept.begun;
      downtime_ids = rw longer (omega (arith, kept.downtime_ids));
      comment_ids = rw longer (omega (arith, kept.comment_ids));
      longer = rw longer (omega arith);
    }

fewer : (second more less least : ℕ) (s : State) → less ≤ more → IsOf second more least s → IsOf second less least s
fewer second more less least s low of = record {
  hosts = of.hosts;
  services = of.services;
  now = of.now;
  lines = of.lines;
  ahead = of.ahead;
  order = of.order;
  begun = of.begun;
  downtime_ids = omega (arith, low, of.downtime_ids);
  comment_ids = omega (arith, low, of.comment_ids);
  longer = of.longer;
}

of_step : (s : State) (update : Update) → IsKept s → IsOf (second_after s update) 0 (length s.log + 1) (step s update)
of_step s update kept =
    let second : ℕ = second_after s update in
    let changes : List Edit = effect_edits (command_of_act update.act) (at_second second s) in
    let is : IsEffect second changes = effect_is (command_of_act update.act) (at_second second s) in
    subst (λ t. IsOf second 0 (length s.log + 1) t) (step_by s update kept.ids kept.order)
    (of_played second (length s.log + 1) changes (ready_by s update) is.at
    (fewer second 1 (all_additions changes) (length s.log + 1) (ready_by s update) is.one (of_ready s update kept)))

step_ids : (s : State) (update : Update) → HasRisingIds s → AllOrdered s.downtimes → HasRisingIds (step s update)
step_ids s update has order =
    let second : ℕ = second_after s update in
    let changes : List Edit = effect_edits (command_of_act update.act) (at_second second s) in
    let is : IsEffect second changes = effect_is (command_of_act update.act) (at_second second s) in
    subst (λ t. HasRisingIds t) (step_by s update has order)
    (ids_played second changes (ready_by s update) is.at is.one (effect_given (command_of_act update.act) (at_second second s)) (ids_ready s update has))

pub step_kept : (s : State) (update : Update) → IsKept s → IsKept (step s update)
step_kept s update kept =
    let of : IsOf (second_after s update) 0 (length s.log + 1) (step s update) = of_step s update kept in
    record {
      hosts = of.hosts;
      services = of.services;
      lines = rw of.now of.lines;
      ahead = rw of.now of.ahead;
      order = of.order;
      begun = rw of.now of.begun;
      second = rw of.now (second_below s.now update.time kept.second);
      downtime_ids = omega (arith, of.downtime_ids);
      comment_ids = omega (arith, of.comment_ids);
      ids = step_ids s update kept.ids kept.order;
    }

-- the second doesn't go back
pub step_later : (s : State) (update : Update) → IsKept s → s.now ≤ (step s update).now
step_later s update kept = rw (of_step s update kept).now (omega arith)

-- a step writes a line
pub step_longer : (s : State) (update : Update) → IsKept s → length s.log + 1 ≤ length (step s update).log
step_longer s update kept = (of_step s update kept).longer

-- ---- its lines are in order

pub step_timely : (s : State) (update : Update) → IsKept s → Timely (last_time s.log) (step_edits s update)
unfolding step_edits advance_edits
step_timely s update kept =
    let second : ℕ = second_after s update in
    let later : s.now ≤ second = grind arith in
    let below : second < time_limit = second_below s.now update.time kept.second in
    let events : List Event = due second s.downtimes in
    let changes : List Edit = effect_edits (command_of_act update.act) (at_second second s) in
    let is : IsEffect second changes = effect_is (command_of_act update.act) (at_second second s) in
    let line : Edit = edit.Line (entry_of_form second (form.External update.text)) in (
      tt,
      timely_later (last_time s.log) s.now (line_edits (due_lines s.base events s.downtimes) ++ line ∷ changes) kept.lines
          (due_timely s.now second s.base events s.downtimes (line ∷ changes)
          (due_rising s.now second s.downtimes kept.ahead) later below ((omega arith, below, written_of_line second (form.External update.text) below), at_timely second changes below is.at)),
    )
