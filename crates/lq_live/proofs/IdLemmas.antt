-- A step gives no id twice.
use Rattle.std.proofs.Common.{◌≡◌, ℕ, ℤ, pos, ◌+◌, ◌<◌, ◌≤◌, ◌&&◌, not, nat_le, Bool, true, false, Option, Some, None, List, [], ◌∷◌, ◌++◌, filter, refl, arith, if◌then◌else◌}
use Rattle.std.specs.List.{find}
use Rattle.lq_records.specs.declared.base.Base.{Base}
use Rattle.lq_records.specs.declared.object.Object.{Object}
use Rattle.lq_records.specs.declared.object.Object.TheVariants as object
use Rattle.lq_records.specs.declared.object.ObjectKind.{ObjectKind}
use Rattle.lq_events.specs.declared.log_entry.LogEntry.{LogEntry}
use Rattle.lq_events.specs.declared.status.Downtime.{Downtime}
use Rattle.lq_events.specs.declared.status.Status.{Status}
use Rattle.lq_events.specs.declared.update.Update.{Update}
use Rattle.lq_live.specs.State.{LineNames, State, names_of, object_status, with_status}
use Rattle.lq_live.specs.Results.{Attempt, check_attempt, differs, ends_acknowledgement, is_ok, most_code}
use Rattle.lq_live.specs.Downtimes.{only_if}
use Rattle.lq_live.specs.Effects.{AcknowledgeProblem, AddComment, CheckResult, Command, DelComment, DelDowntime, DisableNotifications, DisableNotificationsOf, EnableNotifications, EnableNotificationsOf, NewComment, RemoveAcknowledgement, ScheduleDowntime, Unknown, acknowledge_as, alert_line, comment_of, downtime_of, goes_with_acknowledgement, holds_object, has_id_and_kind, is_taken}
use Rattle.lq_live.specs.Edits.{line_edits, make_edit, play_edits}
use Rattle.lq_live.specs.Ids.{HasRisingIds, IdsRise, comment_id, downtime_id}
use Rattle.lq_live.specs.Order.{EditAt, EditsAt, additions, all_additions}
use Rattle.lq_live.specs.Step.{second_after}
use Rattle.lq_live.specs.StepEdits.{acknowledge_edits_in, effect_edits, remove_found_edits, result_edits}
use Rattle.lq_live.specs.declared.edit.Edit.{Edit}
use Rattle.lq_live.specs.declared.edit.Edit.TheVariants as edit
use Rattle.lq_live.proofs.Played.{ready_by}
use Rattle.lq_live.proofs.Settled.{settled_rise}

-- ---- lists whose ids rise

lower : {A : Type 0} (id : A → ℕ) (less more next : ℕ) (items : List A) → less ≤ more → IdsRise id more next items → IdsRise id less next items
lower id less more next [] low all = tt
lower id less more next (item ∷ items) low all = (omega (arith, low, all.0), all.1, all.2)

kept_rise : {A : Type 0} (id : A → ℕ) (test : A → Bool) (least next : ℕ) (item : A) (items : List A) (passes : Bool) → test item ≡ passes
    → least ≤ id item → id item < next → IdsRise id (id item + 1) next (filter test items) → IdsRise id least next (filter test (item ∷ items))
kept_rise id test least next item items true is low below rest = rw is (low, below, rest)
kept_rise id test least next item items false is low below rest = rw is (lower id least (id item + 1) next (filter test items) (omega (arith, low)) rest)

pub filter_rise : {A : Type 0} (id : A → ℕ) (test : A → Bool) (least next : ℕ) (items : List A) → IdsRise id least next items → IdsRise id least next (filter test items)
filter_rise id test least next [] all = tt
filter_rise id test least next (item ∷ items) all =
    kept_rise id test least next item items (test item) refl all.0 all.1 (filter_rise id test (id item + 1) next items all.2)

added_rise : {A : Type 0} (id : A → ℕ) (least next : ℕ) (item : A) (items : List A) → least ≤ next → id item ≡ next → IdsRise id least next items
    → IdsRise id least (next + 1) (items ++ item ∷ [])
added_rise id least next item [] low is all = (omega (arith, low, is), omega (arith, is), tt)
added_rise id least next item (first ∷ items) low is all =
    (all.0, omega (arith, all.1), added_rise id (id first + 1) next item items (omega (arith, all.1)) is all.2)

-- ---- edits that give the next ids

abbrev pub GivesId : ℕ → ℕ → Edit → Type 0
GivesId downtime comment (edit.AddDowntime added) = added.id ≡ downtime
GivesId downtime comment (edit.AddComment added) = added.id ≡ comment
GivesId downtime comment _ = Unit {0}

abbrev pub GiveIds : ℕ → ℕ → List Edit → Type 0
GiveIds downtime comment [] = Unit {0}
GiveIds downtime comment (edit ∷ edits) = GivesId downtime comment edit × GiveIds downtime comment edits

ids_with_status : (change : Status → Status) (object : Object) (s : State) → HasRisingIds s → HasRisingIds (with_status change object s)
ids_with_status change (object.Host id) s has = record { downtimes = has.downtimes; comments = has.comments }
ids_with_status change (object.Service id) s has = record { downtimes = has.downtimes; comments = has.comments }

ids_edited : (second : ℕ) (edit : Edit) (s : State) → EditAt second edit → GivesId s.next_downtime s.next_comment edit → HasRisingIds s → HasRisingIds (make_edit edit s)
ids_edited second (edit.Now later) s at gives has = absurd at.1
ids_edited second (edit.Line entry) s at gives has = record { downtimes = has.downtimes; comments = has.comments }
ids_edited second (edit.SetStatus object status) s at gives has = ids_with_status (λ _. status) object s has
ids_edited second (edit.SetAcknowledgement object kind) s at gives has = ids_with_status (acknowledge_as kind) object s has
ids_edited second (edit.SetNotifications object on) s at gives has = ids_with_status (λ status. record status { notifications_enabled = on }) object s has
ids_edited second (edit.EndAcknowledgement object) s at gives has = record {
  downtimes = has.downtimes;
  comments = filter_rise comment_id (λ comment. not (goes_with_acknowledgement object comment)) 0 s.next_comment s.comments has.comments;
}
ids_edited second (edit.AddComment comment) s at gives has = record {
  downtimes = has.downtimes;
  comments = added_rise comment_id 0 s.next_comment comment s.comments (omega arith) gives has.comments;
}
ids_edited second (edit.RemoveComment kind id) s at gives has = record {
  downtimes = has.downtimes;
  comments = filter_rise comment_id (λ comment. not (has_id_and_kind kind id comment.id comment.object)) 0 s.next_comment s.comments has.comments;
}
ids_edited second (edit.AddDowntime downtime) s at gives has = record {
  downtimes = added_rise downtime_id 0 s.next_downtime downtime s.downtimes (omega arith) gives has.downtimes;
  comments = has.comments;
}
ids_edited second (edit.RemoveDowntime kind id) s at gives has = record {
  downtimes = filter_rise downtime_id (λ downtime. not (has_id_and_kind kind id downtime.id downtime.object)) 0 s.next_downtime s.downtimes has.downtimes;
  comments = has.comments;
}
ids_edited second (edit.NotifyAtAll on) s at gives has = record { downtimes = has.downtimes; comments = has.comments }

-- edits that add nothing give any ids
none_given : (downtime comment : ℕ) (edits : List Edit) → all_additions edits ≡ 0 → GiveIds downtime comment edits
none_given downtime comment [] none = tt
none_given downtime comment (edit.AddDowntime more ∷ edits) none = (omega (arith, none), none_given downtime comment edits (omega (arith, none)))
none_given downtime comment (edit.AddComment more ∷ edits) none = (omega (arith, none), none_given downtime comment edits (omega (arith, none)))
none_given downtime comment (_ ∷ edits) none = (tt, none_given downtime comment edits (omega (arith, none)))

given_with_status : (change : Status → Status) (object : Object) (edits : List Edit) (s : State) → GiveIds s.next_downtime s.next_comment edits
    → GiveIds (with_status change object s).next_downtime (with_status change object s).next_comment edits
given_with_status change (object.Host id) edits s give = give
given_with_status change (object.Service id) edits s give = give

given_later : (edit : Edit) (edits : List Edit) (s : State) → additions edit + all_additions edits ≤ 1 → GiveIds s.next_downtime s.next_comment edits
    → GiveIds (make_edit edit s).next_downtime (make_edit edit s).next_comment edits
given_later (edit.AddDowntime more) edits s one give = none_given (s.next_downtime + 1) s.next_comment edits (omega (arith, one))
given_later (edit.AddComment more) edits s one give = none_given s.next_downtime (s.next_comment + 1) edits (omega (arith, one))
given_later (edit.SetStatus object status) edits s one give = given_with_status (λ _. status) object edits s give
given_later (edit.SetAcknowledgement object kind) edits s one give = given_with_status (acknowledge_as kind) object edits s give
given_later (edit.SetNotifications object on) edits s one give = given_with_status (λ status. record status { notifications_enabled = on }) object edits s give
given_later _ edits s one give = give

pub ids_played : (second : ℕ) (edits : List Edit) (s : State) → EditsAt second edits → all_additions edits ≤ 1 → GiveIds s.next_downtime s.next_comment edits
    → HasRisingIds s → HasRisingIds (play_edits edits s)
ids_played second [] s at one give has = has
ids_played second (edit ∷ edits) s at one give has =
    ids_played second edits (make_edit edit s) at.1 (omega (arith, one)) (given_later edit edits s one give.1) (ids_edited second edit s at.0 give.0 has)

-- ---- the effects

given_append : (downtime comment : ℕ) (a b : List Edit) → GiveIds downtime comment a → GiveIds downtime comment b → GiveIds downtime comment (a ++ b)
given_append downtime comment [] b give more = more
given_append downtime comment (edit ∷ a) b give more = (give.0, given_append downtime comment a b give.1 more)

given_only_if : (downtime comment : ℕ) (test : Bool) (edit : Edit) → GivesId downtime comment edit → GiveIds downtime comment (only_if test edit)
given_only_if downtime comment true edit gives = (gives, tt)
given_only_if downtime comment false edit gives = tt

given_if : (downtime comment : ℕ) (test : Bool) (edits : List Edit) → GiveIds downtime comment edits → GiveIds downtime comment (if test then edits else [])
given_if downtime comment true edits give = give
given_if downtime comment false edits give = tt

given_unless : (downtime comment : ℕ) (test : Bool) (edits : List Edit) → GiveIds downtime comment edits → GiveIds downtime comment (if test then [] else edits)
given_unless downtime comment true edits give = tt
given_unless downtime comment false edits give = give

result_given : (s : State) (base : Base) (object : Object) (new : ℤ) (output : List ℕ) (names : Option LineNames) (old : Option Status)
    → GiveIds s.next_downtime s.next_comment (result_edits s.now base object new output names old)
result_given s base object new output None old = tt
result_given s base object new output (Some names) None = tt
result_given s base object new output (Some names) (Some old) =
    let attempt : Attempt = check_attempt base object new old in
    given_append s.next_downtime s.next_comment (only_if (differs attempt new old) (edit.Line (alert_line s.now names attempt new output))) _
    (given_only_if s.next_downtime s.next_comment (differs attempt new old) (edit.Line (alert_line s.now names attempt new output)) tt)
    (given_append s.next_downtime s.next_comment (only_if (ends_acknowledgement new old) (edit.EndAcknowledgement object)) _
    (given_only_if s.next_downtime s.next_comment (ends_acknowledgement new old) (edit.EndAcknowledgement object) tt) (tt, tt))

acknowledge_given : (old : Option Status) (object : Object) (sticky : ℕ) (new : NewComment) (s : State)
    → GiveIds s.next_downtime s.next_comment (acknowledge_edits_in old object sticky new s)
acknowledge_given None object sticky new s = tt
acknowledge_given (Some old) object sticky new s = given_unless s.next_downtime s.next_comment (is_ok old.state) _ (tt, (refl, tt))

-- the edits of lines give none
lines_given : (downtime comment : ℕ) (entries : List LogEntry) (rest : List Edit) → GiveIds downtime comment rest → GiveIds downtime comment (line_edits entries ++ rest)
lines_given downtime comment [] rest give = give
lines_given downtime comment (entry ∷ entries) rest give = (tt, lines_given downtime comment entries rest give)

remove_given : (found : Option Downtime) (kind : ObjectKind) (id : ℕ) (s : State) → GiveIds s.next_downtime s.next_comment (remove_found_edits found kind id s)
remove_given None kind id s = tt
remove_given (Some found) kind id s = lines_given s.next_downtime s.next_comment _ (edit.RemoveDowntime kind id ∷ []) (tt, tt)

pub effect_given : (command : Command) (s : State) → GiveIds s.next_downtime s.next_comment (effect_edits command s)
effect_given (CheckResult object code output) s =
    given_if s.next_downtime s.next_comment (nat_le code (most_code object)) _
    (result_given s s.base object (pos code) output (names_of s.base object) (object_status s object))
effect_given (AddComment object new) s =
    given_only_if s.next_downtime s.next_comment (holds_object s.base object) (edit.AddComment (comment_of 1 object new s)) refl
effect_given (DelComment kind id) s = (tt, tt)
effect_given (AcknowledgeProblem object sticky new) s = acknowledge_given (object_status s object) object sticky new s
effect_given (RemoveAcknowledgement object) s = given_if s.next_downtime s.next_comment (holds_object s.base object) _ (tt, (tt, tt))
effect_given (ScheduleDowntime new) s =
    given_if s.next_downtime s.next_comment (holds_object s.base new.object && is_taken s.now new) _
    (lines_given s.next_downtime s.next_comment _ (edit.AddDowntime (downtime_of new s) ∷ []) (refl, tt))
effect_given (DelDowntime kind id) s = remove_given (find (λ downtime. has_id_and_kind kind id downtime.id downtime.object) s.downtimes) kind id s
effect_given (EnableNotificationsOf object) s = given_only_if s.next_downtime s.next_comment (holds_object s.base object) (edit.SetNotifications object 1) tt
effect_given (DisableNotificationsOf object) s = given_only_if s.next_downtime s.next_comment (holds_object s.base object) (edit.SetNotifications object 0) tt
effect_given EnableNotifications s = (tt, tt)
effect_given DisableNotifications s = (tt, tt)
effect_given Unknown s = tt

-- ---- a state before its command

pub ids_ready : (s : State) (update : Update) → HasRisingIds s → HasRisingIds (ready_by s update)
ids_ready s update has = record {
  downtimes = settled_rise (second_after s update) 0 s.next_downtime s.downtimes has.downtimes;
  comments = has.comments;
}
