-- The lines of the events that are due, written in turn.
use Rattle.std.proofs.Common.{◌≡◌, ℕ, zero, suc, ◌^◌, ◌+◌, ◌<◌, ◌≤◌, ◌==◌, not, Bool, true, false, Option, Some, None, List, [], ◌∷◌, ◌++◌, length, get_or, map, filter, take, drop, refl, sym, ap, ◌∙◌, arith, append_assoc, true≢false, IfSome}
use Rattle.std.proofs.lemmas.Bool.Decides.{nat_tests}
use Rattle.std.proofs.lemmas.List.{take_more}
use Rattle.std.proofs.lemmas.Option.{slice_get_past}
use Rattle.std.proofs.Math.Seq.{drop-cons}
use Rattle.std.specs.List.{slice_get}
use Rattle.std.specs.Option.{option_and_then, option_map}
use Rattle.lq_records.specs.declared.base.Base.{Base}
use Rattle.lq_records.specs.declared.object.Object.{Object}
use Rattle.lq_records.specs.declared.object.Object.TheVariants as object
use Rattle.lq_records.specs.Object.{is_same_object}
use Rattle.lq_events.specs.declared.log_entry.LogEntry.{LogEntry}
use Rattle.lq_events.specs.declared.status.Downtime.{Downtime}
use Rattle.lq_live.specs.State.{line_names, host_in_line, names_of}
use Rattle.lq_live.specs.Depths.{AreDepths, Depths, counted_depth, changed_depth, with_depth}
use Rattle.lq_live.specs.Downtimes.{Event, downtimes_after, begin, change_of, crosses, depth, due, line_if}
use Rattle.lq_live.specs.Edits.{line_edits}
use Rattle.lq_live.specs.Ids.{IdsRise, downtime_id}
use Rattle.lq_live.specs.Kept.{AllOrdered}
use Rattle.lq_live.specs.Order.{after_all, due_lines, event_lines}
use Rattle.lq_live.specs.declared.edit.Edit.{Edit}
use Rattle.lq_live.specs.declared.edit.Edit.TheVariants as edit
use Rattle.lq_live.proofs.Counts.{Follow, Meets, depth_after, depth_fits, depths_changed, due_follow, first_meets, rest_follow}
use Rattle.lq_live.proofs.IdLemmas.{filter_rise}

-- ---- what an event keeps

begun_by : (id least next : ℕ) (d : Downtime) (ds : List Downtime) (test : Bool) → (d.id == id) ≡ test → least ≤ d.id → d.id < next
    → IdsRise downtime_id (d.id + 1) next (map (begin id) ds) → IdsRise downtime_id least next (map (begin id) (d ∷ ds))
begun_by id least next d ds true is low below rest = rw is (low, below, rest)
begun_by id least next d ds false is low below rest = rw is (low, below, rest)

begun_rise : (id least next : ℕ) (ds : List Downtime) → IdsRise downtime_id least next ds → IdsRise downtime_id least next (map (begin id) ds)
begun_rise id least next [] all = tt
begun_rise id least next (d ∷ ds) all = begun_by id least next d ds (d.id == id) refl all.0 all.1 (begun_rise id (d.id + 1) next ds all.2)

after_rise : (next : ℕ) (event : Event) (ds : List Downtime) (starts : Bool) → event.starts ≡ starts → IdsRise downtime_id 0 next ds → IdsRise downtime_id 0 next (downtimes_after event ds)
after_rise next event ds true is all = rw is (begun_rise event.id 0 next ds all)
after_rise next event ds false is all = rw is (filter_rise downtime_id (λ downtime. not (downtime.id == event.id)) 0 next ds all)

begun_length : (id : ℕ) (ds : List Downtime) → length (map (begin id) ds) ≤ length ds
begun_length id [] = omega arith
begun_length id (d ∷ ds) = let rest : length (map (begin id) ds) ≤ length ds = begun_length id ds in omega (arith, rest)

filter_length : (test : Downtime → Bool) (ds : List Downtime) → length (filter test ds) ≤ length ds
filter_length test [] = omega arith
filter_length test (d ∷ ds) = by (test d) refl (filter_length test ds)
  where
    by : (passes : Bool) → test d ≡ passes → length (filter test ds) ≤ length ds → length (filter test (d ∷ ds)) ≤ length (d ∷ ds)
    by true is fewer = rw is (omega (arith, fewer))
    by false is fewer = rw is (omega (arith, fewer))

after_length : (event : Event) (ds : List Downtime) (starts : Bool) → event.starts ≡ starts → length (downtimes_after event ds) ≤ length ds
after_length event ds true is = rw is (begun_length event.id ds)
after_length event ds false is = rw is (filter_length (λ downtime. not (downtime.id == event.id)) ds)

after_last : (events : List Event) (event : Event) (ds : List Downtime) → after_all (events ++ event ∷ []) ds ≡ downtimes_after event (after_all events ds)
after_last [] event ds = refl
after_last (first ∷ events) event ds = after_last events event (downtimes_after first ds)

-- ---- the line of an event

past : {X : Type 0} (items : List X) (place : ℕ) → slice_get items place ≡ None → length items ≤ place
past [] place none = omega arith
past (item ∷ items) zero none = absurd (true≢false (ap (λ found. elim found as (λ _. Bool) [ Some item ↦ true | None ↦ false ]) none))
past (item ∷ items) (suc place) none = let rest : length items ≤ place = past items place none in omega (arith, rest)

same_self : (o : Object) → is_same_object o o ≡ true
same_self (object.Host id) = grind (arith, nat_tests)
same_self (object.Service id) = grind (arith, nat_tests)

none_named : (base : Base) (ds : List Downtime) (depths : Depths) (o : Object) → AreDepths base ds depths → counted_depth depths o ≡ None → names_of base o ≡ None
none_named base ds depths (object.Host id) are none =
    ap (λ found. option_map (λ (name : List ℕ). line_names name []) (option_map (λ host. host.host_name) found))
    (slice_get_past base.hosts id.0 (omega (arith, past depths.hosts id.0 none, are.hosts)))
none_named base ds depths (object.Service id) are none =
    ap (λ found. option_and_then (λ service. option_map (λ name. line_names name service.service_description) (host_in_line base service.host.0)) found)
    (slice_get_past base.services id.0 (omega (arith, past depths.services id.0 none, are.services)))

event_line : (base : Base) (next : ℕ) (event : Event) (ds : List Downtime) (depths : Depths) (written : Bool) → AreDepths base ds depths → IdsRise downtime_id 0 next ds → Meets event ds
    → IfSome (counted_depth depths event.object) (λ n. written ≡ crosses n (changed_depth event.starts n))
    → line_if written event.moment (change_of event) (names_of base event.object) ≡ event_lines base event ds
event_line base next event ds depths written are rise meets is = by (counted_depth depths event.object) refl (are.each event.object) is
  where
    later : depth event.object (downtimes_after event ds) ≡ changed_depth event.starts (depth event.object ds)
    later = depth_after event next ds rise meets event.object ∙ rw (same_self event.object) refl

    by : (found : Option ℕ) → counted_depth depths event.object ≡ found → IfSome found (λ n. n ≡ depth event.object ds) → IfSome found (λ n. written ≡ crosses n (changed_depth event.starts n))
        → line_if written event.moment (change_of event) (names_of base event.object) ≡ event_lines base event ds
    by None none same is = rw (none_named base ds depths event.object are none) refl
    by (Some n) found same is =
        ap (λ test. line_if test event.moment (change_of event) (names_of base event.object))
        (is ∙ ap (λ n. crosses n (changed_depth event.starts n)) same ∙ ap (crosses (depth event.object ds)) (sym later))

-- ---- all events

-- the downtimes when so many events have happened
abbrev pub left : List Event → ℕ → List Downtime → List Downtime
left events place ds = after_all (take place events) ds

-- so many events are taken: their lines are added, and the numbers are those of the downtimes then
pub record Taken (base : Base) (events : List Event) (place : ℕ) (ds : List Downtime) (next : ℕ) (old edits : List Edit) (depths : Depths) : Type 0 where
  pub lines : edits ++ line_edits (due_lines base (drop place events) (left events place ds)) ≡ old ++ line_edits (due_lines base events ds)
  pub counts : AreDepths base (left events place ds) depths
  pub follow : Follow (drop place events) (left events place ds)
  pub rise : IdsRise downtime_id 0 next (left events place ds)
  pub fewer : length (left events place ds) ≤ length ds

pub none_taken : (base : Base) (second : ℕ) (events : List Event) (ds : List Downtime) (next : ℕ) (edits : List Edit) (depths : Depths) → events ≡ due second ds → AreDepths base ds depths
    → IdsRise downtime_id 0 next ds → AllOrdered ds → Taken base events 0 ds next edits edits depths
none_taken base second events ds next edits depths is are rise order = record {
  lines = refl;
  counts = are;
  follow = rw is (due_follow second next ds rise order);
  rise = rise;
  fewer = omega arith;
}

lines_both : (a b : List LogEntry) → line_edits (a ++ b) ≡ line_edits a ++ line_edits b
lines_both [] b = refl
lines_both (entry ∷ a) b = ap (λ edits. edit.Line entry ∷ edits) (lines_both a b)

pub one_taken : (base : Base) (events : List Event) (place : ℕ) (ds : List Downtime) (next : ℕ) (old edits new : List Edit) (depths : Depths) (event : Event) (written : Bool)
    → place < length events → event ≡ get_or events place event → Taken base events place ds next old edits depths
    → IfSome (counted_depth depths event.object) (λ n. written ≡ crosses n (changed_depth event.starts n))
    → new ≡ edits ++ line_edits (line_if written event.moment (change_of event) (names_of base event.object))
    → Taken base events (place + 1) ds next old new (with_depth event.starts event.object depths)
one_taken base events place ds next old edits new depths event written within is taken says adds = record {
  lines =
      rw (more, adds, line)
      (append_assoc edits (line_edits (event_lines base event before)) (line_edits (due_lines base rest (downtimes_after event before)))
      ∙ ap (λ lines. edits ++ lines) (sym (lines_both (event_lines base event before) (due_lines base rest (downtimes_after event before))))
      ∙ ap (λ events. edits ++ line_edits (due_lines base events before)) (sym gone)
      ∙ taken.lines);
  counts = rw more (depths_changed base before (downtimes_after event before) depths event.starts event.object taken.counts (depth_after event next before taken.rise meets));
  follow = rw more (rest_follow event rest before follow);
  rise = rw more (after_rise next event before event.starts refl taken.rise);
  fewer = rw more (omega (arith, after_length event before event.starts refl, taken.fewer));
}
  where
    before : List Downtime
    before = left events place ds

    rest : List Event
    rest = drop (place + 1) events

    later : suc place ≡ place + 1
    later = omega arith

    gone : drop place events ≡ event ∷ rest
    gone = drop-cons events place event within ∙ ap (λ first. first ∷ drop (suc place) events) (sym is) ∙ ap (λ place. event ∷ drop place events) later

    more : left events (place + 1) ds ≡ downtimes_after event (left events place ds)
    more = ap (λ events. after_all events ds) (take_more events place event within ∙ ap (λ event. take place events ++ event ∷ []) (sym is)) ∙ after_last (take place events) event ds

    follow : Follow (event ∷ rest) (left events place ds)
    follow = rw gone at taken.follow

    meets : Meets event (left events place ds)
    meets = first_meets event rest (left events place ds) follow

    line : line_if written event.moment (change_of event) (names_of base event.object) ≡ event_lines base event (left events place ds)
    line = event_line base next event (left events place ds) depths written taken.counts taken.rise meets says

pub taken_fits : (base : Base) (events : List Event) (place : ℕ) (ds : List Downtime) (next : ℕ) (old edits : List Edit) (depths : Depths) (o : Object)
    → Taken base events place ds next old edits depths → length ds + 1 < 2 ^ 64 → IfSome (counted_depth depths o) (λ n. n + 1 < 2 ^ 64)
taken_fits base events place ds next old edits depths o taken small = depth_fits base (left events place ds) depths o (length ds) taken.counts taken.fewer small
