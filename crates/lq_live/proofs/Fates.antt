-- What becomes of each downtime through the events that are due.
use Rattle.std.proofs.Common.{◌≡◌, ℕ, ◌+◌, ◌<◌, ◌==◌, ◌&&◌, nat_le, nat_lt, not, Bool, true, false, Option, Some, None, List, [], ◌∷◌, ◌++◌, map, filter, flat_map, refl, sym, ap, ◌∙◌, arith, append-nil, Ordering, Less, Equal, Greater, nat_cmp, true≢false, if◌then◌else◌}
use Rattle.std.proofs.lemmas.Bool.Decides.{nat_tests}
use Rattle.std.proofs.lemmas.List.Elements.{filter-append}
use Rattle.std.specs.Cmp.{ranked}
use Rattle.lq_records.specs.declared.object.Object.{Object}
use Rattle.lq_events.specs.declared.status.Downtime.{Downtime}
use Rattle.lq_live.specs.Downtimes.{Event, downtimes_after, begin, due, end_of, event_order, moments, only_if, sort_by, start_of}
use Rattle.lq_live.specs.Edits.{begun_by, ends_after, downtimes_at}
use Rattle.lq_live.specs.Ids.{IdsRise, downtime_id}
use Rattle.lq_live.specs.Kept.{AllOrdered}
use Rattle.lq_live.specs.Order.{after_all}
use Rattle.lq_live.proofs.DueEvents.{event_total, with_id}
use Rattle.lq_live.proofs.Sorting.{sorted_kept}

abbrev pub own : ℕ → Event → Bool
own id event = event.id == id

-- ---- the downtime that has an id

pub some_downtime : (a b : Downtime) → Some a ≡ Some b → a ≡ b
some_downtime a b is = ap (λ found. elim found as (λ _. Downtime) [ Some d ↦ d | None ↦ a ]) is

pub no_downtime : (d : Downtime) → None ≡ Some d → ⊥
no_downtime d is = true≢false (ap (λ (found : Option Downtime). elim found as (λ _. Bool) [ Some d ↦ false | None ↦ true ]) is)

-- ids that rise from a later one on have no earlier one
pub absent : (id least next : ℕ) (ds : List Downtime) → id < least → IdsRise downtime_id least next ds → with_id id ds ≡ None
absent id least next [] below rise = refl
absent id least next (d ∷ ds) below rise =
    let other : (d.id == id) ≡ false = grind (arith, nat_tests, below, rise.0) in
    rw other (absent id (d.id + 1) next ds (omega (arith, below, rise.0)) rise.2)

-- by the first downtime of a list: it is the one, or the rest has it
by_first : (P : Option Downtime → Type 0) (id least next : ℕ) (d : Downtime) (ds : List Downtime) → IdsRise downtime_id least next (d ∷ ds)
    → ((d.id == id) ≡ true → with_id id ds ≡ None → P (Some d)) → ((d.id == id) ≡ false → P (with_id id ds)) → P (with_id id (d ∷ ds))
by_first P id least next d ds rise it other = by (d.id == id) refl
  where
    by : (test : Bool) → (d.id == id) ≡ test → P (with_id id (d ∷ ds))
    by true is = rw is (it is (absent id (d.id + 1) next ds (grind (arith, nat_tests, is)) rise.2))
    by false is = rw is (other is)

pub found_id : (id : ℕ) (ds : List Downtime) (found : Downtime) → with_id id ds ≡ Some found → found.id ≡ id
found_id id [] found is = absurd (no_downtime found is)
found_id id (d ∷ ds) found is = by (d.id == id) refl (λ same. found_id id ds found same)
  where
    by : (test : Bool) → (d.id == id) ≡ test → (with_id id ds ≡ Some found → found.id ≡ id) → found.id ≡ id
    by true it later = let same : d ≡ found = some_downtime d found (rw it at is) in ap (λ (d : Downtime). d.id) (sym same) ∙ grind (arith, nat_tests, it)
    by false it later = later (rw it at is)

-- ---- the events of one downtime

only_own : (id : ℕ) (test : Bool) (event : Event) (is_own : Bool) → own id event ≡ is_own → filter (own id) (only_if test event) ≡ (if is_own then only_if test event else [])
only_own id true event true is = rw is refl
only_own id true event false is = rw is refl
only_own id false event true is = refl
only_own id false event false is = refl

moments_own : (id second : ℕ) (d : Downtime) (is_own : Bool) → (d.id == id) ≡ is_own → filter (own id) (moments second d) ≡ (if is_own then moments second d else [])
moments_own id second d is_own is =
    filter-append (own id) (only_if (not d.active && nat_le d.start second) (start_of d)) (only_if (nat_le d.end second) (end_of d))
    ∙ rw (only_own id (not d.active && nat_le d.start second) (start_of d) is_own is, only_own id (nat_le d.end second) (end_of d) is_own is) (joined is_own)
  where
    joined : (is_own : Bool) → (if is_own then only_if (not d.active && nat_le d.start second) (start_of d) else []) ++ (if is_own then only_if (nat_le d.end second) (end_of d) else [])
        ≡ (if is_own then moments second d else [])
    joined true = refl
    joined false = refl

abbrev pub due_of : ℕ → Option Downtime → List Event
due_of second None = []
due_of second (Some d) = moments second d

all_own : (id second least next : ℕ) (ds : List Downtime) → IdsRise downtime_id least next ds → filter (own id) (flat_map (moments second) ds) ≡ due_of second (with_id id ds)
all_own id second least next [] rise = refl
all_own id second least next (d ∷ ds) rise =
    let rest : filter (own id) (flat_map (moments second) ds) ≡ due_of second (with_id id ds) = all_own id second (d.id + 1) next ds rise.2 in
    by_first (λ found. filter (own id) (flat_map (moments second) (d ∷ ds)) ≡ due_of second found) id least next d ds rise
    (λ it none. filter-append (own id) (moments second d) (flat_map (moments second) ds) ∙ rw (moments_own id second d true it, rest, none) (append-nil (moments second d)))
    (λ other. filter-append (own id) (moments second d) (flat_map (moments second) ds) ∙ rw (moments_own id second d false other) rest)

nat_less : (a b : ℕ) (o : Ordering) → nat_cmp a b ≡ o → a < b → nat_cmp a b ≡ Less
nat_less a b Less is below = is
nat_less a b Equal is below = let same : a ≡ b = ranked a b Equal (sym is) in absurd (omega (arith, below, same))
nat_less a b Greater is below = let above : b < a = ranked a b Greater (sym is) in absurd (omega (arith, below, above))

-- a start stands before its end
sorted_moments : (second : ℕ) (d : Downtime) (starts ends : Bool) → d.start < d.end
    → sort_by event_order (only_if starts (start_of d) ++ only_if ends (end_of d)) ≡ only_if starts (start_of d) ++ only_if ends (end_of d)
sorted_moments second d false false order = refl
sorted_moments second d false true order = refl
sorted_moments second d true false order = refl
sorted_moments second d true true order = rw (nat_less d.start d.end (nat_cmp d.start d.end) refl order) refl

pub found_order : (id : ℕ) (ds : List Downtime) (found : Downtime) → with_id id ds ≡ Some found → AllOrdered ds → found.start < found.end
found_order id [] found is all = absurd (no_downtime found is)
found_order id (d ∷ ds) found is all = by (d.id == id) refl (λ same. found_order id ds found same all.1)
  where
    by : (test : Bool) → (d.id == id) ≡ test → (with_id id ds ≡ Some found → found.start < found.end) → found.start < found.end
    by true it later = let same : d ≡ found = some_downtime d found (rw it at is) in rw (sym same) all.0
    by false it later = later (rw it at is)

pub due_own : (id second next : ℕ) (ds : List Downtime) → IdsRise downtime_id 0 next ds → AllOrdered ds → filter (own id) (due second ds) ≡ due_of second (with_id id ds)
unfolding due
due_own id second next ds rise all =
    sorted_kept event_order event_total (own id) (flat_map (moments second) ds) ∙ ap (sort_by event_order) (all_own id second 0 next ds rise) ∙ by (with_id id ds) refl
  where
    by : (found : Option Downtime) → with_id id ds ≡ found → sort_by event_order (due_of second found) ≡ due_of second found
    by None is = refl
    by (Some d) is = sorted_moments second d (not d.active && nat_le d.start second) (nat_le d.end second) (found_order id ds d is all)

-- ---- what events leave of one downtime

abbrev pub fate : List Event → Downtime → List Downtime
fate [] d = d ∷ []
fate (event ∷ events) d = if event.starts then fate events (record d { active = true }) else []

abbrev pub fates : List Event → List Downtime → List Downtime
fates events ds = flat_map (λ d. fate (filter (own d.id) events) d) ds

no_fate : (ds : List Downtime) → fates [] ds ≡ ds
no_fate [] = refl
no_fate (d ∷ ds) = ap (λ ds. d ∷ ds) (no_fate ds)

-- whether the event of an id is of a downtime, from either side
turned : (a b : ℕ) (test : Bool) → (a == b) ≡ test → (b == a) ≡ test
turned a b true is = grind (arith, nat_tests, is)
turned a b false is = grind (arith, nat_tests, is)

abbrev made : ℕ → Bool → ℕ → Object → Event
made moment starts id object = record { moment = moment; starts = starts; id = id; object = object }

fates_next : (moment id : ℕ) (object : Object) (starts : Bool) (events : List Event) (ds : List Downtime)
    → fates events (downtimes_after (made moment starts id object) ds) ≡ fates (made moment starts id object ∷ events) ds
fates_next moment id object true events [] = refl
fates_next moment id object false events [] = refl
fates_next moment id object true events (d ∷ ds) = by (d.id == id) refl (fates_next moment id object true events ds)
  where
    by : (test : Bool) → (d.id == id) ≡ test → fates events (map (begin id) ds) ≡ fates (made moment true id object ∷ events) ds
        → fates events (map (begin id) (d ∷ ds)) ≡ fates (made moment true id object ∷ events) (d ∷ ds)
    by true is rest = rw (is, turned d.id id true is) (ap (λ more. fate (filter (own d.id) events) (record d { active = true }) ++ more) rest)
    by false is rest = rw (is, turned d.id id false is) (ap (λ more. fate (filter (own d.id) events) d ++ more) rest)
fates_next moment id object false events (d ∷ ds) = by (d.id == id) refl (fates_next moment id object false events ds)
  where
    by : (test : Bool) → (d.id == id) ≡ test → fates events (filter (λ d. not (d.id == id)) ds) ≡ fates (made moment false id object ∷ events) ds
        → fates events (filter (λ d. not (d.id == id)) (d ∷ ds)) ≡ fates (made moment false id object ∷ events) (d ∷ ds)
    by true is rest = rw (is, turned d.id id true is) rest
    by false is rest = rw (is, turned d.id id false is) (ap (λ more. fate (filter (own d.id) events) d ++ more) rest)

all_fates : (events : List Event) (ds : List Downtime) → after_all events ds ≡ fates events ds
all_fates [] ds = sym (no_fate ds)
all_fates (event ∷ events) ds = all_fates events (downtimes_after event ds) ∙ fates_next event.moment event.id event.object event.starts events ds

-- ---- what is due leaves the downtimes settled

due_fate : (second : ℕ) (d : Downtime) → fate (moments second d) d ≡ (if ends_after second d then begun_by second d ∷ [] else [])
due_fate second d = by d.active (nat_le d.start second) (nat_le d.end second) (nat_lt second d.end) refl refl refl refl
  where
    by : (active starts ends stays : Bool) → d.active ≡ active → nat_le d.start second ≡ starts → nat_le d.end second ≡ ends → nat_lt second d.end ≡ stays
        → fate (moments second d) d ≡ (if ends_after second d then begun_by second d ∷ [] else [])
    by active starts true true active_is starts_is ends_is stays_is = absurd (grind (arith, nat_tests, ends_is, stays_is))
    by active starts false false active_is starts_is ends_is stays_is = absurd (grind (arith, nat_tests, ends_is, stays_is))
    by true starts true false active_is starts_is ends_is stays_is = rw (active_is, ends_is, stays_is) refl
    by true starts false true active_is starts_is ends_is stays_is = rw (active_is, ends_is, stays_is) refl
    by false true true false active_is starts_is ends_is stays_is = rw (active_is, starts_is, ends_is, stays_is) refl
    by false true false true active_is starts_is ends_is stays_is = rw (active_is, starts_is, ends_is, stays_is) refl
    by false false true false active_is starts_is ends_is stays_is = rw (active_is, starts_is, ends_is, stays_is) refl
    by false false false true active_is starts_is ends_is stays_is = rw (active_is, starts_is, ends_is, stays_is) refl

-- each downtime of a list has as its events what is due of it
abbrev HasOwn : ℕ → List Event → List Downtime → Type 0
HasOwn second events [] = Unit {0}
HasOwn second events (d ∷ ds) = (filter (own d.id) events ≡ moments second d) × HasOwn second events ds

fates_settled : (second : ℕ) (events : List Event) (ds : List Downtime) → HasOwn second events ds → fates events ds ≡ downtimes_at second ds
fates_settled second events [] all = refl
fates_settled second events (d ∷ ds) all = by (ends_after second d) refl (fates_settled second events ds all.1)
  where
    by : (stays : Bool) → ends_after second d ≡ stays → fates events ds ≡ downtimes_at second ds → fates events (d ∷ ds) ≡ downtimes_at second (d ∷ ds)
    by true is rest = rw (all.0, due_fate second d, is, rest) refl
    by false is rest = rw (all.0, due_fate second d, is, rest) refl

due_has_own : (second least next : ℕ) (events : List Event) (ds more : List Downtime) → ((id : ℕ) → filter (own id) events ≡ due_of second (with_id id ds))
    → ((d : Downtime) → with_id d.id more ≡ Some d → with_id d.id ds ≡ Some d) → IdsRise downtime_id least next more → HasOwn second events more
due_has_own second least next events ds [] each known rise = tt
due_has_own second least next events ds (d ∷ more) each known rise =
    let own_id : (d.id == d.id) ≡ true = grind (arith, nat_tests) in
    let here : with_id d.id ds ≡ Some d = known d (rw own_id refl) in (
      each d.id ∙ ap (due_of second) here,
      due_has_own second (d.id + 1) next events ds more each
          (λ e is. known e (by_first (λ found. found ≡ Some e) e.id least next d more rise
          (λ _ none. absurd (no_downtime e (sym none ∙ is))) (λ _. is))) rise.2,
    )

pub due_settled : (second next : ℕ) (ds : List Downtime) → IdsRise downtime_id 0 next ds → AllOrdered ds → after_all (due second ds) ds ≡ downtimes_at second ds
due_settled second next ds rise order =
    all_fates (due second ds) ds
    ∙ fates_settled second (due second ds) ds
    (due_has_own second 0 next (due second ds) ds ds (λ id. due_own id second next ds rise order) (λ d is. is) rise)
