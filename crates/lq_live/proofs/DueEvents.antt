-- What is due stands in the one order that it can have.
use Rattle.std.proofs.Common.{◌≡◌, ℕ, zero, suc, ◌+◌, ◌<◌, ◌≤◌, ◌==◌, ◌&&◌, nat_le, not, Bool, true, false, Option, Some, None, List, [], ◌∷◌, ◌++◌, length, flat_map, refl, sym, ap, ◌∙◌, arith, Ordering, Less, Equal, Greater, is_lt, nat_cmp, true≢false, IsPermutation, IsSorted}
use Rattle.std.specs.List.{AllAdjacentBelow, AllByRecursion, find}
use Rattle.std.specs.Option.{option_map}
use Rattle.std.specs.Cmp.{IsTotalOrder, bool_cmp_total, ranked}
use Rattle.std.specs.Ordering.{bool_cmp, is_gt, ordering_then}
use Rattle.std.proofs.lemmas.Bool.Decides.{nat_tests}
use Rattle.std.proofs.lemmas.Cmp.{nat_cmp_total, on_total, then_total}
use Rattle.lq_records.specs.declared.object.Object.{Object}
use Rattle.lq_events.specs.declared.status.Downtime.{Downtime}
use Rattle.lq_live.specs.State.{State}
use Rattle.lq_live.specs.Downtimes.{Event, IsDue, MayPrecede, due, end_of, event_order, moments, only_if, sort_by, start_of}
use Rattle.lq_live.specs.Ids.{HasRisingIds, IdsRise, downtime_id}
use Rattle.lq_live.proofs.Sorting.{Ascending, ascending_sorted, is_sorted, same_sorted}

-- ---- the order

pub event_total : IsTotalOrder event_order
event_total =
    then_total (on_total (λ (event : Event). event.moment) nat_cmp_total)
    (then_total (on_total (λ (event : Event). event.starts) bool_cmp_total) (on_total (λ (event : Event). event.id) nat_cmp_total))

then_equal : (first next : Ordering) → ordering_then first next ≡ Equal → (first ≡ Equal) × (next ≡ Equal)
then_equal Less next is = absurd (true≢false (ap is_lt is))
then_equal Equal next is = (refl, is)
then_equal Greater next is = absurd (true≢false (ap is_gt is))

nat_equal : (a b : ℕ) → nat_cmp a b ≡ Equal → a ≡ b
nat_equal a b is = ranked a b Equal (sym is)

bool_equal : (a b : Bool) → bool_cmp a b ≡ Equal → a ≡ b
bool_equal true true is = refl
bool_equal true false is = absurd (true≢false (ap is_gt is))
bool_equal false true is = absurd (true≢false (ap is_lt is))
bool_equal false false is = refl

-- ---- each downtime is the one with its id, and each event's object is that of the downtime with its id

abbrev pub with_id : ℕ → List Downtime → Option Downtime
with_id id ds = find (λ d. d.id == id) ds

-- the downtimes of a list are those that another has with their ids
abbrev pub AreKnown : List Downtime → List Downtime → Type 0
AreKnown ds = AllByRecursion (λ d. with_id d.id ds ≡ Some d)

known_later : (d : Downtime) (least next : ℕ) (ds more : List Downtime) → d.id < least → IdsRise downtime_id least next more → AreKnown ds more → AreKnown (d ∷ ds) more
known_later d least next ds [] below rise known = tt
known_later d least next ds (e ∷ more) below rise known =
    let other : (d.id == e.id) ≡ false = grind (arith, nat_tests, below, rise.0) in
    (rw other known.0, known_later d (e.id + 1) next ds more (omega (arith, below, rise.0)) rise.2 known.1)

pub all_known : (least next : ℕ) (ds : List Downtime) → IdsRise downtime_id least next ds → AreKnown ds ds
all_known least next [] rise = tt
all_known least next (d ∷ ds) rise =
    let own : (d.id == d.id) ≡ true = grind (arith, nat_tests) in
    (rw own refl, known_later d (d.id + 1) next ds ds (omega arith) rise.2 (all_known (d.id + 1) next ds rise.2))

abbrev IsKnown : List Downtime → Event → Type 0
IsKnown ds event = option_map (λ d. d.object) (with_id event.id ds) ≡ Some event.object

some_object : (a b : Object) → Some a ≡ Some b → a ≡ b
some_object a b is = ap (λ found. elim found as (λ _. Object) [ Some object ↦ object | None ↦ a ]) is

same_event : (ds : List Downtime) (a b : Event) → IsKnown ds a → IsKnown ds b → event_order a b ≡ Equal → a ≡ b
same_event ds a b known_a known_b tie =
    let first = then_equal (nat_cmp a.moment b.moment) (ordering_then (bool_cmp a.starts b.starts) (nat_cmp a.id b.id)) tie in
    let next = then_equal (bool_cmp a.starts b.starts) (nat_cmp a.id b.id) first.1 in
    let moment : a.moment ≡ b.moment = nat_equal a.moment b.moment first.0 in
    let starts : a.starts ≡ b.starts = bool_equal a.starts b.starts next.0 in
    let id : a.id ≡ b.id = nat_equal a.id b.id next.1 in
    let object : a.object ≡ b.object = some_object a.object b.object (sym known_a ∙ ap (λ id. option_map (λ d. d.object) (with_id id ds)) id ∙ known_b) in
    λ i. record { moment = moment i; starts = starts i; id = id i; object = object i }

all_append : (P : Event → Type 0) (a b : List Event) → AllByRecursion P a → AllByRecursion P b → AllByRecursion P (a ++ b)
all_append P [] b all more = more
all_append P (event ∷ a) b all more = (all.0, all_append P a b all.1 more)

all_only_if : (P : Event → Type 0) (test : Bool) (event : Event) → (test ≡ true → P event) → AllByRecursion P (only_if test event)
all_only_if P true event is = (is refl, tt)
all_only_if P false event is = tt

-- what each downtime has due has a property
pub all_moments : (P : Event → Type 0) (second : ℕ) (d : Downtime) (rest : List Event)
    → ((not d.active && nat_le d.start second) ≡ true → P (start_of d)) → (nat_le d.end second ≡ true → P (end_of d))
    → AllByRecursion P rest → AllByRecursion P (moments second d ++ rest)
all_moments P second d rest start end more =
    all_append P (moments second d) rest
    (all_append P (only_if (not d.active && nat_le d.start second) (start_of d)) (only_if (nat_le d.end second) (end_of d))
    (all_only_if P (not d.active && nat_le d.start second) (start_of d) start)
    (all_only_if P (nat_le d.end second) (end_of d) end))
    more

moments_known : (second : ℕ) (ds more : List Downtime) → AreKnown ds more → AllByRecursion (IsKnown ds) (flat_map (moments second) more)
moments_known second ds [] known = tt
moments_known second ds (d ∷ more) known =
    let object : option_map (λ d. d.object) (with_id d.id ds) ≡ Some d.object = ap (option_map (λ d. d.object)) known.0 in
    all_moments (IsKnown ds) second d (flat_map (moments second) more) (λ _. object) (λ _. object) (moments_known second ds more known.1)

pub due_sorted : (second : ℕ) (s : State) (events : List Event) → HasRisingIds s → IsPermutation (flat_map (moments second) s.downtimes) events
    → IsSorted event_order events → events ≡ due second s.downtimes
unfolding due
due_sorted second s events has same order =
    is_sorted event_order event_total (IsKnown s.downtimes) (same_event s.downtimes) (flat_map (moments second) s.downtimes) events
    (moments_known second s.downtimes s.downtimes (all_known 0 s.next_downtime s.downtimes has.downtimes)) same order

-- ---- what is due, by places

then_lt : (first next : Ordering) → is_gt (ordering_then first next) ≡ false → (is_gt first ≡ false) × (first ≡ Equal → is_gt next ≡ false)
then_lt Less next is = (refl, λ equal. absurd (true≢false (ap is_lt equal)))
then_lt Equal next is = (refl, λ _. is)
then_lt Greater next is = absurd (true≢false is)

nat_not_greater : (a b : ℕ) (o : Ordering) → nat_cmp a b ≡ o → is_gt o ≡ false → a ≤ b
nat_not_greater a b Less is at_most = let below : a < b = ranked a b Less (sym is) in omega (arith, below)
nat_not_greater a b Equal is at_most = let same : a ≡ b = ranked a b Equal (sym is) in omega (arith, same)
nat_not_greater a b Greater is at_most = absurd (true≢false at_most)

nat_tie : (a b : ℕ) (o : Ordering) → nat_cmp a b ≡ o → a ≡ b → nat_cmp a b ≡ Equal
nat_tie a b Less is same = let below : a < b = ranked a b Less (sym is) in absurd (omega (arith, below, same))
nat_tie a b Equal is same = is
nat_tie a b Greater is same = let above : b < a = ranked a b Greater (sym is) in absurd (omega (arith, above, same))

bool_tie : (a b : Bool) → a ≡ b → bool_cmp a b ≡ Equal
bool_tie true true same = refl
bool_tie true false same = absurd (true≢false same)
bool_tie false true same = absurd (true≢false (sym same))
bool_tie false false same = refl

bool_not_greater : (a b : Bool) → is_gt (bool_cmp a b) ≡ false → a ≡ true → b ≡ true
bool_not_greater a true is true_a = refl
bool_not_greater true false is true_a = absurd (true≢false is)
bool_not_greater false false is true_a = true_a

pub precedes : (a b : Event) → is_gt (event_order a b) ≡ false → MayPrecede a b
precedes a b is =
    let first = then_lt (nat_cmp a.moment b.moment) (ordering_then (bool_cmp a.starts b.starts) (nat_cmp a.id b.id)) is in
    let next = λ (same : a.moment ≡ b.moment). then_lt (bool_cmp a.starts b.starts) (nat_cmp a.id b.id) (first.1 (nat_tie a.moment b.moment (nat_cmp a.moment b.moment) refl same)) in
    record {
      moment = nat_not_greater a.moment b.moment (nat_cmp a.moment b.moment) refl first.0;
      ends_first = λ same starts. bool_not_greater a.starts b.starts (next same).0 starts;
      ids = λ same turn. nat_not_greater a.id b.id (nat_cmp a.id b.id) refl ((next same).1 (bool_tie a.starts b.starts turn));
    }

adjacent : (events : List Event) → Ascending event_order event_total events → AllAdjacentBelow MayPrecede events (length events)
adjacent [] up k d below = absurd (omega (arith, below))
adjacent (a ∷ []) up k d below = absurd (omega (arith, below))
adjacent (a ∷ b ∷ events) up zero d below = precedes a b up.0.0
adjacent (a ∷ b ∷ events) up (suc k) d below =
    let later : suc k + 1 ≡ suc (k + 1) = omega arith in
    rw later (adjacent (b ∷ events) up.1 k d (omega (arith, below)))

pub due_is : (second : ℕ) (ds : List Downtime) → IsDue second ds (due second ds)
unfolding due
due_is second ds = record {
  each = same_sorted event_order event_total (flat_map (moments second) ds);
  order = adjacent (sort_by event_order (flat_map (moments second) ds)) (ascending_sorted event_order event_total (flat_map (moments second) ds));
}
