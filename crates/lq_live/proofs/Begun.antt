-- A downtime is active only where it has begun, through each change.
use Rattle.std.proofs.Common.{◌≡◌, ℕ, ◌+◌, ◌≤◌, nat_le, Bool, true, false, List, [], ◌∷◌, ◌++◌, filter, refl, arith, All}
use Rattle.std.specs.List.{AllByRecursion}
use Rattle.std.proofs.lemmas.Bool.Decides.{nat_tests}
use Rattle.std.proofs.lemmas.List.Elements.{All-from_recursion}
use Rattle.lq_events.specs.declared.status.Downtime.{Downtime}
use Rattle.lq_live.specs.State.{State}
use Rattle.lq_live.specs.Always.{IsCurrent}
use Rattle.lq_live.specs.Kept.{AllBegun, AllFrom, AllOrdered, IsKept}

-- ---- lists that change without an event

kept_begun : (second : ℕ) (test : Downtime → Bool) (d : Downtime) (ds : List Downtime) (passes : Bool) → test d ≡ passes
    → (d.active ≡ true → d.start ≤ second) → AllBegun second (filter test ds) → AllBegun second (filter test (d ∷ ds))
kept_begun second test d ds true is begun rest = rw is (begun, rest)
kept_begun second test d ds false is begun rest = rw is rest

pub filter_begun : (second : ℕ) (test : Downtime → Bool) (ds : List Downtime) → AllBegun second ds → AllBegun second (filter test ds)
filter_begun second test [] all = tt
filter_begun second test (d ∷ ds) all = kept_begun second test d ds (test d) refl all.0 (filter_begun second test ds all.1)

pub added_begun : (second : ℕ) (d : Downtime) (ds : List Downtime) → AllBegun second ds → (d.active ≡ true → d.start ≤ second) → AllBegun second (ds ++ d ∷ [])
added_begun second d [] all begun = (begun, tt)
added_begun second d (first ∷ ds) all begun = (all.0, added_begun second d ds all.1 begun)

-- ---- what callers see

active_by : (second : ℕ) (active : Bool) (start : ℕ) → (active ≡ true → start ≤ second) → (active ≡ false → second + 1 ≤ start) → active ≡ nat_le start second
active_by second true start begun ahead = grind (arith, nat_tests, begun refl)
active_by second false start begun ahead = grind (arith, nat_tests, ahead refl)

current_by : (second : ℕ) (ds : List Downtime) → AllFrom (second + 1) ds → AllOrdered ds → AllBegun second ds → AllByRecursion (IsCurrent second) ds
current_by second [] from order begun = tt
current_by second (d ∷ ds) from order begun = (
  record {
    order = order.0;
    ahead = omega (arith, from.0.end);
    active = active_by second d.active d.start begun.0 from.0.start;
  },
  current_by second ds from.1 order.1 begun.1,
)

pub all_current : (s : State) → IsKept s → All (IsCurrent s.now) s.downtimes
all_current s kept = All-from_recursion (IsCurrent s.now) s.downtimes (current_by s.now s.downtimes kept.ahead kept.order kept.begun)
