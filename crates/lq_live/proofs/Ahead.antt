-- What is to come of the downtimes lies ahead, through each change.
use Rattle.std.proofs.Common.{◌≡◌, ℕ, ◌≤◌, min, Bool, true, false, List, [], ◌∷◌, ◌++◌, filter, refl, arith, true≢false}
use Rattle.lq_events.specs.declared.status.Downtime.{Downtime}
use Rattle.lq_live.specs.Kept.{AllFrom, IsFrom, earliest_second, next_of}

pub lower_from : (m n : ℕ) (ds : List Downtime) → m ≤ n → AllFrom n ds → AllFrom m ds
lower_from m n [] low all = tt
lower_from m n (d ∷ ds) low all = (record { end = omega (arith, low, all.0.end); start = λ is. omega (arith, low, all.0.start is) }, lower_from m n ds low all.1)

-- ---- a list of downtimes that loses some

kept_from : (m : ℕ) (test : Downtime → Bool) (d : Downtime) (ds : List Downtime) (passes : Bool) → test d ≡ passes
    → IsFrom m d → AllFrom m (filter test ds) → AllFrom m (filter test (d ∷ ds))
kept_from m test d ds true is from rest = rw is (from, rest)
kept_from m test d ds false is from rest = rw is rest

pub filter_from : (m : ℕ) (test : Downtime → Bool) (ds : List Downtime) → AllFrom m ds → AllFrom m (filter test ds)
filter_from m test [] all = tt
filter_from m test (d ∷ ds) all = kept_from m test d ds (test d) refl all.0 (filter_from m test ds all.1)

-- ---- one more

pub added_from : (m : ℕ) (d : Downtime) (ds : List Downtime) → AllFrom m ds → IsFrom m d → AllFrom m (ds ++ d ∷ [])
added_from m d [] all from = (from, tt)
added_from m d (first ∷ ds) all from = (all.0, added_from m d ds all.1 from)

lower_one : (m n : ℕ) (d : Downtime) → m ≤ n → IsFrom n d → IsFrom m d
lower_one m n d low from = record { end = omega (arith, low, from.end); start = λ is. omega (arith, low, from.start is) }

pub added_first : (m n : ℕ) (d : Downtime) (ds : List Downtime) → AllFrom m ds → IsFrom n d → AllFrom (min m n) (ds ++ d ∷ [])
added_first m n d ds all from =
    added_from (min m n) d ds (lower_from (min m n) m ds (grind arith) all) (lower_one (min m n) n d (grind arith) from)

-- one more at the front
pub first_from : (m n : ℕ) (d : Downtime) (ds : List Downtime) → AllFrom m ds → IsFrom n d → AllFrom (min m n) (d ∷ ds)
first_from m n d ds all from = (lower_one (min m n) n d (grind arith) from, lower_from (min m n) m ds (grind arith) all)

next_by : (d : Downtime) (active : Bool) → d.active ≡ active → IsFrom (next_of d) d
next_by d true is = rw is (record { end = grind arith; start = λ inactive. absurd (true≢false inactive) })
next_by d false is = rw is (record { end = grind arith; start = λ inactive. grind arith })

pub next_from : (d : Downtime) → IsFrom (next_of d) d
next_from d = next_by d d.active refl

pub all_from_first : (ds : List Downtime) → AllFrom (earliest_second ds) ds
all_from_first [] = tt
all_from_first (d ∷ ds) = first_from (earliest_second ds) (next_of d) d ds (all_from_first ds) (next_from d)
