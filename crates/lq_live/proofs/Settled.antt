-- The downtimes when all that is due at a second has happened, by those before.
use Rattle.std.proofs.Common.{◌≡◌, ℕ, ◌+◌, ◌<◌, ◌≤◌, ◌&&◌, ◌||◌, not, nat_le, Bool, true, false, List, [], ◌∷◌, length, filter, refl, sym, ap, ◌∙◌, arith, true≢false}
use Rattle.std.proofs.lemmas.Bool.Decides.{nat_tests}
use Rattle.std.specs.List.{find}
use Rattle.std.specs.Option.{option_map}
use Rattle.lq_records.specs.declared.object.Object.{Object}
use Rattle.lq_records.specs.declared.object.ObjectKind.{ObjectKind}
use Rattle.lq_events.specs.declared.status.Downtime.{Downtime}
use Rattle.lq_live.specs.Downtimes.{depth, is_active_of}
use Rattle.lq_live.specs.Depths.{is_active_at}
use Rattle.lq_live.specs.Edits.{begun_by, ends_after, downtimes_at}
use Rattle.lq_live.specs.Effects.{has_id_and_kind}
use Rattle.lq_live.specs.Ids.{IdsRise, downtime_id}
use Rattle.lq_live.specs.Kept.{AllBegun, AllFrom, AllOrdered, IsFrom}

-- ---- what is found and counted in them

module _ (second : ℕ) where
  depth_by : (object : Object) (d : Downtime) (ds : List Downtime) (stays active : Bool) → ends_after second d ≡ stays → is_active_of object (begun_by second d) ≡ active
      → length (filter (is_active_at second object) ds) ≡ depth object (downtimes_at second ds)
      → length (filter (is_active_at second object) (d ∷ ds)) ≡ depth object (downtimes_at second (d ∷ ds))
  depth_by object d ds true true stays active rest = rw (stays, active) (omega (arith, rest))
  depth_by object d ds true false stays active rest = rw (stays, active) rest
  depth_by object d ds false active stays is rest = rw stays rest

  pub depth_settled : (object : Object) (ds : List Downtime) → length (filter (is_active_at second object) ds) ≡ depth object (downtimes_at second ds)
  depth_settled object [] = refl
  depth_settled object (d ∷ ds) =
      depth_by object d ds (ends_after second d) (is_active_of object (begun_by second d)) refl refl (depth_settled object ds)

  module _ (kind : ObjectKind) (id : ℕ) where
    abbrev named : Downtime → Bool
    named d = has_id_and_kind kind id d.id d.object

    without_by : (object : Object) (d : Downtime) (ds : List Downtime) (stays active is_it : Bool) → ends_after second d ≡ stays → is_active_of object (begun_by second d) ≡ active → named d ≡ is_it
        → length (filter (λ d. is_active_at second object d && not (named d)) ds) ≡ depth object (filter (λ d. not (named d)) (downtimes_at second ds))
        → length (filter (λ d. is_active_at second object d && not (named d)) (d ∷ ds)) ≡ depth object (filter (λ d. not (named d)) (downtimes_at second (d ∷ ds)))
    without_by object d ds true true true stays active is rest = rw (stays, active, is) rest
    without_by object d ds true true false stays active is rest = rw (stays, active, is) (rw active (omega (arith, rest)))
    without_by object d ds true false true stays active is rest = rw (stays, active, is) rest
    without_by object d ds true false false stays active is rest = rw (stays, active, is) (rw active rest)
    without_by object d ds false active is_it stays _ is rest = rw stays rest

    pub depth_without : (object : Object) (ds : List Downtime)
        → length (filter (λ d. is_active_at second object d && not (named d)) ds) ≡ depth object (filter (λ d. not (named d)) (downtimes_at second ds))
    depth_without object [] = refl
    depth_without object (d ∷ ds) =
        without_by object d ds (ends_after second d) (is_active_of object (begun_by second d)) (named d) refl refl refl (depth_without object ds)

    find_by : (d : Downtime) (ds : List Downtime) (stays is_it : Bool) → ends_after second d ≡ stays → named d ≡ is_it
        → option_map (begun_by second) (find (λ d. ends_after second d && named d) ds) ≡ find named (downtimes_at second ds)
        → option_map (begun_by second) (find (λ d. ends_after second d && named d) (d ∷ ds)) ≡ find named (downtimes_at second (d ∷ ds))
    find_by d ds true true stays is rest = rw (stays, is) refl
    find_by d ds true false stays is rest = rw (stays, is) rest
    find_by d ds false is_it stays is rest = rw stays rest

    pub find_settled : (ds : List Downtime) → option_map (begun_by second) (find (λ d. ends_after second d && named d) ds) ≡ find named (downtimes_at second ds)
    find_settled [] = refl
    find_settled (d ∷ ds) = find_by d ds (ends_after second d) (named d) refl refl (find_settled ds)

  -- ---- what they keep

  from_by : (d : Downtime) (ds : List Downtime) (stays : Bool) → ends_after second d ≡ stays → AllFrom (second + 1) (downtimes_at second ds) → AllFrom (second + 1) (downtimes_at second (d ∷ ds))
  from_by d ds false is rest = rw is rest
  from_by d ds true is rest =
      rw is (record { end = grind (arith, nat_tests, is); start = λ inactive. later d.active d.start inactive }, rest)
    where
      later : (active : Bool) (start : ℕ) → (active || nat_le start second) ≡ false → second + 1 ≤ start
      later true start inactive = absurd (true≢false inactive)
      later false start inactive = grind (arith, nat_tests, inactive)

  -- nothing is due any more
  pub settled_from : (ds : List Downtime) → AllFrom (second + 1) (downtimes_at second ds)
  settled_from [] = tt
  settled_from (d ∷ ds) = from_by d ds (ends_after second d) refl (settled_from ds)

  ordered_by : (d : Downtime) (ds : List Downtime) (stays : Bool) → ends_after second d ≡ stays → d.start < d.end → AllOrdered (downtimes_at second ds) → AllOrdered (downtimes_at second (d ∷ ds))
  ordered_by d ds true is order rest = rw is (order, rest)
  ordered_by d ds false is order rest = rw is rest

  pub settled_ordered : (ds : List Downtime) → AllOrdered ds → AllOrdered (downtimes_at second ds)
  settled_ordered [] all = tt
  settled_ordered (d ∷ ds) all = ordered_by d ds (ends_after second d) refl all.0 (settled_ordered ds all.1)

  begun_at : (before start : ℕ) (active : Bool) → before ≤ second → (active ≡ true → start ≤ before) → (active || nat_le start second) ≡ true → start ≤ second
  begun_at before start true above begun is = omega (arith, above, begun refl)
  begun_at before start false above begun is = grind (arith, nat_tests, is)

  settled_begun_by : (before : ℕ) (d : Downtime) (ds : List Downtime) (stays : Bool) → ends_after second d ≡ stays → before ≤ second → (d.active ≡ true → d.start ≤ before)
      → AllBegun second (downtimes_at second ds) → AllBegun second (downtimes_at second (d ∷ ds))
  settled_begun_by before d ds true is above begun rest = rw is (λ active. begun_at before d.start d.active above begun active, rest)
  settled_begun_by before d ds false is above begun rest = rw is rest

  pub settled_begun : (before : ℕ) (ds : List Downtime) → before ≤ second → AllBegun before ds → AllBegun second (downtimes_at second ds)
  settled_begun before [] above all = tt
  settled_begun before (d ∷ ds) above all = settled_begun_by before d ds (ends_after second d) refl above all.0 (settled_begun before ds above all.1)

  lower : (less more next : ℕ) (ds : List Downtime) → less ≤ more → IdsRise downtime_id more next ds → IdsRise downtime_id less next ds
  lower less more next [] low all = tt
  lower less more next (d ∷ ds) low all = (omega (arith, low, all.0), all.1, all.2)

  rise_by : (least next : ℕ) (d : Downtime) (ds : List Downtime) (stays : Bool) → ends_after second d ≡ stays → least ≤ d.id → d.id < next
      → IdsRise downtime_id (d.id + 1) next (downtimes_at second ds) → IdsRise downtime_id least next (downtimes_at second (d ∷ ds))
  rise_by least next d ds true is low below rest = rw is (low, below, rest)
  rise_by least next d ds false is low below rest = rw is (lower least (d.id + 1) next (downtimes_at second ds) (omega (arith, low)) rest)

  pub settled_rise : (least next : ℕ) (ds : List Downtime) → IdsRise downtime_id least next ds → IdsRise downtime_id least next (downtimes_at second ds)
  settled_rise least next [] all = tt
  settled_rise least next (d ∷ ds) all = rise_by least next d ds (ends_after second d) refl all.0 all.1 (settled_rise (d.id + 1) next ds all.2)

  -- ---- before the first moment nothing changes

  same_by : (d : Downtime) (active : Bool) → d.active ≡ active → (active ≡ false → second < d.start) → begun_by second d ≡ d
  same_by d true is later = ap (λ active. record d { active = active }) (rw is refl)
  same_by d false is later =
      let still : (d.active || nat_le d.start second) ≡ false = rw is (grind (arith, nat_tests, later refl)) in
      ap (λ active. record d { active = active }) (still ∙ sym is)

  quiet_by : (first : ℕ) (d : Downtime) (ds : List Downtime) → second < first → IsFrom first d → downtimes_at second ds ≡ ds → downtimes_at second (d ∷ ds) ≡ d ∷ ds
  quiet_by first d ds before from rest =
      let stays : ends_after second d ≡ true = grind (arith, nat_tests, before, from.end) in
      let same : begun_by second d ≡ d = same_by d d.active refl (λ inactive. let start = from.start inactive in omega (arith, before, start)) in
      rw stays (ap (λ d. d ∷ downtimes_at second ds) same ∙ ap (λ ds. d ∷ ds) rest)

  pub settled_quiet : (first : ℕ) (ds : List Downtime) → second < first → AllFrom first ds → downtimes_at second ds ≡ ds
  settled_quiet first [] before all = refl
  settled_quiet first (d ∷ ds) before all = quiet_by first d ds before all.0 (settled_quiet first ds before all.1)
