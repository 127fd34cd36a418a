-- What is kept of whole columns of cells.
use Rattle.std.proofs.Common.{◌≡◌, ◌<◌, ◌≤◌, ◌+◌, ◌-◌, ◌^◌, ℕ, zero, suc, Bool, true, false, List, [], ◌∷◌, length, map, get_or, refl, sym, ap, ◌∙◌, ℤ, pos, unsigned_abs, drop, subst, All, arith}
use Rattle.std.specs.Int.{w128}
use Rattle.std.specs.List.{AllByRecursion}
use Rattle.std.proofs.lemmas.Int.{fits_signed_from_abs, to_z-of_z}
use Rattle.std.proofs.Math.Nat.{add-zero}
use Rattle.std.proofs.lemmas.List.{drop_more, get_or-drop}
use Rattle.std.proofs.lemmas.List.Elements.{All-get_or}
use mir.Val.{of_z, to_z}
use Rattle.lq_stats.specs.Columns.{marked_by_both, with_column}
use Rattle.lq_stats.specs.Totals.{HasRoomForRows, IsSized, IsSmall, with_stat_cell}
use Rattle.lq_stats.specs.declared.cell.StatCell.TheVariants as cell
use Rattle.lq_stats.specs.declared.total.Total.{Total}
use Rattle.lq_stats.specs.declared.total.Total.TheVariants as total
use Rattle.lq_stats.proofs.BoundLemmas.{size_of-add}

-- ---- marks

-- a count has one more for each row that both mark
pub counted_more : (count : ℕ) (marks counted : List Bool) → total.Count (count + marked_by_both marks counted) ≡ with_column marks (total.Count count) (map cell.Counted counted)
counted_more count [] counted = ap total.Count (let none : count + 0 ≡ count = omega arith in none)
counted_more count (mark ∷ marks) [] = ap total.Count (let none : count + 0 ≡ count = omega arith in none)
counted_more count (true ∷ marks) (true ∷ counted) =
    let more : count + (marked_by_both marks counted + 1) ≡ count + 1 + marked_by_both marks counted = omega arith in
    ap total.Count more ∙ counted_more (count + 1) marks counted
counted_more count (true ∷ marks) (false ∷ counted) = counted_more count marks counted
counted_more count (false ∷ marks) (mark ∷ counted) = counted_more count marks counted

-- what is kept of numbers isn't changed by marks
pub without_numbers : (old : Total) → ((mark : Bool) → with_stat_cell old (cell.Counted mark) ≡ old) → (marks counted : List Bool) → old ≡ with_column marks old (map cell.Counted counted)
without_numbers old same [] counted = refl
without_numbers old same (mark ∷ marks) [] = refl
without_numbers old same (true ∷ marks) (mark ∷ counted) =
    without_numbers old same marks counted ∙ ap (λ total. with_column marks total (map cell.Counted counted)) (sym (same mark))
without_numbers old same (false ∷ marks) (mark ∷ counted) = without_numbers old same marks counted

-- ---- room

pub small_with_room : (more : ℕ) (old : Total) → HasRoomForRows more old → IsSmall old
small_with_room more (total.Count count) room = omega (arith, room)
small_with_room more (total.Sum sum) room = omega (arith, room)
small_with_room more (total.Min least) room = tt
small_with_room more (total.Max greatest) room = tt
small_with_room more (total.Avg mean) room = (omega (arith, room.0), omega (arith, room.1))

pub room_with_less : (more less : ℕ) (old : Total) → less ≤ more → HasRoomForRows more old → HasRoomForRows less old
room_with_less more less (total.Count count) fewer room = omega (arith, fewer, room)
room_with_less more less (total.Sum sum) fewer room = omega (arith, fewer, room)
room_with_less more less (total.Min least) fewer room = tt
room_with_less more less (total.Max greatest) fewer room = tt
room_with_less more less (total.Avg mean) fewer room = (omega (arith, fewer, room.0), omega (arith, fewer, room.1))

pub room_for_number : (more : ℕ) (old : Total) (number : ℤ) → unsigned_abs number ≤ 2 ^ 64 → HasRoomForRows (more + 1) old → HasRoomForRows more (with_stat_cell old (cell.Number number))
room_for_number more (total.Count count) number small room = omega (arith, room)
room_for_number more (total.Sum sum) number small room = omega (arith, room, small, size_of-add sum number)
room_for_number more (total.Min least) number small room = tt
room_for_number more (total.Max greatest) number small room = tt
room_for_number more (total.Avg mean) number small room = (omega (arith, room.0), omega (arith, room.1, small, size_of-add mean.sum number))

pub sized_number : (numbers : List ℤ) (place : ℕ) (d : ℤ) → AllByRecursion IsSized (map cell.Number numbers) → place < length numbers → unsigned_abs (get_or numbers place d) ≤ 2 ^ 64
sized_number [] place d sized below = absurd (omega (arith, below))
sized_number (number ∷ numbers) zero d sized below = sized.0
sized_number (number ∷ numbers) (suc place) d sized below = sized_number numbers place d sized.1 (omega (arith, below))

-- the first of what is left of two lists, which is the same
pub same_rest : (totals old : List Total) (i : ℕ) (d : Total) → drop i totals ≡ drop i old → get_or totals i d ≡ get_or old i d
same_rest totals old i d same = rw add-zero at (sym (get_or-drop i totals 0 d) ∙ ap (λ rest. get_or rest 0 d) same ∙ get_or-drop i old 0 d)

pub room_at : (more : ℕ) (totals old : List Total) (i : ℕ) (d : Total) → drop i totals ≡ drop i old → i < length old → All (HasRoomForRows more) old → HasRoomForRows more (get_or totals i d)
room_at more totals old i d same below room = subst (HasRoomForRows more) (sym (same_rest totals old i d same)) (All-get_or (HasRoomForRows more) old i d below room)

-- ---- numbers, one after another

-- a number is the one that its bits give
pub number_itself : (number : ℤ) → unsigned_abs number ≤ 2 ^ 64 → to_z w128 (of_z w128 number) ≡ number
number_itself number small = to_z-of_z w128 number (fits_signed_from_abs w128 number (omega (arith, small)))

module _ (marks : List Bool) (numbers : List ℤ) (place : ℕ) (old : Total) (within : place < length marks) (long : length numbers ≡ length marks) where
  pub marked_number : get_or marks place false ≡ true
      → with_column (drop (place + 1) marks) (with_stat_cell old (cell.Number (get_or numbers place (pos 0)))) (map cell.Number (drop (place + 1) numbers)) ≡ with_column (drop place marks) old (map cell.Number (drop place numbers))
  marked_number marked = rw (drop_more marks place false within, drop_more numbers place (pos 0) (omega (arith, within, long)), marked) refl

  pub unmarked_number : get_or marks place false ≡ false
      → with_column (drop (place + 1) marks) old (map cell.Number (drop (place + 1) numbers)) ≡ with_column (drop place marks) old (map cell.Number (drop place numbers))
  unmarked_number unmarked = rw (drop_more marks place false within, drop_more numbers place (pos 0) (omega (arith, within, long)), unmarked) refl

  pub room_for_marked : (number : ℤ) → unsigned_abs number ≤ 2 ^ 64 → HasRoomForRows (length marks - place) old → HasRoomForRows (length marks - (place + 1)) (with_stat_cell old (cell.Number number))
  room_for_marked number small room =
      let left : length marks - place ≡ length marks - (place + 1) + 1 = omega (arith, within) in
      room_for_number (length marks - (place + 1)) old number small (subst (λ more. HasRoomForRows more old) left room)
