-- Groups with one row more.
use Rattle.std.proofs.Common.{◌≡◌, ◌<◌, ◌≤◌, ◌+◌, ◌^◌, ℕ, suc, Bool, true, false, Some, None, List, [], ◌∷◌, ◌++◌, length, map, cond, get_or, set, refl, sym, ap, ◌∙◌, ⊎_elim, append_assoc, arith}
use Rattle.std.specs.Prelude.{◌==◌, position, if◌then◌else◌}
use Rattle.std.specs.List.{AllByRecursion, AllZip, list_any, position_or_len}
use Rattle.std.proofs.lemmas.Bool.{cases_lt, cond-false, cond-true, le-ltb, lt-ltb, or_parts}
use Rattle.std.proofs.lemmas.List.{append-nil, get_or_default, length_push, map-append}
use Rattle.std.proofs.lemmas.List.Folds.{list_any-from_Any}
use Rattle.std.proofs.lemmas.List.Sums.{passes_at_first}
use Rattle.lq_stats.specs.Grouped.{AreGroupsOf, Grouped, HasRows, with_row_in_new_group, with_row_in_group, totals_of}
use Rattle.lq_stats.specs.Groups.{IsCellOf, Key, Row, distinct_keys, keys_of, rows_with_key, same_key}
use Rattle.lq_stats.specs.Totals.{IsSized, total_of, totals_from, with_cells}
use Rattle.lq_stats.specs.declared.cell.StatCell.{StatCell}
use Rattle.lq_stats.specs.declared.cell.StatCell.TheVariants as cell
use Rattle.lq_stats.specs.declared.kind.StatKind.{StatKind}
use Rattle.lq_stats.specs.declared.kind.StatKind.TheVariants as kind
use Rattle.lq_stats.specs.declared.spec.StatsSpec.{StatsSpec}
use Rattle.lq_stats.specs.declared.total.Total.{Total}
use Rattle.lq_stats.proofs.GroupLemmas.{any_first, apart_first, changed, first_of_more, key_itself, one_changed, unchanged, with_key}
use Rattle.lq_stats.proofs.KeyLemmas.{list_any-from_position}
use Rattle.lq_stats.proofs.RowLemmas.{rows_of-push, totals_from-push, totals_none}

keys_of-push : (columns : ℕ) (rows : List Row) (row : Row) → keys_of columns (rows ++ row ∷ []) ≡ with_key row.key (keys_of columns rows)
keys_of-push columns rows row =
    ap distinct_keys
    (ap (λ keys. (if columns == 0 then [] ∷ [] else []) ++ keys) (map-append (λ (each : Row). each.key) rows (row ∷ []))
    ∙ sym (append_assoc (if columns == 0 then [] ∷ [] else []) (map (λ (each : Row). each.key) rows) (row.key ∷ [])))
    ∙ first_of_more ((if columns == 0 then [] ∷ [] else []) ++ map (λ (each : Row). each.key) rows) row.key

-- what is kept of a group
abbrev kept : List StatKind → List Row → Key → List Total
kept kinds rows key = totals_from 0 kinds (rows_with_key key rows)

-- ---- where a key stands

some_passes : {X : Type 0} (p : X → Bool) (xs : List X) → position_or_len p xs < length xs → list_any p xs ≡ true
some_passes p [] below = absurd (omega (arith, below))
some_passes p (x ∷ xs) below =
    let all = x ∷ xs in
    let first : ℕ = position_or_len p all in
    list_any-from_Any p all (first, get_or all first x, below, get_or_default all first (get_or all first x) x below, passes_at_first p all x below)

stands : {X : Type 0} (p : X → Bool) (xs : List X) (place : ℕ) → position p xs ≡ Some place → (position_or_len p xs ≡ place) × (list_any p xs ≡ true)
stands p xs place found =
    ⊎_elim
    (λ (below : position_or_len p xs < length xs).
    let some : Some (position_or_len p xs) ≡ Some place = sym (cond-true _ (Some (position_or_len p xs)) None (lt-ltb _ _ below)) ∙ found in
    let same : position_or_len p xs ≡ place = cc in
    (same, some_passes p xs below))
    (λ (above : length xs ≤ position_or_len p xs).
    let none : None ≡ Some place = sym (cond-false _ (Some (position_or_len p xs)) None (le-ltb _ _ above)) ∙ found in
    absurd (cc))
    (cases_lt (position_or_len p xs) (length xs))

-- ---- what is kept of each group, with one row more

module _ (kinds : List StatKind) (rows : List Row) (row : Row) where
  kept_more : (key : Key) → kept kinds (rows ++ row ∷ []) key ≡ changed row.key (λ totals. with_cells totals row.cells) (kept kinds rows) key
  kept_more key =
      ap (totals_from 0 kinds) (rows_of-push key rows row)
      ∙ by_key (same_key key row.key)
    where
      by_key : (same : Bool) → totals_from 0 kinds (rows_with_key key rows ++ cond same (row ∷ []) [])
          ≡ cond same (with_cells (totals_from 0 kinds (rows_with_key key rows)) row.cells) (totals_from 0 kinds (rows_with_key key rows))
      by_key true = totals_from-push kinds 0 (rows_with_key key rows) row
      by_key false = ap (totals_from 0 kinds) (append-nil (rows_with_key key rows))

  all_kept_more : (keys : List Key) → map (kept kinds (rows ++ row ∷ [])) keys ≡ map (changed row.key (λ totals. with_cells totals row.cells) (kept kinds rows)) keys
  all_kept_more [] = refl
  all_kept_more (key ∷ keys) = λ i. kept_more key i ∷ all_kept_more keys i

pub raised_are : (old : Grouped) (place : ℕ) (cells : List StatCell) (rows : List Row) → position (same_key old.next) old.keys ≡ Some place
    → AreGroupsOf old rows → AreGroupsOf (with_row_in_group old place cells) (rows ++ record { key = old.next; cells = cells } ∷ [])
raised_are old place cells rows found are =
    let row : Row = record { key = old.next; cells = cells } in
    let kinds = old.spec.entries in
    let before = keys_of old.spec.keys rows in
    let raise : List Total → List Total = λ totals. with_cells totals cells in
    let at = stands (same_key old.next) before place (ap (position (same_key old.next)) (sym are.keys) ∙ found) in
    let same : keys_of old.spec.keys (rows ++ row ∷ []) ≡ before =
    keys_of-push old.spec.keys rows row ∙ cond-true _ before (before ++ old.next ∷ []) at.1 in
    record {
      keys = are.keys ∙ sym same;
      totals = ap (λ totals. set totals place (raise (get_or totals place []))) are.totals
          ∙ ap (λ here. set (map (kept kinds rows) before) here (raise (get_or (map (kept kinds rows) before) here []))) (sym at.0)
          ∙ one_changed old.next raise (kept kinds rows) before [] (apart_first _) at.1
          ∙ sym (all_kept_more kinds rows row before)
          ∙ ap (map (kept kinds (rows ++ row ∷ []))) (sym same);
      count = ap (λ count. count + 1) are.count ∙ sym (length_push rows row);
    }

-- ---- a group more

later_none : {X : Type 0} (p : X → Bool) (xs ys : List X) → list_any p (xs ++ ys) ≡ false → list_any p ys ≡ false
later_none p [] ys none = none
later_none p (x ∷ xs) ys none = later_none p xs ys (or_parts (p x) (list_any p (xs ++ ys)) none).1

no_rows : (key : Key) (rows : List Row) → list_any (same_key key) (map (λ (row : Row). row.key) rows) ≡ false → rows_with_key key rows ≡ []
no_rows key [] none = refl
no_rows key (row ∷ rows) none =
    let parts = or_parts (same_key key row.key) (list_any (same_key key) (map (λ (row : Row). row.key) rows)) none in
    rw parts.0 (no_rows key rows parts.1)

pub added_are : (old : Grouped) (cells : List StatCell) (rows : List Row) → position (same_key old.next) old.keys ≡ None
    → AreGroupsOf old rows → AreGroupsOf (with_row_in_new_group old cells) (rows ++ record { key = old.next; cells = cells } ∷ [])
added_are old cells rows absent are =
    let row : Row = record { key = old.next; cells = cells } in
    let kinds = old.spec.entries in
    let before = keys_of old.spec.keys rows in
    let raise : List Total → List Total = λ totals. with_cells totals cells in
    let none : list_any (same_key old.next) before ≡ false =
    list_any-from_position (same_key old.next) before (ap (position (same_key old.next)) (sym are.keys) ∙ absent) in
    let more : keys_of old.spec.keys (rows ++ row ∷ []) ≡ before ++ old.next ∷ [] =
    keys_of-push old.spec.keys rows row ∙ cond-false _ before (before ++ old.next ∷ []) none in
    let keys = map (λ (row : Row). row.key) rows in
    let first : List Key = if old.spec.keys == 0 then [] ∷ [] else [] in
    let new : kept kinds rows old.next ≡ map (λ kind. total_of kind []) kinds =
    ap (totals_from 0 kinds) (no_rows old.next rows (later_none (same_key old.next) first keys (sym (any_first old.next (first ++ keys)) ∙ none)))
    ∙ totals_none kinds 0 in
    let last : kept kinds (rows ++ row ∷ []) old.next ≡ with_cells (map (λ kind. total_of kind []) kinds) cells =
    kept_more kinds rows row old.next
    ∙ cond-true _ (raise (kept kinds rows old.next)) (kept kinds rows old.next) (key_itself old.next)
    ∙ ap raise new in
    record {
      keys = ap (λ keys. keys ++ old.next ∷ []) are.keys ∙ sym more;
      totals = ap (λ totals. totals ++ with_cells (map (λ kind. total_of kind []) kinds) cells ∷ []) are.totals
          ∙ ap (λ totals. totals ++ with_cells (map (λ kind. total_of kind []) kinds) cells ∷ []) (sym (unchanged old.next raise (kept kinds rows) before none))
          ∙ ap (λ totals. totals ++ with_cells (map (λ kind. total_of kind []) kinds) cells ∷ []) (sym (all_kept_more kinds rows row before))
          ∙ ap (λ group. map (kept kinds (rows ++ row ∷ [])) before ++ group ∷ []) (sym last)
          ∙ sym (map-append (kept kinds (rows ++ row ∷ [])) before (old.next ∷ []))
          ∙ ap (map (kept kinds (rows ++ row ∷ []))) (sym more);
      count = ap (λ count. count + 1) are.count ∙ sym (length_push rows row);
    }

-- ---- rows within their limits

pub sized_cell : (kind : StatKind) (cell : StatCell) → IsCellOf kind cell → IsSized cell
sized_cell kind (cell.Counted marked) is = tt
sized_cell kind.Count (cell.Number number) is = absurd is
sized_cell kind.Sum (cell.Number number) is = is
sized_cell kind.Min (cell.Number number) is = is
sized_cell kind.Max (cell.Number number) is = is
sized_cell kind.Avg (cell.Number number) is = is

pub sized_cells : (kinds : List StatKind) (cells : List StatCell) → AllZip IsCellOf kinds cells → AllByRecursion IsSized cells
sized_cells [] [] are = tt
sized_cells [] (cell ∷ cells) are = absurd are
sized_cells (kind ∷ kinds) [] are = absurd are
sized_cells (kind ∷ kinds) (cell ∷ cells) are = (sized_cell kind cell are.0, sized_cells kinds cells are.1)

pub as_long : (kinds : List StatKind) (cells : List StatCell) → AllZip IsCellOf kinds cells → length cells ≡ length kinds
as_long [] [] are = refl
as_long [] (cell ∷ cells) are = absurd are
as_long (kind ∷ kinds) [] are = absurd are
as_long (kind ∷ kinds) (cell ∷ cells) are = ap suc (as_long kinds cells are.1)

all_push : {X : Type 0} (P : X → Type 0) (xs : List X) (x : X) → AllByRecursion P xs → P x → AllByRecursion P (xs ++ x ∷ [])
all_push P [] x all last = (last, tt)
all_push P (first ∷ xs) x all last = (all.0, all_push P xs x all.1 last)

more_rows : (old new : Grouped) (cells : List StatCell) (has : HasRows old) → old.count < 2 ^ 40 → AllByRecursion IsSized cells
    → AreGroupsOf new (has.rows ++ record { key = old.next; cells = cells } ∷ []) → HasRows new
more_rows old new cells has few sized are =
    let row : Row = record { key = old.next; cells = cells } in
    let count = has.are.count in
    let long = length_push has.rows row in
    record {
      rows = has.rows ++ row ∷ [];
      are = are;
      few = omega (arith, few, count, long);
      cells = all_push (λ (row : Row). AllByRecursion IsSized row.cells) has.rows row has.cells sized;
    }

pub raised_has : (old : Grouped) (place : ℕ) (cells : List StatCell) → HasRows old → position (same_key old.next) old.keys ≡ Some place
    → AllZip IsCellOf old.spec.entries cells → old.count < 2 ^ 40 → HasRows (with_row_in_group old place cells)
raised_has old place cells has found each few =
    more_rows old (with_row_in_group old place cells) cells has few (sized_cells old.spec.entries cells each) (raised_are old place cells has.rows found has.are)

pub added_has : (old : Grouped) (cells : List StatCell) → HasRows old → position (same_key old.next) old.keys ≡ None
    → AllZip IsCellOf old.spec.entries cells → old.count < 2 ^ 40 → HasRows (with_row_in_new_group old cells)
added_has old cells has absent each few =
    more_rows old (with_row_in_new_group old cells) cells has few (sized_cells old.spec.entries cells each) (added_are old cells has.rows absent has.are)

-- ---- no rows

pub first_totals : (spec : StatsSpec) → spec.keys ≡ 0 → map (λ kind. total_of kind []) spec.entries ∷ [] ≡ totals_of spec []
first_totals spec none = rw none (ap (λ group. group ∷ []) (sym (totals_none spec.entries 0)))
