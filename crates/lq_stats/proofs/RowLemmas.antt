-- The rows of a group, and what is kept of them, with one row more.
use Rattle.std.proofs.Common.{◌≡◌, ℕ, zero, suc, Bool, true, false, Option, Some, None, List, [], ◌∷◌, ◌++◌, length, map, cond, drop, filter, refl, sym, ap, ◌∙◌, ℤ, ◌+ℤ◌, slice_get, option_to_list, arith}
use Rattle.std.proofs.Math.IntN.{+ℤ_assoc}
use Rattle.std.specs.Int.{int_max, int_min}
use Rattle.std.specs.List.{cons_option}
use Rattle.std.proofs.lemmas.Int.{ints}
use Rattle.std.proofs.lemmas.List.{append-nil, length_push}
use Rattle.std.proofs.lemmas.List.Elements.{filter-append, filter_map-append}
use Rattle.std.proofs.lemmas.List.Sums.{fold_push}
use Rattle.lq_stats.specs.Groups.{Key, Row, column, greatest, is_marked, least, number_of_cell, numbers, rows_with_key, same_key, sum_of}
use Rattle.lq_stats.specs.Totals.{greater, lesser, total_of, totals_from, with_stat_cell, with_cells}
use Rattle.lq_stats.specs.declared.cell.StatCell.{StatCell}
use Rattle.lq_stats.specs.declared.cell.StatCell.TheVariants as cell
use Rattle.lq_stats.specs.declared.kind.StatKind.{StatKind}
use Rattle.lq_stats.specs.declared.kind.StatKind.TheVariants as kind
use Rattle.lq_stats.specs.declared.total.Total.{Total}
use Rattle.lq_stats.specs.declared.total.Total.TheVariants as total

-- ---- one cell more

sum_of-push : (numbers : List ℤ) (number : ℤ) → sum_of (numbers ++ number ∷ []) ≡ sum_of numbers +ℤ number
sum_of-push [] number = omega (arith, ints)
sum_of-push (first ∷ later) number = ap (λ sum. first +ℤ sum) (sum_of-push later number) ∙ sym (+ℤ_assoc first (sum_of later) number)

least-push : (numbers : List ℤ) (number : ℤ) → least (numbers ++ number ∷ []) ≡ Some (lesser (least numbers) number)
least-push [] number = refl
least-push (first ∷ later) number = ap Some (fold_push int_min first later number)

greatest-push : (numbers : List ℤ) (number : ℤ) → greatest (numbers ++ number ∷ []) ≡ Some (greater (greatest numbers) number)
greatest-push [] number = refl
greatest-push (first ∷ later) number = ap Some (fold_push int_max first later number)

one_number : (cells : List StatCell) (number : ℤ) → numbers (cells ++ cell.Number number ∷ []) ≡ numbers cells ++ number ∷ []
one_number cells number = filter_map-append number_of_cell cells (cell.Number number ∷ [])

no_number : (cells : List StatCell) (marked : Bool) → numbers (cells ++ cell.Counted marked ∷ []) ≡ numbers cells
no_number cells marked = filter_map-append number_of_cell cells (cell.Counted marked ∷ []) ∙ append-nil (numbers cells)

no_mark : (cells : List StatCell) (last : StatCell) → is_marked last ≡ false → filter is_marked (cells ++ last ∷ []) ≡ filter is_marked cells
no_mark cells last unmarked = filter-append is_marked cells (last ∷ []) ∙ rw unmarked (append-nil (filter is_marked cells))

total_of-push : (kind : StatKind) (cells : List StatCell) (last : StatCell) → total_of kind (cells ++ last ∷ []) ≡ with_stat_cell (total_of kind cells) last
total_of-push kind.Count cells (cell.Counted true) =
    ap (λ marked. total.Count (length marked)) (filter-append is_marked cells (cell.Counted true ∷ []))
    ∙ ap total.Count (length_push (filter is_marked cells) (cell.Counted true))
total_of-push kind.Count cells (cell.Counted false) = ap (λ marked. total.Count (length marked)) (no_mark cells (cell.Counted false) refl)
total_of-push kind.Count cells (cell.Number number) = ap (λ marked. total.Count (length marked)) (no_mark cells (cell.Number number) refl)
total_of-push kind.Sum cells (cell.Counted marked) = ap (λ all. total.Sum (sum_of all)) (no_number cells marked)
total_of-push kind.Sum cells (cell.Number number) =
    ap (λ all. total.Sum (sum_of all)) (one_number cells number) ∙ ap total.Sum (sum_of-push (numbers cells) number)
total_of-push kind.Min cells (cell.Counted marked) = ap (λ all. total.Min (least all)) (no_number cells marked)
total_of-push kind.Min cells (cell.Number number) =
    ap (λ all. total.Min (least all)) (one_number cells number) ∙ ap total.Min (least-push (numbers cells) number)
total_of-push kind.Max cells (cell.Counted marked) = ap (λ all. total.Max (greatest all)) (no_number cells marked)
total_of-push kind.Max cells (cell.Number number) =
    ap (λ all. total.Max (greatest all)) (one_number cells number) ∙ ap total.Max (greatest-push (numbers cells) number)
total_of-push kind.Avg cells (cell.Counted marked) =
    ap (λ all. total.Avg (record { sum = sum_of all; count = length all })) (no_number cells marked)
total_of-push kind.Avg cells (cell.Number number) =
    ap (λ all. total.Avg (record { sum = sum_of all; count = length all })) (one_number cells number)
    ∙ ap (λ sum. total.Avg (record { sum = sum; count = length (numbers cells ++ number ∷ []) })) (sum_of-push (numbers cells) number)
    ∙ ap (λ count. total.Avg (record { sum = sum_of (numbers cells) +ℤ number; count = count })) (length_push (numbers cells) number)

-- ---- one row more

-- the cells from a place on
cells_from : (place : ℕ) (cells : List StatCell) → drop place cells ≡ option_to_list (slice_get cells place) ++ drop (suc place) cells
cells_from zero [] = refl
cells_from zero (first ∷ cells) = refl
cells_from (suc place) [] = refl
cells_from (suc place) (first ∷ cells) = cells_from place cells

none_from : (place : ℕ) (cells : List StatCell) → slice_get cells place ≡ None → drop (suc place) cells ≡ []
none_from zero [] none = refl
none_from zero (first ∷ cells) none = absurd (cc)
none_from (suc place) [] none = refl
none_from (suc place) (first ∷ cells) none = none_from place cells none

no_cells : (totals : List Total) → with_cells totals [] ≡ totals
no_cells [] = refl
no_cells (first ∷ totals) = refl

listed : (found : Option StatCell) → cons_option found [] ≡ option_to_list found
listed None = refl
listed (Some last) = refl

row_column : (place : ℕ) (rows : List Row) (row : Row) → column place (rows ++ row ∷ []) ≡ column place rows ++ option_to_list (slice_get row.cells place)
row_column place rows row =
    filter_map-append (λ (each : Row). slice_get each.cells place) rows (row ∷ [])
    ∙ ap (λ last. column place rows ++ last) (listed (slice_get row.cells place))

pub totals_from-push : (kinds : List StatKind) (place : ℕ) (rows : List Row) (row : Row)
    → totals_from place kinds (rows ++ row ∷ []) ≡ with_cells (totals_from place kinds rows) (drop place row.cells)
totals_from-push [] place rows row = refl
totals_from-push (kind ∷ kinds) place rows row =
    ap (λ cells. total_of kind cells ∷ totals_from (suc place) kinds (rows ++ row ∷ [])) (row_column place rows row)
    ∙ ap (λ later. total_of kind (column place rows ++ option_to_list (slice_get row.cells place)) ∷ later) (totals_from-push kinds (suc place) rows row)
    ∙ by_cell (slice_get row.cells place) refl
  where
    by_cell : (found : Option StatCell) → slice_get row.cells place ≡ found
        → total_of kind (column place rows ++ option_to_list (slice_get row.cells place)) ∷ with_cells (totals_from (suc place) kinds rows) (drop (suc place) row.cells)
        ≡ with_cells (total_of kind (column place rows) ∷ totals_from (suc place) kinds rows) (drop place row.cells)
    by_cell None is =
        rw (cells_from place row.cells, is, none_from place row.cells is, append-nil (column place rows))
        (ap (λ later. total_of kind (column place rows) ∷ later) (no_cells (totals_from (suc place) kinds rows)))
    by_cell (Some last) is =
        rw (cells_from place row.cells, is)
        (ap (λ first. first ∷ with_cells (totals_from (suc place) kinds rows) (drop (suc place) row.cells)) (total_of-push kind (column place rows) last))

pub totals_none : (kinds : List StatKind) (place : ℕ) → totals_from place kinds [] ≡ map (λ kind. total_of kind []) kinds
totals_none [] place = refl
totals_none (kind ∷ kinds) place = ap (λ later. total_of kind [] ∷ later) (totals_none kinds (suc place))

pub rows_of-push : (key : Key) (rows : List Row) (row : Row)
    → rows_with_key key (rows ++ row ∷ []) ≡ rows_with_key key rows ++ cond (same_key key row.key) (row ∷ []) []
rows_of-push key rows row = filter-append (λ (each : Row). same_key key each.key) rows (row ∷ [])
