-- The groups of marked rows without a key, of which each statistic has a column of cells.
use Rattle.std.proofs.Common.{◌≡◌, ◌<◌, ◌≤◌, ◌+◌, ◌^◌, ℕ, zero, suc, Bool, true, false, Some, List, [], ◌∷◌, ◌++◌, append_assoc, cond, count_by, length, map, drop, refl, subst, sym, ap, ◌∙◌, slice_get, slice_index_or, slice_set, All, arith, length-append}
use Rattle.std.specs.Prelude.{position}
use Rattle.std.specs.List.{AllByRecursion, AllZip}
use Rattle.std.proofs.lemmas.List.{append-nil, length-map}
use Rattle.std.proofs.lemmas.List.Elements.{All-from_recursion}
use Rattle.std.proofs.lemmas.List.Sums.{sum_by-cons}
use Rattle.lq_stats.specs.Columns.{IsColumnOf, cells_at, column_cells, marked_rows, with_column, with_stat_columns}
use Rattle.lq_stats.specs.Grouped.{AreGroupsOf, Grouped, HasRows, totals_of}
use Rattle.lq_stats.specs.Groups.{IsCellOf, Key, Row, keys_of, same_key}
use Rattle.lq_stats.specs.Totals.{IsSized, with_stat_cell, with_cells}
use Rattle.lq_stats.specs.declared.cell.StatCell.{StatCell}
use Rattle.lq_stats.specs.declared.column.StatColumn.{StatColumn}
use Rattle.lq_stats.specs.declared.kind.StatKind.{StatKind}
use Rattle.lq_stats.specs.declared.spec.StatsSpec.{StatsSpec}
use Rattle.lq_stats.specs.declared.total.Total.{Total}
use Rattle.lq_stats.proofs.BoundLemmas.{sized_at}
use Rattle.lq_stats.proofs.GroupLemmas.{first_place}
use Rattle.lq_stats.proofs.StatsLemmas.{raised_are, sized_cell}

-- columns that all have this many cells
abbrev AreLong : ℕ → List (List StatCell) → Type 0
AreLong count columns = AllByRecursion (λ (column : List StatCell). length column ≡ count) columns

-- the columns from a place on
abbrev rest : ℕ → List (List StatCell) → List (List StatCell)
rest place columns = map (λ (column : List StatCell). drop place column) columns

-- ---- one row

record HasCell (place : ℕ) (column : List StatCell) : Type 0 where
  cell : StatCell
  found : slice_get column place ≡ Some cell
  first : drop place column ≡ cell ∷ drop (suc place) column

has_cell : (place : ℕ) (column : List StatCell) → place < length column → HasCell place column
has_cell place [] within = absurd (omega (arith, within))
has_cell zero (cell ∷ column) within = record { cell = cell; found = refl; first = refl }
has_cell (suc place) (cell ∷ column) within =
    let later = has_cell place column (omega (arith, within)) in
    record { cell = later.cell; found = later.found; first = later.first }

module _ (marks : List Bool) (place count : ℕ) (within : place < count) where
  row_marked : (totals : List Total) (columns : List (List StatCell)) → AreLong count columns
      → with_stat_columns marks (with_cells totals (cells_at place columns)) (rest (suc place) columns) ≡ with_stat_columns (true ∷ marks) totals (rest place columns)
  row_marked [] columns long = refl
  row_marked (total ∷ totals) [] long = refl
  row_marked (total ∷ totals) (column ∷ columns) long =
      let has = has_cell place column (omega (arith, within, long.0)) in
      rw (has.found, has.first)
      (ap (λ later. with_column marks (with_stat_cell total has.cell) (drop (suc place) column) ∷ later) (row_marked totals columns long.1))

  row_unmarked : (totals : List Total) (columns : List (List StatCell)) → AreLong count columns
      → with_stat_columns marks totals (rest (suc place) columns) ≡ with_stat_columns (false ∷ marks) totals (rest place columns)
  row_unmarked [] columns long = refl
  row_unmarked (total ∷ totals) [] long = refl
  row_unmarked (total ∷ totals) (column ∷ columns) long =
      let has = has_cell place column (omega (arith, within, long.0)) in
      rw has.first
      (ap (λ later. with_column marks total (drop (suc place) column) ∷ later) (row_unmarked totals columns long.1))

no_marks : (totals : List Total) (columns : List (List StatCell)) → totals ≡ with_stat_columns [] totals columns
no_marks [] columns = refl
no_marks (total ∷ totals) [] = refl
no_marks (total ∷ totals) (column ∷ columns) = ap (λ later. total ∷ later) (no_marks totals columns)

-- ---- all rows

-- the groups with the marked rows in the first one
abbrev pub with_marked : Grouped → List Bool → List (List StatCell) → Grouped
with_marked groups marks columns =
    record groups {
      totals = slice_set groups.totals 0 (with_stat_columns marks (slice_index_or groups.totals 0 []) columns);
      count = groups.count + count_by (λ mark. mark) marks;
    }

-- groups of which the first is kept so
abbrev first_is : StatsSpec → List Key → List (List Total) → List Total → ℕ → Grouped
first_is spec keys others totals count = record { spec = spec; next = []; keys = keys; totals = totals ∷ others; count = count }

one_more : (marks : List Bool) → count_by (λ mark. mark) (true ∷ marks) ≡ 1 + count_by (λ mark. mark) marks
one_more marks = sum_by-cons (λ mark. cond mark 1 0) true marks

module _ (spec : StatsSpec) (keys : List Key) (others : List (List Total)) (columns : List (List StatCell)) (all : ℕ) (long : AreLong all columns) (here : position (same_key []) keys ≡ Some 0) where
  marked_are : (place : ℕ) (marks : List Bool) (totals : List Total) (count : ℕ) (rows : List Row) → place + length marks ≤ all → AreGroupsOf (first_is spec keys others totals count) rows
      → AreGroupsOf (first_is spec keys others (with_stat_columns marks totals (rest place columns)) (count + count_by (λ mark. mark) marks)) (rows ++ marked_rows place marks columns)
  marked_are place [] totals count rows within are =
      let none : count ≡ count + 0 = omega arith in
      subst (AreGroupsOf (first_is spec keys others (with_stat_columns [] totals (rest place columns)) (count + 0))) (sym (append-nil rows))
      (subst (λ (each : List Total). AreGroupsOf (first_is spec keys others each (count + 0)) rows) (no_marks totals (rest place columns))
      (subst (λ n. AreGroupsOf (first_is spec keys others totals n) rows) none are))
  marked_are place (true ∷ marks) totals count rows within are =
      let row : Row = record { key = []; cells = cells_at place columns } in
      let one : AreGroupsOf (first_is spec keys others (with_cells totals (cells_at place columns)) (count + 1)) (rows ++ row ∷ [])
      = raised_are (first_is spec keys others totals count) 0 (cells_at place columns) rows here are in
      let more : count + 1 + count_by (λ mark. mark) marks ≡ count + count_by (λ mark. mark) (true ∷ marks) = omega (arith, one_more marks) in
      subst (AreGroupsOf (first_is spec keys others (with_stat_columns (true ∷ marks) totals (rest place columns)) (count + count_by (λ mark. mark) (true ∷ marks))))
      (append_assoc rows (row ∷ []) (marked_rows (suc place) marks columns))
      (subst (λ (each : List Total). AreGroupsOf (first_is spec keys others each (count + count_by (λ mark. mark) (true ∷ marks))) ((rows ++ row ∷ []) ++ marked_rows (suc place) marks columns))
      (row_marked marks place all (omega (arith, within)) totals columns long)
      (subst (λ n. AreGroupsOf (first_is spec keys others (with_stat_columns marks (with_cells totals (cells_at place columns)) (rest (suc place) columns)) n) ((rows ++ row ∷ []) ++ marked_rows (suc place) marks columns)) more
      (marked_are (suc place) marks (with_cells totals (cells_at place columns)) (count + 1) (rows ++ row ∷ []) (omega (arith, within)) one)))
  marked_are place (false ∷ marks) totals count rows within are =
      subst (λ (each : List Total). AreGroupsOf (first_is spec keys others each (count + count_by (λ mark. mark) (false ∷ marks))) (rows ++ marked_rows (suc place) marks columns))
      (row_unmarked marks place all (omega (arith, within)) totals columns long)
      (marked_are (suc place) marks totals count rows (omega (arith, within)) are)

whole : (columns : List (List StatCell)) → rest 0 columns ≡ columns
whole [] = refl
whole (column ∷ columns) = ap (λ later. column ∷ later) (whole columns)

-- ---- columns

as_long : (count : ℕ) (kinds : List StatKind) (columns : List (List StatCell)) → AllZip (IsColumnOf count) kinds columns → length columns ≡ length kinds
as_long count [] [] are = refl
as_long count [] (column ∷ columns) are = absurd are
as_long count (kind ∷ kinds) [] are = absurd are
as_long count (kind ∷ kinds) (column ∷ columns) are = ap suc (as_long count kinds columns are.1)

are_long : (count : ℕ) (kinds : List StatKind) (columns : List (List StatCell)) → AllZip (IsColumnOf count) kinds columns → AreLong count columns
are_long count [] [] are = tt
are_long count [] (column ∷ columns) are = absurd are
are_long count (kind ∷ kinds) [] are = absurd are
are_long count (kind ∷ kinds) (column ∷ columns) are = (are.0.0, are_long count kinds columns are.1)

sized_cells : (kind : StatKind) (cells : List StatCell) → AllByRecursion (IsCellOf kind) cells → AllByRecursion IsSized cells
sized_cells kind [] are = tt
sized_cells kind (cell ∷ cells) are = (sized_cell kind cell are.0, sized_cells kind cells are.1)

are_sized : (count : ℕ) (kinds : List StatKind) (columns : List (List StatCell)) → AllZip (IsColumnOf count) kinds columns → AllByRecursion (AllByRecursion IsSized) columns
are_sized count [] [] are = tt
are_sized count [] (column ∷ columns) are = absurd are
are_sized count (kind ∷ kinds) [] are = absurd are
are_sized count (kind ∷ kinds) (column ∷ columns) are = (sized_cells kind column are.0.1, are_sized count kinds columns are.1)

of_each : (P : List StatCell → Type 0) (columns : List StatColumn) → AllByRecursion P (map column_cells columns) → AllByRecursion (λ (column : StatColumn). P (column_cells column)) columns
of_each P [] all = tt
of_each P (column ∷ columns) all = (all.0, of_each P columns all.1)

module _ (count : ℕ) (kinds : List StatKind) (columns : List StatColumn) (are : AllZip (IsColumnOf count) kinds (map column_cells columns)) where
  pub columns_as_many : length columns ≡ length kinds
  columns_as_many = sym (length-map columns column_cells) ∙ as_long count kinds (map column_cells columns) are

  pub columns_long : All (λ (column : StatColumn). length (column_cells column) ≡ count) columns
  columns_long = All-from_recursion _ columns (of_each (λ column. length column ≡ count) columns (are_long count kinds (map column_cells columns) are))

  pub columns_sized : All (λ (column : StatColumn). AllByRecursion IsSized (column_cells column)) columns
  columns_sized = All-from_recursion _ columns (of_each (AllByRecursion IsSized) columns (are_sized count kinds (map column_cells columns) are))

-- ---- the groups

first_key : (spec : StatsSpec) (keys : List Key) (rows : List Row) → spec.keys ≡ 0 → keys ≡ keys_of spec.keys rows → slice_get keys 0 ≡ Some []
first_key spec keys rows none are = ap (λ all. slice_get all 0) are ∙ ap (λ columns. slice_get (keys_of columns rows) 0) none

some_totals : (spec : StatsSpec) (rows : List Row) → spec.keys ≡ 0 → 0 < length (totals_of spec rows)
some_totals spec rows none = rw none (omega arith)

pub has_totals : (groups : Grouped) → HasRows groups → groups.spec.keys ≡ 0 → 0 < length groups.totals
has_totals groups has none = subst (λ (totals : List (List Total)). 0 < length totals) (sym has.are.totals) (some_totals groups.spec has.rows none)

marked_totals : (groups : Grouped) (totals : List (List Total)) (marks : List Bool) (columns : List (List StatCell)) (rows : List Row) → groups.spec.keys ≡ 0 → AreLong (length marks) columns
    → AreGroupsOf (record groups { totals = totals }) rows → AreGroupsOf (with_marked (record groups { totals = totals }) marks columns) (rows ++ marked_rows 0 marks columns)
marked_totals groups [] marks columns rows none long are =
    let some = some_totals groups.spec rows none in
    absurd (omega (arith, some, ap length are.totals))
marked_totals groups (totals ∷ others) marks columns rows none long are =
    let here : position (same_key []) groups.keys ≡ Some 0 = sym (first_place groups.keys [] refl (first_key groups.spec groups.keys rows none are.keys)) in
    let before : AreGroupsOf (first_is groups.spec groups.keys others totals groups.count) rows = record { keys = are.keys; totals = are.totals; count = are.count } in
    let after = marked_are groups.spec groups.keys others columns (length marks) long here 0 marks totals groups.count rows (omega arith) before in
    record {
      keys = after.keys;
      totals = ap (λ (those : List (List StatCell)). with_stat_columns marks totals those ∷ others) (sym (whole columns)) ∙ after.totals;
      count = after.count;
    }

pub marked_groups : (groups : Grouped) (marks : List Bool) (columns : List (List StatCell)) (rows : List Row) → groups.spec.keys ≡ 0 → AllZip (IsColumnOf (length marks)) groups.spec.entries columns
    → AreGroupsOf groups rows → AreGroupsOf (with_marked groups marks columns) (rows ++ marked_rows 0 marks columns)
marked_groups groups marks columns rows none are groups_are =
    marked_totals groups groups.totals marks columns rows none (are_long (length marks) groups.spec.entries columns are) groups_are

-- ---- limits

sized_at_place : (place : ℕ) (columns : List (List StatCell)) → AllByRecursion (AllByRecursion IsSized) columns → AllByRecursion IsSized (cells_at place columns)
sized_at_place place [] sized = tt
sized_at_place place (column ∷ columns) sized = sized_at column place (cells_at place columns) sized.0 (sized_at_place place columns sized.1)

sized_rows : (place : ℕ) (marks : List Bool) (columns : List (List StatCell)) → AllByRecursion (AllByRecursion IsSized) columns → AllByRecursion (λ (row : Row). AllByRecursion IsSized row.cells) (marked_rows place marks columns)
sized_rows place [] columns sized = tt
sized_rows place (true ∷ marks) columns sized = (sized_at_place place columns sized, sized_rows (suc place) marks columns sized)
sized_rows place (false ∷ marks) columns sized = sized_rows (suc place) marks columns sized

few_rows : (place : ℕ) (marks : List Bool) (columns : List (List StatCell)) → length (marked_rows place marks columns) ≤ length marks
few_rows place [] columns = omega arith
few_rows place (true ∷ marks) columns = omega (arith, few_rows (suc place) marks columns)
few_rows place (false ∷ marks) columns = omega (arith, few_rows (suc place) marks columns)

all_of_both : {X : Type 0} (P : X → Type 0) (xs ys : List X) → AllByRecursion P xs → AllByRecursion P ys → AllByRecursion P (xs ++ ys)
all_of_both P [] ys all later = later
all_of_both P (x ∷ xs) ys all later = (all.0, all_of_both P xs ys all.1 later)

pub marked_has : (groups : Grouped) (marks : List Bool) (columns : List (List StatCell)) → HasRows groups → groups.spec.keys ≡ 0 → AllZip (IsColumnOf (length marks)) groups.spec.entries columns
    → groups.count + length marks ≤ 2 ^ 40 → HasRows (with_marked groups marks columns)
marked_has groups marks columns has none are few =
    let count = has.are.count in
    let more = few_rows 0 marks columns in
    record {
      rows = has.rows ++ marked_rows 0 marks columns;
      are = marked_groups groups marks columns has.rows none are has.are;
      few = omega (arith, few, count, more, length-append has.rows (marked_rows 0 marks columns));
      cells = all_of_both (λ (row : Row). AllByRecursion IsSized row.cells) has.rows (marked_rows 0 marks columns) has.cells
          (sized_rows 0 marks columns (are_sized (length marks) groups.spec.entries columns are));
    }
