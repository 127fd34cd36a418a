-- Whole columns of cells, and the rows that they make.
use Rattle.std.specs.Prelude.{◌≡◌, ◌+◌, ℕ, suc, Bool, true, false, List, [], ◌∷◌, filter_map, fold}
use Rattle.std.specs.Prelude.{if◌then◌else◌, length, map, slice_get}
use Rattle.std.specs.List.{AllByRecursion}
use Rattle.lq_stats.specs.Groups.{IsCellOf, Row}
use Rattle.lq_stats.specs.Totals.{with_stat_cell}
use Rattle.lq_stats.specs.declared.cell.StatCell.{StatCell}
use Rattle.lq_stats.specs.declared.cell.StatCell.TheVariants as cell
use Rattle.lq_stats.specs.declared.column.StatColumn.{StatColumn}
use Rattle.lq_stats.specs.declared.column.StatColumn.TheVariants as column
use Rattle.lq_stats.specs.declared.kind.StatKind.{StatKind}
use Rattle.lq_stats.specs.declared.total.Total.{Total}

-- what a statistic takes of each row
abbrev pub column_cells : StatColumn → List StatCell
column_cells (column.Marks marks) = map cell.Counted marks.items
column_cells (column.Numbers numbers) = map cell.Number numbers.items

-- a column of so many cells, each of which a statistic takes
abbrev pub IsColumnOf : ℕ → StatKind → List StatCell → Type 0
IsColumnOf count kind cells = (length cells ≡ count) × AllByRecursion (IsCellOf kind) cells

-- of each column of cells the one in a place
abbrev pub cells_at : ℕ → List (List StatCell) → List StatCell
cells_at place columns = filter_map (λ (column : List StatCell). slice_get column place) columns

-- The rows that are marked, as statistics without columns see them: the cells of each, of which
-- each statistic has a column. The first row stands in a place.
abbrev pub marked_rows : ℕ → List Bool → List (List StatCell) → List Row
marked_rows place [] columns = []
marked_rows place (mark ∷ marks) columns =
    if mark then record { key = []; cells = cells_at place columns }
    ∷ marked_rows (suc place) marks columns
    else marked_rows (suc place) marks columns

-- ---- what is kept

-- of the cells of rows those of the rows that are marked
abbrev pub marked_cells : List Bool → List StatCell → List StatCell
marked_cells [] cells = []
marked_cells (mark ∷ marks) [] = []
marked_cells (mark ∷ marks) (cell ∷ cells) =
    if mark then cell ∷ marked_cells marks cells else marked_cells marks cells

-- how many rows are marked by both
abbrev pub marked_by_both : List Bool → List Bool → ℕ
marked_by_both [] counted = 0
marked_by_both (mark ∷ marks) [] = 0
marked_by_both (true ∷ marks) (true ∷ counted) = marked_by_both marks counted + 1
marked_by_both (true ∷ marks) (false ∷ counted) = marked_by_both marks counted
marked_by_both (false ∷ marks) (mark ∷ counted) = marked_by_both marks counted

-- the cells of the marked rows more
abbrev pub with_column : List Bool → Total → List StatCell → Total
with_column marks old cells = fold with_stat_cell old (marked_cells marks cells)

-- the same of each statistic
abbrev pub with_stat_columns : List Bool → List Total → List (List StatCell) → List Total
with_stat_columns marks [] columns = []
with_stat_columns marks (old ∷ later) [] = old ∷ later
with_stat_columns marks (old ∷ later) (column ∷ columns) =
    with_column marks old column ∷ with_stat_columns marks later columns
