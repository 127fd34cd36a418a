-- What is kept of the cells of a statistic while rows are counted.
use Rattle.std.specs.Prelude.{ℕ, suc, ◌≤◌, ◌+◌, ◌*◌, ◌^◌, true, ℤ, pos, ◌+ℤ◌, List, [], ◌∷◌, Option}
use Rattle.std.specs.Prelude.{Some, None, ⊤, filter, length, unwrap_or, unsigned_abs}
use Rattle.std.specs.Int.{int_max, int_min}
use Rattle.lq_schema.specs.Value.{Value, Number, Millionths}
use Rattle.lq_stats.specs.Groups.{Row, average, column, greatest, is_marked, least, numbers, sum_of}
use Rattle.lq_stats.specs.declared.cell.StatCell.{StatCell}
use Rattle.lq_stats.specs.declared.cell.StatCell.TheVariants as cell
use Rattle.lq_stats.specs.declared.kind.StatKind.{StatKind}
use Rattle.lq_stats.specs.declared.kind.StatKind.TheVariants as kind
use Rattle.lq_stats.specs.declared.total.Total.{Total}
use Rattle.lq_stats.specs.declared.total.Total.TheVariants as total

-- what is kept of some cells
abbrev pub total_of : StatKind → List StatCell → Total
total_of kind.Count cells = total.Count (length (filter is_marked cells))
total_of kind.Sum cells = total.Sum (sum_of (numbers cells))
total_of kind.Min cells = total.Min (least (numbers cells))
total_of kind.Max cells = total.Max (greatest (numbers cells))
total_of kind.Avg cells =
    total.Avg (record { sum = sum_of (numbers cells); count = length (numbers cells) })

-- what is kept of some rows, for statistics the first of which stands in a place
abbrev pub totals_from : ℕ → List StatKind → List Row → List Total
totals_from place [] rows = []
totals_from place (kind ∷ kinds) rows =
    total_of kind (column place rows) ∷ totals_from (suc place) kinds rows

-- the value of a statistic by what is kept of its cells
abbrev pub total_value : Total → Value
total_value (total.Count count) = Number (pos count)
total_value (total.Sum sum) = Number sum
total_value (total.Min least) = Number (unwrap_or least (pos 0))
total_value (total.Max greatest) = Number (unwrap_or greatest (pos 0))
total_value (total.Avg mean) = Millionths (average mean.sum mean.count)

-- ---- one cell more

abbrev pub lesser : Option ℤ → ℤ → ℤ
lesser None number = number
lesser (Some least) number = int_min least number

abbrev pub greater : Option ℤ → ℤ → ℤ
greater None number = number
greater (Some greatest) number = int_max greatest number

abbrev pub with_stat_cell : Total → StatCell → Total
with_stat_cell (total.Count count) (cell.Counted true) = total.Count (count + 1)
with_stat_cell (total.Sum sum) (cell.Number number) = total.Sum (sum +ℤ number)
with_stat_cell (total.Min least) (cell.Number number) = total.Min (Some (lesser least number))
with_stat_cell (total.Max greatest) (cell.Number number) =
    total.Max (Some (greater greatest number))
with_stat_cell (total.Avg mean) (cell.Number number) =
    total.Avg (record { sum = mean.sum +ℤ number; count = mean.count + 1 })
with_stat_cell old _ = old

-- one cell more of each statistic
abbrev pub with_cells : List Total → List StatCell → List Total
with_cells [] cells = []
with_cells (old ∷ later) [] = old ∷ later
with_cells (old ∷ later) (cell ∷ cells) = with_stat_cell old cell ∷ with_cells later cells

-- ---- bounds

-- a number of at most 2 ^ 64 in size
abbrev pub IsSized : StatCell → Type 0
IsSized (cell.Counted marked) = ⊤
IsSized (cell.Number number) = unsigned_abs number ≤ 2 ^ 64

-- kept of at most 2 ^ 40 cells of that size
abbrev pub IsSmall : Total → Type 0
IsSmall (total.Count count) = count ≤ 2 ^ 40
IsSmall (total.Sum sum) = unsigned_abs sum ≤ 2 ^ 104
IsSmall (total.Min least) = ⊤
IsSmall (total.Max greatest) = ⊤
IsSmall (total.Avg mean) = (mean.count ≤ 2 ^ 40) × (unsigned_abs mean.sum ≤ 2 ^ 104)

-- kept of so few cells of that size that so many more can be added
abbrev pub HasRoomForRows : ℕ → Total → Type 0
HasRoomForRows more (total.Count count) = count + more ≤ 2 ^ 40
HasRoomForRows more (total.Sum sum) = unsigned_abs sum + more * 2 ^ 64 ≤ 2 ^ 104
HasRoomForRows more (total.Min least) = ⊤
HasRoomForRows more (total.Max greatest) = ⊤
HasRoomForRows more (total.Avg mean) =
    (mean.count + more ≤ 2 ^ 40) × (unsigned_abs mean.sum + more * 2 ^ 64 ≤ 2 ^ 104)
