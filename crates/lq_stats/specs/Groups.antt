-- Statistics over rows: how rows are put into groups, and the values of a group.
use Rattle.std.specs.Prelude.{ℕ, suc, ◌≤◌, ◌^◌, ◌==◌, ◌&&◌, Bool, false, not, ℤ, pos, ◌+ℤ◌, List}
use Rattle.std.specs.Prelude.{[], ◌∷◌, ◌++◌, Option, Some, None, if◌then◌else◌, bytes_eq, nat_eq}
use Rattle.std.specs.Prelude.{filter, filter_map, fold, length, map, slice_get, unsigned_abs}
use Rattle.std.specs.Prelude.{unwrap_or, ⊤}
use Rattle.std.specs.Cmp.Lexicographic.{pointwise}
use Rattle.std.specs.Int.{int_max, int_min}
use Rattle.std.specs.Ordering.{int_eq}
use Rattle.lq_records.specs.Micros.{quotient}
use Rattle.lq_schema.specs.Value.{Value, Number, Millionths, Words, Texts, Numbers, Pairs}
use Rattle.lq_schema.specs.Value.{meaning_of}
use Rattle.lq_stats.specs.declared.cell.StatCell.{StatCell}
use Rattle.lq_stats.specs.declared.cell.StatCell.TheVariants as cell
use Rattle.lq_stats.specs.declared.kind.StatKind.{StatKind}
use Rattle.lq_stats.specs.declared.kind.StatKind.TheVariants as kind
use Rattle.lq_stats.specs.declared.spec.StatsSpec.{StatsSpec}
use Rattle.lq_stats.specs.declared.spec.StatLine.{StatLine}

-- what the rows of a group have in common: the cells of their columns
abbrev pub Key : Type 0
Key = List Value

-- A row as statistics see it: the cells of its columns, and a cell for each statistic.
pub record Row : Type 0 where
  pub key : Key
  pub cells : List StatCell

-- a cell that a statistic takes: for a count whether the row is counted, else a number that is at
-- most 2 ^ 64 away from zero
abbrev pub IsCellOf : StatKind → StatCell → Type 0
IsCellOf kind.Count (cell.Counted marked) = ⊤
IsCellOf kind.Count (cell.Number number) = ⊥
IsCellOf _ (cell.Counted marked) = ⊥
IsCellOf _ (cell.Number number) = unsigned_abs number ≤ 2 ^ 64

-- ---- groups

abbrev pub same_pair : List ℕ × List ℕ → List ℕ × List ℕ → Bool
same_pair a b = bytes_eq a.0 b.0 && bytes_eq a.1 b.1

-- whether two values are one
abbrev pub same_value : Value → Value → Bool
same_value (Number a) (Number b) = int_eq a b
same_value (Millionths a) (Millionths b) = int_eq a b
same_value (Words a) (Words b) = bytes_eq a b
same_value (Texts a) (Texts b) = pointwise bytes_eq a b
same_value (Numbers a) (Numbers b) = pointwise nat_eq a b
same_value (Pairs a) (Pairs b) = pointwise same_pair a b
same_value _ _ = false

-- whether two keys are one: as many values, and the same ones in the same places
abbrev pub same_key : Key → Key → Bool
same_key = pointwise same_value

-- the different ones of some keys, each where it stood first
abbrev pub distinct_keys : List Key → List Key
distinct_keys [] = []
distinct_keys (key ∷ keys) = key ∷ filter (λ other. not (same_key key other)) (distinct_keys keys)

-- the keys of the groups, in order of first occurrence; without columns there is always the one
-- empty key
abbrev pub keys_of : ℕ → List Row → List Key
keys_of columns rows =
    distinct_keys ((if columns == 0 then [] ∷ [] else []) ++ map (λ (row : Row). row.key) rows)

-- the rows of a group
abbrev pub rows_with_key : Key → List Row → List Row
rows_with_key key rows = filter (λ (row : Row). same_key key row.key) rows

-- ---- the values of a group

-- the cells of the statistic in a place, one of each row
abbrev pub column : ℕ → List Row → List StatCell
column place rows = filter_map (λ (row : Row). slice_get row.cells place) rows

abbrev pub is_marked : StatCell → Bool
is_marked (cell.Counted marked) = marked
is_marked (cell.Number number) = false

abbrev pub number_of_cell : StatCell → Option ℤ
number_of_cell (cell.Counted marked) = None
number_of_cell (cell.Number number) = Some number

abbrev pub numbers : List StatCell → List ℤ
numbers cells = filter_map number_of_cell cells

abbrev pub sum_of : List ℤ → ℤ
sum_of [] = pos 0
sum_of (number ∷ later) = number +ℤ sum_of later

-- the least of some numbers, where there are any
abbrev pub least : List ℤ → Option ℤ
least [] = None
least (number ∷ later) = Some (fold int_min number later)

-- the greatest of some numbers, where there are any
abbrev pub greatest : List ℤ → Option ℤ
greatest [] = None
greatest (number ∷ later) = Some (fold int_max number later)

-- a sum divided by how many numbers it has, in millionths; 0 of none
abbrev pub average : ℤ → ℕ → ℤ
average sum count = if count == 0 then pos 0 else quotient sum count

-- what a statistic says of its cells: how many are marked, or the sum, the least, the greatest or
-- the average of its numbers, 0 where there are none
abbrev pub stat_value : StatKind → List StatCell → Value
stat_value kind.Count cells = Number (pos (length (filter is_marked cells)))
stat_value kind.Sum cells = Number (sum_of (numbers cells))
stat_value kind.Min cells = Number (unwrap_or (least (numbers cells)) (pos 0))
stat_value kind.Max cells = Number (unwrap_or (greatest (numbers cells)) (pos 0))
stat_value kind.Avg cells = Millionths (average (sum_of (numbers cells)) (length (numbers cells)))

-- the values of statistics over some rows, the first of which stands in a place
abbrev pub values_from : ℕ → List StatKind → List Row → List Value
values_from place [] rows = []
values_from place (kind ∷ kinds) rows =
    stat_value kind (column place rows) ∷ values_from (suc place) kinds rows

-- ---- lines

-- what a reply says of a group
pub record GroupLine : Type 0 where
  pub key : Key
  pub values : List Value

-- what a line says
abbrev pub shown_line : StatLine → GroupLine
shown_line line = record { key = map meaning_of line.keys; values = map meaning_of line.values }

-- the lines of the statistics over some rows, one for each group
abbrev pub stat_lines : StatsSpec → List Row → List GroupLine
stat_lines spec rows =
    map (λ key. record { key = key; values = values_from 0 spec.entries (rows_with_key key rows) })
    (keys_of spec.keys rows)
