-- Groups while rows are counted.
use Rattle.std.specs.Prelude.{◌≡◌, ◌≤◌, ◌+◌, ◌^◌, ℕ, List, [], ◌∷◌, ◌++◌, map, length}
use Rattle.std.specs.Prelude.{slice_index_or, slice_set}
use Rattle.std.specs.List.{AllByRecursion}
use Rattle.lq_stats.specs.Groups.{Key, GroupLine, Row, keys_of, rows_with_key}
use Rattle.lq_stats.specs.Totals.{IsSized, total_of, total_value, totals_from, with_cells}
use Rattle.lq_stats.specs.declared.cell.StatCell.{StatCell}
use Rattle.lq_stats.specs.declared.spec.StatsSpec.{StatsSpec}
use Rattle.lq_stats.specs.declared.total.Total.{Total}

-- what is known of groups: their statistics, the key so far of the next row, the key of each
-- group, what is kept of its rows, and how many rows there are in all
pub record Grouped : Type 0 where
  pub spec : StatsSpec
  pub next : Key
  pub keys : List Key
  pub totals : List (List Total)
  pub count : ℕ

-- what is kept of each group of some rows
abbrev pub totals_of : StatsSpec → List Row → List (List Total)
totals_of spec rows =
    map (λ key. totals_from 0 spec.entries (rows_with_key key rows)) (keys_of spec.keys rows)

-- the lines of groups
abbrev pub kept_lines : List Key → List (List Total) → List GroupLine
kept_lines [] totals = []
kept_lines (key ∷ keys) [] = []
kept_lines (key ∷ keys) (group ∷ later) =
    record { key = key; values = map total_value group } ∷ kept_lines keys later

-- the groups are those of the rows
pub record AreGroupsOf (groups : Grouped) (rows : List Row) : Type 0 where
  pub keys : groups.keys ≡ keys_of groups.spec.keys rows
  pub totals : groups.totals ≡ totals_of groups.spec rows
  pub count : groups.count ≡ length rows

-- the groups with the next row in the group in a place
abbrev pub with_row_in_group : Grouped → ℕ → List StatCell → Grouped
with_row_in_group groups place cells =
    record groups {
      next = [];
      totals = slice_set groups.totals place
          (with_cells (slice_index_or groups.totals place []) cells);
      count = groups.count + 1;
    }

-- the groups with the next row in a group of its own
abbrev pub with_row_in_new_group : Grouped → List StatCell → Grouped
with_row_in_new_group groups cells =
    record groups {
      next = [];
      keys = groups.keys ++ groups.next ∷ [];
      totals = groups.totals
          ++ with_cells (map (λ kind. total_of kind []) groups.spec.entries) cells ∷ [];
      count = groups.count + 1;
    }

-- the groups are those of some rows whose numbers, and whose count, are within their limits
pub record HasRows (groups : Grouped) : Type 0 where
  pub rows : List Row
  pub are : AreGroupsOf groups rows
  pub few : length rows ≤ 2 ^ 40
  pub cells : AllByRecursion (λ (row : Row). AllByRecursion IsSized row.cells) rows
