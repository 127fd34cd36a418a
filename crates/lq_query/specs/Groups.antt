-- The statistics of rows.
use Rattle.std.specs.Prelude.{◌^◌, nat_le, pos, List, ◌++◌, length, map, unsigned_abs}
use Rattle.std.specs.Prelude.{if◌then◌else◌}
use Rattle.lq_schema.specs.declared.columns.Col.{Col}
use Rattle.lq_schema.specs.Value.{Value, Number}
use Rattle.lq_filter.specs.Trees.{holds, truth_on}
use Rattle.lq_request.specs.declared.entry.StatEntry.{StatEntry}
use Rattle.lq_request.specs.declared.entry.StatEntry.TheVariants as entry
use Rattle.lq_stats.specs.Groups.{GroupLine, Row, stat_lines}
use Rattle.lq_stats.specs.declared.cell.StatCell.{StatCell}
use Rattle.lq_stats.specs.declared.cell.StatCell.TheVariants as cell
use Rattle.lq_stats.specs.declared.kind.StatKind.{StatKind}
use Rattle.lq_stats.specs.declared.kind.StatKind.TheVariants as kind
use Rattle.lq_stats.specs.declared.spec.StatsSpec.{StatsSpec}
use Rattle.lq_query.specs.Rows.{row_cells}

-- The number of a cell. No cell of a column of numbers has one of more than 2 ^ 64 in size; such a
-- one would count as 0, as a cell without a number would.
abbrev pub number_cell : Value → StatCell
number_cell (Number number) =
    if nat_le (unsigned_abs number) (2 ^ 64) then cell.Number number else cell.Number (pos 0)
number_cell _ = cell.Number (pos 0)

-- what a statistic takes of a row: whether its filter chooses it, or the number of its column
abbrev pub stat_cell : (Col → Value) → StatEntry → StatCell
stat_cell row (entry.Count headers) = cell.Counted (holds (truth_on row) headers)
stat_cell row (entry.Over kind column) = number_cell (row column)

abbrev pub stat_kind : StatEntry → StatKind
stat_kind (entry.Count headers) = kind.Count
stat_kind (entry.Over kind column) = kind

-- a row as statistics see it
abbrev pub stats_row : List Col → List StatEntry → (Col → Value) → Row
stats_row columns stats row =
    record { key = row_cells columns row; cells = map (stat_cell row) stats }

abbrev pub stats_spec : List Col → List StatEntry → StatsSpec
stats_spec columns stats = record { keys = length columns; entries = map stat_kind stats }

-- the cells that the rows of a group have in common, then its values
abbrev pub line_cells : GroupLine → List Value
line_cells line = line.key ++ line.values

-- a line for each group
abbrev pub group_lines : List Col → List StatEntry → List (Col → Value) → List (List Value)
group_lines columns stats rows =
    map line_cells
    (stat_lines (stats_spec columns stats) (map (stats_row columns stats) rows))
