-- The rows of a table, and those of them that a query chooses.
use Rattle.std.specs.Prelude.{List, filter, map}
use Rattle.lq_schema.specs.declared.columns.Col.{Col}
use Rattle.lq_schema.specs.declared.columns.Table.{Table}
use Rattle.lq_schema.specs.Value.{Value}
use Rattle.lq_filter.specs.Trees.{holds, truth_on}
use Rattle.lq_filter.specs.declared.header.Header.{Header}
use Rattle.lq_auth.specs.declared.view.View.{View}
use Rattle.lq_live.specs.State.{State}
use Rattle.lq_tables.specs.Rows.{rows_of}
use Rattle.lq_tables.specs.Cells.{cell_of}
use Rattle.lq_tables.specs.declared.window.Window.{Window}

-- the rows of a table that a query sees within a window, in order, each as the values that it has
-- in the columns
abbrev pub seen_rows : State → View → Window → Table → List (Col → Value)
seen_rows s view window table = map (cell_of s view) (rows_of s view window table)

-- the rows that the headers of a filter choose
abbrev pub chosen_rows : List Header → List (Col → Value) → List (Col → Value)
chosen_rows headers rows = filter (λ row. holds (truth_on row) headers) rows

-- the cells of a row
abbrev pub row_cells : List Col → (Col → Value) → List Value
row_cells columns row = map row columns
