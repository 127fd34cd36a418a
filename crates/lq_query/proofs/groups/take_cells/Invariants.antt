use Rattle.std.proofs.Common.{◌≡◌, ◌++◌, drop, map}
use Rattle.lq_stats.specs.Columns.{cells_at, column_cells}
use Rattle.lq_query.proofs.groups.take_cells.Given as goal

abbrev pub invariant-loop-column : goal.invariant-loop-column
invariant-loop-column l =
    l.taken.items ++ cells_at l.place (drop l.column-index (map column_cells l.columns))
    ≡ cells_at l.place (map column_cells l.columns)
