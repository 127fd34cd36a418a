use Rattle.std.proofs.Common.{map, take}
use Rattle.lq_stats.specs.Columns.{column_cells}
use Rattle.lq_query.specs.Lines.{seen_cells}
use Rattle.lq_query.specs.Counting.{Counts, counted_from}
use Rattle.lq_query.specs.Rows.{row_cells}
use Rattle.lq_query.proofs.page.Page.count_each.Given as goal

abbrev pub invariant-loop-place : goal.invariant-loop-place
invariant-loop-place l =
    Counts l.fn.groups l.groups (counted_from (λ row. row_cells l.self.columns.now (seen_cells l.self.sight row))
    0 (take l.place l.marks) (take l.place l.rows) (map column_cells l.cells))
