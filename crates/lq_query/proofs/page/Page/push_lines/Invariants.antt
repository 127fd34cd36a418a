use Rattle.std.proofs.Common.{map, take}
use Rattle.lq_query.specs.Lines.{seen_cells}
use Rattle.lq_query.specs.Lines.{HasLines}
use Rattle.lq_query.specs.Rows.{row_cells}
use Rattle.lq_query.proofs.page.Page.push_lines.Given as goal

abbrev pub invariant-loop-row : goal.invariant-loop-row
invariant-loop-row l =
    HasLines l.fn.writer l.writer
    (map (λ row. row_cells l.self.columns.now (seen_cells l.self.sight row)) (take l.row-index l.rows))
