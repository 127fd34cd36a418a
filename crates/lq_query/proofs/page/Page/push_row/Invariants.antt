use Rattle.std.proofs.Common.{◌≡◌, ◌<◌, map, take, true}
use Rattle.lq_query.specs.Lines.{AddsCells, seen_cells}
use Rattle.lq_query.proofs.page.Page.push_row.Given as goal

abbrev pub invariant-loop-column : goal.invariant-loop-column
invariant-loop-column l = record {
  cells : AddsCells l.fn.writer l.writer (map (seen_cells l.self.sight l.row) (take l.column-index l.self.columns.now));
  begun : 0 < l.column-index → l.writer.has_cell ≡ true;
}
