use Rattle.std.proofs.Common.{◌≡◌, ◌-◌, length, take, map}
use Rattle.lq_query.specs.Lines.{seen_cells}
use Rattle.lq_query.specs.Lines.{HasLines, first_rows, rows_with_marks}
use Rattle.lq_query.proofs.page.Page.push_marked.Given as goal

abbrev pub invariant-loop-place : goal.invariant-loop-place
invariant-loop-place l = record {
  same : l.selection.filter ≡ l.fn.selection.filter;
  lines : HasLines l.fn.writer l.writer (first_rows l.self.columns.now l.fn.selection.left
      (map (seen_cells l.self.sight) (rows_with_marks (take l.place l.marks) (take l.place l.rows))));
  left : l.selection.left ≡ l.fn.selection.left - length (rows_with_marks (take l.place l.marks) (take l.place l.rows));
}
