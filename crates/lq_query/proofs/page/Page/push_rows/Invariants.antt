use Rattle.std.proofs.Common.{◌≡◌, ◌-◌, ◌≤◌, length, take, map}
use Rattle.lq_query.specs.Lines.{seen_cells}
use Rattle.lq_query.specs.Lines.{HasLines, first_rows}
use Rattle.lq_query.specs.Rows.{chosen_rows}
use Rattle.lq_query.proofs.page.Page.push_rows.Given as goal

abbrev pub invariant-blocks-2 : goal.invariant-blocks-2
invariant-blocks-2 l = record {
  within : l.at ≤ length l.rows;
  same : l.selection.filter ≡ l.fn.selection.filter;
  lines : HasLines l.fn.writer l.writer (first_rows l.self.columns.now l.fn.selection.left
      (chosen_rows l.fn.selection.filter (map (seen_cells l.self.sight) (take l.at l.rows))));
  left : l.selection.left ≡ l.fn.selection.left
      - length (chosen_rows l.fn.selection.filter (map (seen_cells l.self.sight) (take l.at l.rows)));
}

abbrev pub decreases-blocks-2 : goal.decreases-blocks-2
decreases-blocks-2 l = length l.rows - l.at
