use Rattle.std.proofs.Common.{◌≡◌, map, take}
use Rattle.lq_stats.specs.Columns.{column_cells}
use Rattle.lq_query.specs.Lines.{seen_cells}
use Rattle.lq_query.specs.Counting.{entry_of_ready}
use Rattle.lq_query.specs.Groups.{stat_cell}
use Rattle.lq_query.proofs.page.Page.cells.Given as goal

abbrev pub invariant-loop-place : goal.invariant-loop-place
invariant-loop-place l = record {
  same : map entry_of_ready l.entries ≡ map entry_of_ready l.fn.entries;
  cells : map column_cells l.cells.items
      ≡ map (λ entry. map (λ row. stat_cell (seen_cells l.self.sight row) entry) l.rows) (take l.place (map entry_of_ready l.fn.entries));
}
