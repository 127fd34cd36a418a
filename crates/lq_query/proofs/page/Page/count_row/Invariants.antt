use Rattle.std.proofs.Common.{◌≡◌, List, map, take}
use Rattle.lq_stats.specs.Grouped.{AreGroupsOf}
use Rattle.lq_stats.specs.Groups.{Row}
use Rattle.lq_tables.specs.Cells.{cell_of}
use Rattle.lq_query.proofs.page.Page.count_row.Given as goal

abbrev pub invariant-loop-column : goal.invariant-loop-column
invariant-loop-column l = record {
  spec : l.groups.spec ≡ l.fn.groups.spec;
  count : l.groups.count ≡ l.fn.groups.count;
  next : l.groups.next ≡ map (cell_of l.shown.state l.shown.view l.shown.row) (take l.column-index l.self.columns.now);
  groups : (before : List Row) → AreGroupsOf l.fn.groups before → AreGroupsOf l.groups before;
}
