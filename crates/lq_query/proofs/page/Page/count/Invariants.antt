use Rattle.std.proofs.Common.{◌≡◌, ◌-◌, ◌≤◌, length, map, take}
use Rattle.lq_query.specs.Lines.{seen_cells}
use Rattle.lq_query.specs.Counting.{Counts, entry_of_ready}
use Rattle.lq_query.specs.Groups.{stats_row}
use Rattle.lq_query.specs.Rows.{chosen_rows}
use Rattle.lq_query.proofs.page.Page.count.Given as goal

abbrev pub invariant-blocks-2 : goal.invariant-blocks-2
invariant-blocks-2 l = record {
  within : l.at ≤ length l.rows;
  filter : l.tally.filter ≡ l.fn.tally.filter;
  entries : map entry_of_ready l.tally.entries.items ≡ map entry_of_ready l.fn.tally.entries.items;
  counts : Counts l.fn.groups l.groups (map (stats_row l.self.columns.now (map entry_of_ready l.fn.tally.entries.items))
      (chosen_rows l.fn.tally.filter (map (seen_cells l.self.sight) (take l.at l.rows))));
}

abbrev pub decreases-blocks-2 : goal.decreases-blocks-2
decreases-blocks-2 l = length l.rows - l.at
