use Rattle.std.proofs.lemmas.List.Elements.{All-from_recursion}
use Rattle.lq_stats.specs.Totals.{IsSized}
use Rattle.lq_stats.specs.contracts.groups.Groups.{the_view}
use Rattle.lq_stats.proofs.BoundLemmas.{long_totals, small_totals}
use Rattle.lq_stats.proofs.StatsLemmas.{raised_has, sized_cells}
use Rattle.lq_stats.proofs.groups.Groups.raise.Goals as goal

pub add_row-requires-clause-long : goal.add_row-requires-clause-long
add_row-requires-clause-long c = long_totals _ c.args.cells.now c.self.invariant (rw (← c.self.view_is) at c.requires.cells)

pub add_row-requires-clause-small : goal.add_row-requires-clause-small
add_row-requires-clause-small c = small_totals _ c.self.invariant

pub add_row-requires-clause-sized : goal.add_row-requires-clause-sized
add_row-requires-clause-sized c = All-from_recursion IsSized c.args.cells.now (sized_cells _ c.args.cells.now c.requires.cells)

pub invariant_of-self : goal.invariant_of-self
invariant_of-self c =
    rw (c.clear.ensures.items, c.add_row.ensures)
    (raised_has (the_view c.self.inside) c.args.place c.args.cells.now c.self.invariant
    (rw (← c.self.view_is) at c.requires.place) (rw (← c.self.view_is) at c.requires.cells) (rw (← c.self.view_is) at c.requires.few))
