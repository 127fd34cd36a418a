use Rattle.std.proofs.Common.{length, sym, ap, ◌∙◌}
use Rattle.std.proofs.lemmas.List.Elements.{All-from_recursion}
use Rattle.lq_stats.specs.Totals.{IsSized}
use Rattle.lq_stats.specs.contracts.groups.Groups.{the_view}
use Rattle.lq_stats.proofs.StatsLemmas.{added_has, as_long, sized_cells}
use Rattle.lq_stats.proofs.groups.Groups.add.Goals as goal

pub totals_of_row-requires-clause-long : goal.totals_of_row-requires-clause-long
totals_of_row-requires-clause-long c =
    as_long c.self.inside.spec.entries c.args.cells.now (rw (← c.self.view_is) at c.requires.cells)
    ∙ ap length (sym c.as_slice.ensures)

pub totals_of_row-requires-clause-sized : goal.totals_of_row-requires-clause-sized
totals_of_row-requires-clause-sized c = All-from_recursion IsSized c.args.cells.now (sized_cells _ c.args.cells.now c.requires.cells)

pub invariant_of-self-2 : goal.invariant_of-self-2
invariant_of-self-2 c =
    rw (c.in_ok-push_group.ensures.next, c.in_ok-push_group.ensures.keys, c.in_ok-push_group.ensures.totals, c.in_ok-first.ensures, c.as_slice.ensures)
    (added_has (the_view c.self.inside) c.args.cells.now c.self.invariant
    (rw (← c.self.view_is) at c.requires.place) (rw (← c.self.view_is) at c.requires.cells) (rw (← c.self.view_is) at c.requires.few))
