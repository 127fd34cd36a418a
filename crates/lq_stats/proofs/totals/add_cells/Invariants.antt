use Rattle.std.proofs.Common.{◌≡◌, ◌++◌, drop, take}
use Rattle.lq_stats.specs.Totals.{with_cells}
use Rattle.lq_stats.proofs.totals.add_cells.Given as goal

-- the cells so far and those to come give all totals, and the totals to come are as they were
abbrev pub invariant-loop-i : goal.invariant-loop-i
invariant-loop-i l =
    (take l.i l.totals ++ with_cells (drop l.i l.totals) (drop l.i l.cells) ≡ with_cells l.fn.totals l.cells)
    × (drop l.i l.totals ≡ drop l.i l.fn.totals)
