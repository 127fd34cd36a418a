use Rattle.std.proofs.Common.{◌≡◌, ◌++◌, drop, map, take}
use Rattle.lq_stats.specs.Columns.{column_cells, with_stat_columns}
use Rattle.lq_stats.proofs.totals.add_columns.Given as goal

-- the columns so far and those to come give all totals, and the totals to come are as they were
abbrev pub invariant-loop-i : goal.invariant-loop-i
invariant-loop-i l =
    (take l.i l.totals ++ with_stat_columns l.marks (drop l.i l.totals) (map column_cells (drop l.i l.columns))
    ≡ with_stat_columns l.marks l.fn.totals (map column_cells l.columns))
    × (drop l.i l.totals ≡ drop l.i l.fn.totals)
