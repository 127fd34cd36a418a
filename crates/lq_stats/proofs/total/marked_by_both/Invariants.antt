use Rattle.std.proofs.Common.{◌≡◌, ◌≤◌, ◌+◌, drop}
use Rattle.lq_stats.specs.Columns.{marked_by_both}
use Rattle.lq_stats.proofs.total.marked_by_both.Given as goal

-- the rows so far and those to come are all that both mark
abbrev pub invariant-loop-i : goal.invariant-loop-i
invariant-loop-i l = record {
  all : l.both + marked_by_both (drop l.i l.marks) (drop l.i l.counted) ≡ marked_by_both l.marks l.counted;
  few : l.both ≤ l.i;
}
