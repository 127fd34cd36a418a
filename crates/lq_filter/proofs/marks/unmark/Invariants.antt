use Rattle.std.proofs.Common.{not}
use Rattle.lq_filter.specs.Marks.{AreKeptBefore}
use Rattle.lq_filter.proofs.marks.unmark.Given as goal

abbrev pub invariant-loop-place : goal.invariant-loop-place
invariant-loop-place l = AreKeptBefore not l.others l.fn.marks l.marks l.place
