use Rattle.std.proofs.Common.{◌≡◌, ◌≤◌, Bool, drop, length}
use Rattle.lq_filter.specs.Linked.{truths_before}
use Rattle.lq_filter.specs.declared.read.Test.{Test}
use Rattle.lq_filter.proofs.stack.start_of.Given as goal

abbrev pub invariant-loop : goal.invariant-loop
invariant-loop l = record {
  within : l.start ≤ length l.nodes;
  earlier : (truth : Test → Bool) → drop l.counter (truths_before truth l.nodes (length l.nodes)) ≡ truths_before truth l.nodes l.start;
}
