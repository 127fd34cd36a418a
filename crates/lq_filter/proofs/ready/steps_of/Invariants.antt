use Rattle.std.proofs.Common.{◌≡◌, ◌++◌, drop}
use Rattle.lq_filter.proofs.ready.steps_of.Given as goal

abbrev pub invariant-loop-node : goal.invariant-loop-node
invariant-loop-node l = l.steps.items ++ drop l.node-index l.nodes ≡ l.nodes
