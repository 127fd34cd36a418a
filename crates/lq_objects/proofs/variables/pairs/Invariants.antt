use Rattle.std.proofs.Common.{◌≡◌, ◌++◌}
use Rattle.lq_objects.proofs.variables.pairs.Given as goal

abbrev pub invariant-loop-name : goal.invariant-loop-name
invariant-loop-name l = l.pairs.items ++ l.name-iterator ≡ l.initial.name-iterator
