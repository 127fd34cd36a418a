use Rattle.std.proofs.Common.{◌≡◌, take}
use Rattle.lq_objects.specs.Objects.{custom_variables}
use Rattle.lq_objects.proofs.variables.few_variables.Given as goal

abbrev pub invariant-loop-line : goal.invariant-loop-line
invariant-loop-line l = l.variables.items ≡ custom_variables (take l.line-index l.lines)
