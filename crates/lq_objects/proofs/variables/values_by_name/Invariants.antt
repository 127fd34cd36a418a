use Rattle.std.proofs.Common.{◌≡◌, take}
use Rattle.lq_objects.specs.Objects.{custom_variables}
use Rattle.lq_objects.proofs.variables.values_by_name.Given as goal

abbrev pub invariant-loop-line : goal.invariant-loop-line
invariant-loop-line l = l.values.entries ≡ custom_variables (take l.line-index l.lines)
