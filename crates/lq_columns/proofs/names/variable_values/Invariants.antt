use Rattle.std.proofs.Common.{◌≡◌, ◌++◌, drop, map}
use Rattle.lq_columns.proofs.names.variable_values.Given as goal

abbrev pub invariant-loop-variable : goal.invariant-loop-variable
invariant-loop-variable l = l.values ++ map (λ variable. variable.1) (drop l.variable-index l.variables) ≡ map (λ variable. variable.1) l.variables
