use Rattle.std.proofs.Common.{◌≡◌, ◌++◌, drop, map}
use Rattle.lq_columns.specs.Names.{without_underscore}
use Rattle.lq_columns.proofs.names.variable_names.Given as goal

abbrev pub invariant-loop-variable : goal.invariant-loop-variable
invariant-loop-variable l = l.names ++ map (λ variable. without_underscore variable.0) (drop l.variable-index l.variables) ≡ map (λ variable. without_underscore variable.0) l.variables
