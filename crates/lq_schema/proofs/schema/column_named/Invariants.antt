use Rattle.std.proofs.Common.{◌≡◌, bytes_eq, drop, find}
use Rattle.lq_schema.specs.Names.{full_name}
use Rattle.lq_schema.specs.Schema.{columns_of, column_named}
use Rattle.lq_schema.proofs.schema.column_named.Given as goal

abbrev pub invariant-loop-i : goal.invariant-loop-i
invariant-loop-i l = find (λ column. bytes_eq l.name (full_name column)) (drop l.i (columns_of l.t)) ≡ column_named l.t l.name
