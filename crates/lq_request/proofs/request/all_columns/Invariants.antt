use Rattle.std.proofs.Common.{◌≡◌, take}
use Rattle.lq_schema.specs.Schema.{columns_of}
use Rattle.lq_request.proofs.request.all_columns.Given as goal

abbrev pub invariant-loop-i : goal.invariant-loop-i
invariant-loop-i l = l.columns ≡ take l.i (columns_of l.table)
