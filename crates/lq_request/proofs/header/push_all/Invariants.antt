use Rattle.std.proofs.Common.{◌≡◌, ◌++◌, drop}
use Rattle.lq_request.proofs.header.push_all.Given as goal

abbrev pub invariant-loop-column : goal.invariant-loop-column
invariant-loop-column l = l.columns ++ drop l.column-index l.more ≡ l.fn.columns ++ l.more
