use Rattle.std.proofs.Common.{◌≡◌, ◌++◌, drop}
use Rattle.lq_query.proofs.column.shown_columns.Given as goal

abbrev pub invariant-loop-column : goal.invariant-loop-column
invariant-loop-column l = l.shown.items ++ drop l.column-index l.columns ≡ l.fn.columns
