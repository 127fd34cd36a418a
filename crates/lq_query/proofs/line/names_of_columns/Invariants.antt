use Rattle.std.proofs.Common.{◌≡◌, ◌++◌, drop, map}
use Rattle.lq_schema.specs.Value.{meaning_of}
use Rattle.lq_query.specs.Answer.{column_names}
use Rattle.lq_query.proofs.line.names_of_columns.Given as goal

abbrev pub invariant-loop-column : goal.invariant-loop-column
invariant-loop-column l = map meaning_of l.names.items ++ column_names (drop l.column-index l.columns) ≡ column_names l.columns
