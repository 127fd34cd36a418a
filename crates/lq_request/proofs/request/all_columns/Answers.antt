use Rattle.std.proofs.Common.{◌∙◌, ap, arith, length, length-take}
use Rattle.lq_schema.specs.Schema.{columns_of}
use Rattle.lq_request.proofs.ColumnLemmas.{some_column}
use Rattle.lq_request.proofs.ListLemmas.{front_next}
use Rattle.lq_request.proofs.request.all_columns.Goals as goal

pub loop-i-preserved : goal.loop-i-preserved
loop-i-preserved c = c.in_ok-push.ensures.ok ∙ front_next c.loop-i.columns (columns_of c.args.table) c.loop-i.i c.column_at.result c.column_at.ensures c.loop-i.invariant

pub returns-clause-some : goal.returns-clause-some
returns-clause-some c =
    omega (arith, ap length c.loop-i.invariant, length-take c.loop-i.i (columns_of c.args.table), c.column_count-i-end.ensures, c.loop-i-test.false, some_column c.args.table)
