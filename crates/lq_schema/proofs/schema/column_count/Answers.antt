use Rattle.std.proofs.Common.{arith}
use Rattle.lq_schema.proofs.SchemaLemmas.{count_of}
use Rattle.lq_schema.proofs.schema.column_count.Goals as goal

-- src/schema.rt:46:5
pub loop-part-init : goal.loop-part-init
loop-part-init c = (
  omega (arith, c.column_count-count.ensures.few),
  count_of c.args.t c.subject.result c.joined_parts-part-items.result.now c.column_count-count.result c.subject.ensures c.joined_parts-part-items.ensures.parts c.column_count-count.ensures.count,
)
