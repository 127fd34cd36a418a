use Rattle.std.proofs.Common.{arith}
use Rattle.lq_schema.proofs.SchemaLemmas.{count_of, joined_found, own_at}
use Rattle.lq_schema.proofs.schema.column_at.Goals as goal

pub returns-then-i-column_count : goal.returns-then-i-column_count
returns-then-i-column_count c = own_at c.args.t c.subject-own.result c.args.i c.column_at.result c.subject-own.ensures c.column_at.ensures

pub joined_at-requires : goal.joined_at-requires
joined_at-requires c =
    let whole = count_of c.args.t c.subject-own.result c.joined_parts.result.now c.column_count-2.result c.subject-own.ensures c.joined_parts.ensures.parts c.column_count-2.ensures.count in
    omega (arith, whole, c.requires, c.if-i-column_count.false, c.column_count.ensures.count, c.column_count-2.ensures.count)

pub returns : goal.returns
returns c = joined_found c.args.t c.subject-own.result c.joined_parts.result.now c.column_count-2.result c.args.i c.joined_at.result
    c.subject-own.ensures c.joined_parts.ensures.parts c.column_count-2.ensures.count
    (omega (arith, c.if-i-column_count.false, c.column_count.ensures.count, c.column_count-2.ensures.count)) c.joined_at.ensures
