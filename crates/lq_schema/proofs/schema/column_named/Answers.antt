use Rattle.std.proofs.Common.{bytes_eq, sym, ◌∙◌}
use Rattle.lq_schema.specs.Names.{full_name}
use Rattle.lq_schema.specs.Schema.{columns_of, column_named}
use Rattle.lq_schema.proofs.SchemaLemmas.{find_hit, find_miss}
use Rattle.lq_schema.proofs.schema.column_named.Goals as goal

-- src/schema.rt:105:13
pub returns-then-has_name : goal.returns-then-has_name
returns-then-has_name c = find_hit (λ column. bytes_eq c.args.name.now (full_name column)) (columns_of c.args.t) c.loop-i.i c.column_at-column.result
    (column_named c.args.t c.args.name.now) c.column_at-column.ensures (sym c.has_name.ensures ∙ c.if-has_name.true) c.loop-i.invariant

-- src/schema.rt:102:5
pub loop-i-preserved : goal.loop-i-preserved
loop-i-preserved c = find_miss (λ column. bytes_eq c.args.name.now (full_name column)) (columns_of c.args.t) c.loop-i.i c.column_at-column.result
    (column_named c.args.t c.args.name.now) c.column_at-column.ensures (sym c.has_name.ensures ∙ c.if-has_name.false) c.loop-i.invariant
