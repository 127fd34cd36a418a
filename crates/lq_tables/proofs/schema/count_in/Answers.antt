use Rattle.std.proofs.Common.{arith, get_or, length}
use Rattle.std.specs.List.{flat_map}
use Rattle.std.proofs.lemmas.Option.{slice_get-get_or}
use Rattle.lq_schema.specs.declared.columns.Table.{Table}
use Rattle.lq_schema.specs.declared.columns.Table.TheVariants as table
use Rattle.lq_tables.specs.Schema.{entries_of}
use Rattle.lq_tables.proofs.Entries.{counted_later, few}
use Rattle.lq_tables.proofs.schema.count_in.Goals as goal

pub loop-table-preserved : goal.loop-table-preserved
loop-table-preserved c =
    let i = c.loop-table.table-index in
    let t : Table = get_or c.args.tables.now i table.Hosts in
    record {
      few = omega (arith, c.loop-table.invariant.few, c.column_count.ensures, few t);
      counted = counted_later c.args.tables.now i c.loop-table.count c.column_count.result t (length (flat_map entries_of c.args.tables.now))
          (slice_get-get_or c.args.tables.now i table.Hosts c.loop-table-test.true) c.column_count.ensures c.loop-table.invariant.counted;
    }
