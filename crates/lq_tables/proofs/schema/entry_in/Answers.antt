use Rattle.std.proofs.Common.{get_or, slice_get}
use Rattle.std.specs.List.{flat_map}
use Rattle.std.proofs.lemmas.Option.{slice_get-get_or}
use Rattle.lq_schema.specs.declared.columns.Table.{Table}
use Rattle.lq_schema.specs.declared.columns.Table.TheVariants as table
use Rattle.lq_tables.specs.Schema.{entries_of}
use Rattle.lq_tables.proofs.Entries.{found_here, found_later}
use Rattle.lq_tables.proofs.schema.entry_in.Goals as goal

pub returns-then-rest-count : goal.returns-then-rest-count
returns-then-rest-count c =
    let i = c.loop-table.table-index in
    let t : Table = get_or c.args.tables.now i table.Hosts in
    found_here c.args.tables.now i c.loop-table.rest t c.column_at.result (slice_get (flat_map entries_of c.args.tables.now) c.args.place)
    (slice_get-get_or c.args.tables.now i table.Hosts c.loop-table-test.true) c.column_at.ensures c.loop-table.invariant

pub loop-table-preserved : goal.loop-table-preserved
loop-table-preserved c =
    let i = c.loop-table.table-index in
    let t : Table = get_or c.args.tables.now i table.Hosts in
    found_later c.args.tables.now i c.loop-table.rest c.column_count-count.result t (slice_get (flat_map entries_of c.args.tables.now) c.args.place)
    (slice_get-get_or c.args.tables.now i table.Hosts c.loop-table-test.true) c.column_count-count.ensures c.if-rest-count.false c.loop-table.invariant
