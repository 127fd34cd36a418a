use Rattle.std.proofs.Common.{◌≡◌, ◌+◌, ◌*◌, ◌≤◌, drop, length}
use Rattle.std.specs.List.{flat_map}
use Rattle.lq_tables.specs.Schema.{entries_of}
use Rattle.lq_tables.proofs.schema.count_in.Given as goal

abbrev pub invariant-loop-table : goal.invariant-loop-table
invariant-loop-table l = record {
  few : l.count ≤ 200 * l.table-index;
  counted : l.count + length (flat_map entries_of (drop l.table-index l.tables)) ≡ length (flat_map entries_of l.tables);
}
