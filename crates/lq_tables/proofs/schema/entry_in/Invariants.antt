use Rattle.std.proofs.Common.{◌≡◌, drop, slice_get}
use Rattle.std.specs.List.{flat_map}
use Rattle.lq_tables.specs.Schema.{entries_of}
use Rattle.lq_tables.proofs.schema.entry_in.Given as goal

abbrev pub invariant-loop-table : goal.invariant-loop-table
invariant-loop-table l = slice_get (flat_map entries_of (drop l.table-index l.tables)) l.rest ≡ slice_get (flat_map entries_of l.tables) l.place
