use Rattle.std.proofs.Common.{◌≡◌, ◌+◌, ◌*◌, ◌≤◌, drop, length}
use Rattle.std.specs.List.{flat_map}
use Rattle.lq_schema.specs.Schema.{columns_of, part_columns}
use Rattle.lq_schema.proofs.schema.column_count.Given as goal

abbrev pub invariant-loop-part : goal.invariant-loop-part
invariant-loop-part l = (l.count ≤ 64 * (l.part-index + 1))
    × (l.count + length (flat_map part_columns (drop l.part-index l.part-items)) ≡ length (columns_of l.fn.t))
