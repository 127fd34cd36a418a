use Rattle.std.proofs.Common.{◌≡◌, map, take}
use Rattle.lq_schema.specs.Value.{meaning_of}
use Rattle.lq_stats.specs.Keys.{key_values}
use Rattle.lq_stats.proofs.groups.values_of.Given as goal

abbrev pub invariant-loop-cell : goal.invariant-loop-cell
invariant-loop-cell l = map meaning_of l.values ≡ key_values (take l.cell-index l.key)
