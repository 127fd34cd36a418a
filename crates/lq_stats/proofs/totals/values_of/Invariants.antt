use Rattle.std.proofs.Common.{◌≡◌, map, take}
use Rattle.lq_schema.specs.Value.{meaning_of}
use Rattle.lq_stats.specs.Totals.{total_value}
use Rattle.lq_stats.proofs.totals.values_of.Given as goal

abbrev pub invariant-loop-total : goal.invariant-loop-total
invariant-loop-total l = map meaning_of l.values ≡ map total_value (take l.total-index l.totals)
