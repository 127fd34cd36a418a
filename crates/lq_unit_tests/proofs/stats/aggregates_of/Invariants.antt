use Rattle.std.proofs.Common.{◌≡◌, [], ◌∷◌}
use Rattle.lq_stats.specs.declared.kind.StatKind.TheVariants as kind
use Rattle.lq_unit_tests.proofs.stats.aggregates_of.Given as goal

abbrev pub invariant-loop-number : goal.invariant-loop-number
invariant-loop-number l =
    (l.groups.spec ≡ record { keys = 0; entries = kind.Sum ∷ kind.Min ∷ kind.Max ∷ kind.Avg ∷ [] })
    × (l.groups.next ≡ []) × (l.groups.count ≡ l.number-index)
