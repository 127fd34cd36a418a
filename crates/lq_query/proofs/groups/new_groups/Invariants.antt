use Rattle.std.proofs.Common.{◌≡◌, ◌++◌, drop, map}
use Rattle.lq_query.specs.Groups.{stat_kind}
use Rattle.lq_query.proofs.groups.new_groups.Given as goal

abbrev pub invariant-loop-entry : goal.invariant-loop-entry
invariant-loop-entry l = l.entries ++ map stat_kind (drop l.entry-index l.stats) ≡ map stat_kind l.stats
