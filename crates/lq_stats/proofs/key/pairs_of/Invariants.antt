use Rattle.std.proofs.Common.{◌≡◌, take}
use Rattle.lq_stats.proofs.key.pairs_of.Given as goal

abbrev pub invariant-loop-pair : goal.invariant-loop-pair
invariant-loop-pair l = l.copy ≡ take l.pair-index l.pairs
