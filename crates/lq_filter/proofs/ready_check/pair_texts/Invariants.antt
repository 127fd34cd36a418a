use Rattle.std.proofs.Common.{◌≡◌, ◌++◌, drop, map}
use Rattle.lq_filter.specs.Tests.{pair_element}
use Rattle.lq_filter.proofs.ready_check.pair_texts.Given as goal

abbrev pub invariant-loop-host : goal.invariant-loop-host
invariant-loop-host l = l.texts.items ++ map pair_element (drop l.host-index l.pairs) ≡ map pair_element l.pairs
