use Rattle.std.proofs.Common.{◌≡◌, ◌++◌, drop, flat_map}
use Rattle.lq_live.specs.Downtimes.{moments}
use Rattle.lq_live.proofs.event.all_moments.Given as goal

abbrev pub invariant-loop-downtime : goal.invariant-loop-downtime
invariant-loop-downtime l = l.events.items ++ flat_map (moments l.second) (drop l.downtime-index l.downtimes) ≡ flat_map (moments l.second) l.downtimes
