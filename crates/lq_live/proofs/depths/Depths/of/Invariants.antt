use Rattle.std.proofs.Common.{take}
use Rattle.lq_live.specs.Depths.{AreDepths}
use Rattle.lq_live.proofs.depths.Depths.of.Given as goal

abbrev pub invariant-loop-downtime : goal.invariant-loop-downtime
invariant-loop-downtime l = AreDepths l.base (take l.downtime-index l.downtimes) l.depths
