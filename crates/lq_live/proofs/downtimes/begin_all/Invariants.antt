use Rattle.std.proofs.Common.{◌≡◌, ◌++◌, take, drop, map}
use Rattle.lq_live.specs.Edits.{begun_by}
use Rattle.lq_live.proofs.downtimes.begin_all.Given as goal

abbrev pub invariant-loop-downtime : goal.invariant-loop-downtime
invariant-loop-downtime l = take l.downtime-index l.downtimes ++ map (begun_by l.second) (drop l.downtime-index l.downtimes) ≡ map (begun_by l.second) l.initial.downtimes
