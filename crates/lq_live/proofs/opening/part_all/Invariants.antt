use Rattle.std.proofs.Common.{◌≡◌, ◌++◌, take, drop, map}
use Rattle.lq_live.specs.Whole.{with_parted_output}
use Rattle.lq_live.proofs.opening.part_all.Given as goal

abbrev pub invariant-loop-status : goal.invariant-loop-status
invariant-loop-status l = take l.status-index l.statuses ++ map with_parted_output (drop l.status-index l.statuses) ≡ map with_parted_output l.initial.statuses
