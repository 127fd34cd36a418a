use Rattle.std.proofs.Common.{◌≡◌, ◌≤◌, length, drop}
use Rattle.lq_live.specs.Kept.{earliest_second}
use Rattle.lq_live.proofs.downtimes.earliest_second.Given as goal

abbrev pub invariant-downtimes : goal.invariant-downtimes
invariant-downtimes l = record {
  within : l.i ≤ length l.downtimes;
  first : l.first ≡ earliest_second (drop l.i l.downtimes);
}

abbrev pub decreases-downtimes : goal.decreases-downtimes
decreases-downtimes l = l.i
