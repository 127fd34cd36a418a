use Rattle.std.proofs.Common.{◌-◌, ◌≤◌, length, take}
use Rattle.lq_request.specs.Search.{AreLines}
use Rattle.lq_request.proofs.extent.front_length.Given as goal

abbrev pub invariant-lines : goal.invariant-lines
invariant-lines l = record {
  within : l.at ≤ length l.bytes;
  lines : AreLines l.kind (take l.at l.bytes);
}

abbrev pub decreases-lines : goal.decreases-lines
decreases-lines l = length l.bytes - l.at
