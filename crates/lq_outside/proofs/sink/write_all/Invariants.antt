use Rattle.std.proofs.Common.{◌≡◌, ◌-◌, ◌≤◌, length, take}
use Rattle.std.specs.Io.KnownBytes.{Appends}
use Rattle.lq_outside.proofs.sink.write_all.Given as goal

abbrev pub invariant-pieces : goal.invariant-pieces
invariant-pieces g l = record {
  within : l.at ≤ length l.bytes;
  written : Appends (g.K.Sink.held l.initial.sink) (g.K.Sink.held l.sink) (take l.at l.bytes);
  later : g.K.Sink.faults l.initial.sink ≤ g.K.Sink.faults l.sink;
  other : g.K.Sink.other_side l.sink ≡ g.K.Sink.other_side l.initial.sink;
}

abbrev pub decreases-pieces : goal.decreases-pieces
decreases-pieces g l = length l.bytes - l.at
