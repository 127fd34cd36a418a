use Rattle.std.proofs.Common.{◌≡◌, ◌%◌, sum, take}
use Rattle.lq_program.proofs.load.sum.Given as goal

abbrev pub invariant-loop-byte : goal.invariant-loop-byte
invariant-loop-byte l = l.sum ≡ sum (take l.byte-index l.bytes) % 4294967296
