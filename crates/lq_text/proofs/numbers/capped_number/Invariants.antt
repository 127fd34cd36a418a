use Rattle.std.proofs.Common.{◌≡◌, ◌^◌, min, take}
use Rattle.lq_text.specs.Numbers.{number_of}
use Rattle.lq_text.proofs.numbers.capped_number.Given as goal

abbrev pub invariant-loop-digit : goal.invariant-loop-digit
invariant-loop-digit l = l.number ≡ min (number_of (take l.digit-index l.digits)) (2 ^ 64)
