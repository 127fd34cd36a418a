use Rattle.std.proofs.Common.{◌≡◌, ◌+◌, ◌<◌, ◌++◌, drop}
use Rattle.std.specs.Fmt.{decimal}
use Rattle.lq_program.proofs.fault.write_digits.Given as goal

abbrev pub invariant-digits : goal.invariant-digits
invariant-digits l = record {
  within : l.at < 20;
  digits : decimal l.rest ++ drop (l.at + 1) l.digits ≡ decimal l.number;
}

abbrev pub decreases-digits : goal.decreases-digits
decreases-digits l = l.rest
