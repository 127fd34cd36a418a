use Rattle.std.proofs.Common.{◌≡◌, ◌++◌, drop, map}
use Rattle.std.specs.Fmt.{decimal}
use Rattle.lq_filter.proofs.ready_check.number_texts.Given as goal

abbrev pub invariant-loop-number : goal.invariant-loop-number
invariant-loop-number l = l.texts.items ++ map decimal (drop l.number-index l.numbers) ≡ map decimal l.numbers
