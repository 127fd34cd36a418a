use Rattle.std.proofs.Common.{◌≡◌, ◌++◌, length}
use Rattle.std.specs.Prelude.{string_bytes}
use Rattle.lq_records.specs.Clean.{text_of_bytes, cleaned_after}
use Rattle.lq_records.proofs.clean.clean_chars.Given as goal

abbrev pub invariant-loop-rest : goal.invariant-loop-rest
invariant-loop-rest l = string_bytes l.whole ++ cleaned_after 0 l.rest ≡ text_of_bytes l.b

abbrev pub decreases-loop-rest : goal.decreases-loop-rest
decreases-loop-rest l = length l.rest
