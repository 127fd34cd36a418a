use Rattle.std.proofs.lemmas.Str.{IsCharBoundary-start}
use Rattle.std.specs.Arc.{arc_str_bytes}
use Rattle.lq_records.proofs.text.Text.of_whole.Goals as goal

pub invariant_of-result : goal.invariant_of-result
invariant_of-result c = IsCharBoundary-start (arc_str_bytes c.args.whole) (rw c.as_str.ensures.value at c.as_str.utf8)
