use Rattle.std.proofs.Common.{rules, take-add}
use Rattle.std.proofs.lemmas.List.{take_rest}
use Rattle.std.proofs.KnownBytes.{Appends-trans}
use Rattle.lq_outside.proofs.sink.write_all.Goals as goal

pub pieces-preserved : goal.pieces-preserved
pieces-preserved g c = record {
  within = search rules;
  written = rw take-add (Appends-trans _ _ _ _ _ c.pieces.invariant.written (rw take_rest at c.in_ok-at.ensures.bytes));
  later = search rules;
  other = search rules;
}
