use Rattle.std.proofs.Common.{◌≡◌, ◌≤◌, ◌++◌, length, map, drop}
use Rattle.std.specs.Option.{option_map}
use Rattle.lq_statehist.specs.Facts.{known_at}
use Rattle.lq_statehist.specs.History.{history, slice_of}
use Rattle.lq_statehist.specs.Pass.{RisesFrom, before, known_of, note_of, piece_of_stretch, subject_of_lines}
use Rattle.lq_statehist.specs.Tiling.{pieces_between}
use Rattle.lq_statehist.proofs.PassLemmas.{IsLeft}
use Rattle.lq_statehist.proofs.pass.history.Given as goal

abbrev pub invariant-loop-note : goal.invariant-loop-note
invariant-loop-note l = record {
  rises : RisesFrom 0 (drop l.note-index (map note_of l.notes));
  left : IsLeft (subject_of_lines l.about) (map note_of l.notes) l.span.until (known_of l.pass.known) l.pass.since (drop l.note-index (map note_of l.notes));
  slices : l.slices.items ++ map (slice_of l.about.object) (before (option_map piece_of_stretch l.pass.growing)
      (pieces_between (known_at (subject_of_lines l.about) (map note_of l.notes)) l.pass.since l.span.until))
      ≡ l.fn.slices.items ++ history (subject_of_lines l.about) (map note_of l.notes) l.span.from l.span.until;
  most : length l.fn.slices.items ≤ 1000000 → length l.slices.items ≤ 1000000;
}
