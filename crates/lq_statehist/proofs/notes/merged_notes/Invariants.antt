use Rattle.std.proofs.Common.{◌≡◌, ◌≤◌, ◌++◌, ◌+◌, ◌-◌, length, map, drop}
use Rattle.lq_statehist.specs.Pass.{note_of}
use Rattle.lq_statehist.specs.Sorted.{merged_notes}
use Rattle.lq_statehist.proofs.notes.merged_notes.Given as goal

abbrev pub invariant-notes : goal.invariant-notes
invariant-notes l = record {
  within : l.at ≤ length l.notes;
  other_within : l.other_at ≤ length l.others;
  all : map note_of l.all.items ++ merged_notes (drop l.at (map note_of l.notes)) (drop l.other_at (map note_of l.others))
      ≡ merged_notes (map note_of l.notes) (map note_of l.others);
}

abbrev pub decreases-notes : goal.decreases-notes
decreases-notes l = (length l.notes - l.at) + (length l.others - l.other_at)
