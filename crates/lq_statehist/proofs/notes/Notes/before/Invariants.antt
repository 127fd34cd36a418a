use Rattle.std.proofs.Common.{◌≤◌, ◌+◌, take}
use Rattle.lq_statehist.specs.Notes.{lines_below, notes_of}
use Rattle.lq_statehist.specs.Sorted.{AreSorted, below}
use Rattle.lq_statehist.proofs.notes.Notes.before.Given as goal

abbrev pub invariant-loop-place : goal.invariant-loop-place
invariant-loop-place g l = record {
  sorted : AreSorted l.notes l.base (below l.until (notes_of l.base (take l.place l.log.entries)));
  cost : l.steps ≤ l.fn.steps + lines_below l.until (take l.place l.log.entries);
}
