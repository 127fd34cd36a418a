use Rattle.std.proofs.Common.{◌≡◌, ◌++◌, ◌+◌, ◌-◌, ◌≤◌, length, drop}
use Rattle.lq_text.specs.Lines.{lines_of}
use Rattle.lq_log.specs.Book.{last_time}
use Rattle.lq_log.specs.Log.{entries_after, first_fault, skipped_in}
use Rattle.lq_log.proofs.book.LogBook.read.Given as goal

abbrev pub invariant-lines : goal.invariant-lines
invariant-lines l = record {
  within : l.at ≤ length l.b;
  few : l.number ≤ 200000;
  counted : l.book.skipped ≤ l.number;
  entries : l.book.entries ++ entries_after (last_time l.book.entries) (lines_of (drop l.at l.b)) ≡ entries_after 0 (lines_of l.b);
  skipped : l.book.skipped + skipped_in (lines_of (drop l.at l.b)) ≡ skipped_in (lines_of l.b);
  fault : first_fault (l.number + 1) (lines_of (drop l.at l.b)) ≡ first_fault 1 (lines_of l.b);
}

abbrev pub decreases-lines : goal.decreases-lines
decreases-lines l = length l.b - l.at
