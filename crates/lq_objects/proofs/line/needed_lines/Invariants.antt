use Rattle.std.proofs.Common.{◌≡◌, ◌-◌, ◌≤◌, ◌++◌, length, drop}
use Rattle.lq_text.specs.Lines.{lines_of}
use Rattle.lq_objects.specs.Blocks.{telling_after, telling_lines}
use Rattle.lq_objects.proofs.ThinLemmas.{ends_within, thin_parts}
use Rattle.lq_objects.proofs.line.needed_lines.Given as goal

abbrev pub invariant-lines : goal.invariant-lines
invariant-lines l = record {
  at : l.at ≤ length l.b;
  counted : l.number ≤ l.at;
  within : l.within ≡ ends_within l.lines.items;
  same : thin_parts (l.lines.items ++ telling_after l.number (lines_of (drop l.at l.b))) ≡ thin_parts (telling_lines l.b);
}

abbrev pub decreases-lines : goal.decreases-lines
decreases-lines l = length l.b - l.at
