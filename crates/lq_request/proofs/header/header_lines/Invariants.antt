use Rattle.std.proofs.Common.{◌≡◌, ◌+◌, ◌-◌, ◌≤◌, length, drop}
use Rattle.lq_text.specs.Lines.{lines_of}
use Rattle.lq_request.specs.Headers.{header_lines}
use Rattle.lq_request.proofs.header.header_lines.Given as goal

abbrev pub invariant-lines : goal.invariant-lines
invariant-lines l = record {
  within : l.at ≤ length l.bytes;
  counted : l.number ≤ l.at;
  found : header_lines (l.number + 1) (lines_of (drop l.at l.bytes)) l.draft
      ≡ header_lines 1 (lines_of l.bytes) l.fn.draft;
}

abbrev pub decreases-lines : goal.decreases-lines
decreases-lines l = length l.bytes - l.at
