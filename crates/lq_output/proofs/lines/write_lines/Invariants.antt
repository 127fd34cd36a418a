use Rattle.std.proofs.Common.{◌≡◌, ◌≤◌, ◌++◌, length, take}
use Rattle.std.specs.List.{flat_map}
use Rattle.lq_output.specs.Cells.{plain_line}
use Rattle.lq_output.proofs.lines.write_lines.Given as goal

abbrev pub invariant-loop-count : goal.invariant-loop-count
invariant-loop-count g l = record {
  within : l.at ≤ length l.bytes;
  length : length l.bytes ≡ length l.fn.bytes;
  lines : take l.at l.bytes ≡ take l.fn.place.start l.fn.bytes
      ++ flat_map (λ row. plain_line l.fn.place.separators (g.T.LineTexts.cell l.texts row)) (take l.count l.rows);
}
