use Rattle.std.proofs.Common.{◌≡◌, ◌-◌, ◌≤◌, ◌++◌, length, take}
use Rattle.std.specs.List.{flat_map}
use Rattle.lq_output.specs.Body.{body_limit}
use Rattle.lq_output.specs.Cells.{plain_line}
use Rattle.lq_output.proofs.lines.push_plain_lines.Given as goal

abbrev pub invariant-blocks-2 : goal.invariant-blocks-2
invariant-blocks-2 g l = record {
  within : l.done ≤ length l.rows;
  fits : length l.body.items ≤ body_limit;
  lines : l.body.items ≡ l.fn.body.items
      ++ flat_map (λ row. plain_line l.separators (g.T.LineTexts.cell l.texts row)) (take l.done l.rows);
}

abbrev pub decreases-blocks-2 : goal.decreases-blocks-2
decreases-blocks-2 g l = length l.rows - l.done
