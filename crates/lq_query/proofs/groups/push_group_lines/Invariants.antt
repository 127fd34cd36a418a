use Rattle.std.proofs.Common.{map, take}
use Rattle.lq_stats.specs.Groups.{shown_line}
use Rattle.lq_query.specs.Groups.{line_cells}
use Rattle.lq_query.specs.Lines.{HasLines}
use Rattle.lq_query.proofs.groups.push_group_lines.Given as goal

abbrev pub invariant-loop-line : goal.invariant-loop-line
invariant-loop-line l = HasLines l.fn.writer l.writer (map (λ line. line_cells (shown_line line)) (take l.line-index l.lines))
