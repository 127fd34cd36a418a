use Rattle.std.proofs.Common.{◌≡◌, ◌++◌, drop, map}
use Rattle.lq_stats.specs.Groups.{shown_line}
use Rattle.lq_stats.specs.Grouped.{kept_lines}
use Rattle.lq_stats.proofs.groups.kept_lines.Given as goal

-- the lines so far and those to come are all lines
abbrev pub invariant-loop-place : goal.invariant-loop-place
invariant-loop-place l =
    map shown_line l.lines ++ kept_lines (drop l.place l.keys) (drop l.place l.totals) ≡ kept_lines l.keys l.totals
