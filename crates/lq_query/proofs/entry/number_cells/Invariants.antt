use Rattle.std.proofs.Common.{◌≡◌, ◌++◌, drop, map}
use Rattle.lq_stats.specs.declared.cell.StatCell.TheVariants as cell
use Rattle.lq_query.specs.Lines.{seen_cells}
use Rattle.lq_query.specs.Groups.{number_cell}
use Rattle.lq_query.proofs.entry.number_cells.Given as goal

abbrev pub invariant-loop-row : goal.invariant-loop-row
invariant-loop-row l =
    map cell.Number l.numbers.items ++ map (λ row. number_cell (seen_cells l.sight row l.column)) (drop l.row-index l.rows)
    ≡ map (λ row. number_cell (seen_cells l.sight row l.column)) l.rows
