use Rattle.std.proofs.Common.{◌∙◌, ap, map}
use Rattle.lq_filter.specs.Trees.{holds, truth_on}
use Rattle.lq_stats.specs.declared.cell.StatCell.TheVariants as cell
use Rattle.lq_query.specs.Lines.{seen_cells}
use Rattle.lq_tables.specs.declared.row.Row.{Row}
use Rattle.lq_query.proofs.RowLemmas.{map-map}
use Rattle.lq_query.proofs.entry.counted_cells.Goals as goal

pub returns-clause-cells : goal.returns-clause-cells
returns-clause-cells c =
    let chosen = λ (row : Row). holds (truth_on (seen_cells c.args.sight.now row)) c.args.filter.now in
    ap (map cell.Counted) c.in_ok-marks.ensures.marks ∙ map-map cell.Counted chosen c.args.rows.now
