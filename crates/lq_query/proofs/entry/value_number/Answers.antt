use Rattle.std.proofs.Common.{rules, ◌∙◌, ap}
use Rattle.lq_stats.specs.declared.cell.StatCell.TheVariants as cell
use Rattle.lq_query.specs.Groups.{number_cell}
use Rattle.lq_tables.specs.Cells.{StateRow, cell_of}
use Rattle.lq_query.proofs.entry.value_number.Goals as goal

pub returns : goal.returns
returns c =
    ap cell.Number (search rules) ∙ c.number_of.ensures
    ∙ ap number_cell (c.in_ok-value.ensures.value ∙ ap (λ (cells : StateRow). cell_of cells.state cells.view cells.row c.args.column) c.of.ensures)
