use Rattle.std.proofs.Common.{◌≡◌, ◌<◌, List, get_or, length, map, sym, ap, ◌∙◌, arith}
use Rattle.std.proofs.lemmas.List.{get_or-map, length-map}
use Rattle.lq_stats.specs.Columns.{column_cells}
use Rattle.lq_stats.specs.declared.cell.StatCell.{StatCell}
use Rattle.lq_query.proofs.CountLemmas.{cell_taken, no_cell_taken}
use Rattle.lq_query.proofs.groups.take_cells.Goals.{in-Some+in_ok-push, in_default}
use Rattle.lq_query.proofs.groups.take_cells.Goals as goal

pub loop-column-preserved : goal.loop-column-preserved
loop-column-preserved c =
    let columns : List (List StatCell) = map column_cells c.args.columns.now in
    let column : List StatCell = column_cells c.column-item.result in
    let place = c.loop-column.column-index in
    let bound : place < length columns = omega (arith, c.loop-column-test.true, length-map c.args.columns.now column_cells) in
    let is : column ≡ get_or columns place column
    = ap column_cells c.column-item.is ∙ sym (get_or-map column_cells c.args.columns.now place c.column-item.result column c.loop-column-test.true) in
    elim c.match-get.branch [
      | in-Some+in_ok-push w ↦
          rw (w.taken-is, w.in_ok-push.ensures.items)
          (cell_taken c.args.place c.loop-column.taken.items columns place column bound is _ c.loop-column.invariant w.in-Some.cell (sym w.in-Some.ensures))
      | in_default w ↦
          rw (w.taken-is)
          (no_cell_taken c.args.place c.loop-column.taken.items columns place column bound is _ c.loop-column.invariant (sym w.in_default.ensures))
    ]
