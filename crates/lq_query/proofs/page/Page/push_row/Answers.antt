use Rattle.std.proofs.Common.{rules, ◌≡◌, ◌+◌, ◌∷◌, [], map, drop, Err, List, ap, arith, subst}
use Rattle.std.proofs.lemmas.List.{take_all}
use Rattle.lq_output.specs.Writing.{Writing}
use Rattle.lq_schema.specs.declared.columns.Col.{Col}
use Rattle.lq_output.specs.declared.error.WriteErr.TheVariants.{TooLarge}
use Rattle.lq_query.specs.Lines.{HasLines, IsTooLarge, seen_cells}
use Rattle.lq_query.proofs.RowLemmas.{AreTooLarge-cell, on_ok_both, line_of_cells, line_too_large, split_map}
use Rattle.lq_query.proofs.page.Page.push_row.Goals as goal

pub returns-in_err-push_cell-clause-large : goal.returns-in_err-push_cell-clause-large
returns-in_err-push_cell-clause-large c = λ large.
    let row = seen_cells c.args.self.now.sight c.args.row.now in
    let columns = c.args.self.now.columns.now in
    let place = c.loop-column.column-index in
    let failed : c.push_cell.result ≡ Err TooLarge = search (rules, large) in
    subst (λ cells. IsTooLarge c.args.writer.now (cells ∷ []))
    (split_map row columns place c.column-item.result c.loop-column-test.true c.column-item.is)
    (line_too_large _ _ (AreTooLarge-cell _ _ _ _ (map row (drop (place + 1) columns)) c.loop-column.invariant.cells (c.push_cell.ensures.large failed)))

pub returns-clause-lines : goal.returns-clause-lines
returns-clause-lines c =
    let row = seen_cells c.args.self.now.sight c.args.row.now in
    let all = take_all c.loop-column.column-index c.args.self.now.columns.now (omega (arith, c.loop-column-test.false)) in
    on_ok_both c.end_line.result
    (λ is ends. subst (λ (columns : List Col). HasLines c.args.writer.now c.end_line.new.self (map row columns ∷ [])) all
    (line_of_cells _ _ _ _ c.loop-column.invariant.cells (ap (λ (w : Writing). w.layout) is) ends))
    c.end_line.ensures.ok c.end_line.ensures.lines
