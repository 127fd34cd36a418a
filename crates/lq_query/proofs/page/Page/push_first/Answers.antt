use Rattle.std.proofs.Common.{◌∙◌, ap, map, subst, OnOk}
use Rattle.lq_query.specs.Lines.{seen_cells}
use Rattle.lq_query.specs.Lines.{HasLines, IsTooLarge}
use Rattle.lq_query.specs.Rows.{row_cells}
use Rattle.lq_query.proofs.RowLemmas.{first_of_rows}
use Rattle.lq_query.proofs.page.Page.push_first.Goals as goal

pub returns-clause-lines : goal.returns-clause-lines
returns-clause-lines c =
    let row_of = seen_cells c.args.self.now.sight in
    let columns = c.args.self.now.columns.now in
    subst (λ lines. OnOk c.push_each.result (HasLines c.args.writer.now c.push_each.new.writer lines))
    (ap (map (λ row. row_cells columns (row_of row))) c.first_of.ensures ∙ first_of_rows columns row_of c.args.most c.args.rows.now) c.push_each.ensures.lines

pub returns-clause-large : goal.returns-clause-large
returns-clause-large c = λ large.
    let row_of = seen_cells c.args.self.now.sight in
    let columns = c.args.self.now.columns.now in
    subst (λ lines. IsTooLarge c.args.writer.now lines)
    (ap (map (λ row. row_cells columns (row_of row))) c.first_of.ensures ∙ first_of_rows columns row_of c.args.most c.args.rows.now) (c.push_each.ensures.large large)
