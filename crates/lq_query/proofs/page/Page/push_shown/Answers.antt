use Rattle.std.proofs.Common.{map, subst, OnOk}
use Rattle.lq_query.specs.Lines.{seen_cells}
use Rattle.lq_query.specs.Lines.{HasLines, IsTooLarge, first_rows}
use Rattle.lq_query.specs.Rows.{chosen_rows}
use Rattle.lq_query.proofs.RowLemmas.{limited_lines}
use Rattle.lq_query.proofs.page.Page.push_shown.Goals as goal

pub returns-clause-lines : goal.returns-clause-lines
returns-clause-lines c =
    let row_of = seen_cells c.args.self.now.sight in
    let request = c.args.request.now in
    subst (λ lines. OnOk c.push_chosen.result (HasLines c.args.writer.now c.push_chosen.new.writer lines))
    (limited_lines request.columns request.filter row_of c.args.rows.now request.limit c.most_rows-most.result c.most_rows-most.ensures.none c.most_rows-most.ensures.some)
    (subst (λ columns. OnOk c.push_chosen.result (HasLines c.args.writer.now c.push_chosen.new.writer (first_rows columns c.most_rows-most.result (chosen_rows request.filter (map row_of c.args.rows.now)))))
    c.requires.columns c.push_chosen.ensures.lines)

pub returns-clause-large : goal.returns-clause-large
returns-clause-large c = λ large.
    let row_of = seen_cells c.args.self.now.sight in
    let request = c.args.request.now in
    subst (IsTooLarge c.args.writer.now)
    (limited_lines request.columns request.filter row_of c.args.rows.now request.limit c.most_rows-most.result c.most_rows-most.ensures.none c.most_rows-most.ensures.some)
    (subst (λ columns. IsTooLarge c.args.writer.now (first_rows columns c.most_rows-most.result (chosen_rows request.filter (map row_of c.args.rows.now))))
    c.requires.columns (c.push_chosen.ensures.large large))
