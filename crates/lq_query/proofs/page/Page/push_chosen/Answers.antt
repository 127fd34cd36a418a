use Rattle.std.proofs.Common.{map, subst, sym, ◌∙◌, OnOk}
use Rattle.std.proofs.lemmas.Bool.{eqb-true}
use Rattle.lq_query.specs.Lines.{seen_cells}
use Rattle.lq_query.specs.Lines.{HasLines, IsTooLarge, first_rows}
use Rattle.lq_query.proofs.RowLemmas.{chosen_by_none}
use Rattle.lq_query.proofs.page.Page.push_chosen.Goals as goal

pub returns-then-is_everything-clause-lines : goal.returns-then-is_everything-clause-lines
returns-then-is_everything-clause-lines c =
    let rows = map (seen_cells c.args.self.now.sight) c.args.rows.now in
    subst (λ those. OnOk c.push_first.result (HasLines c.args.writer.now c.push_first.new.writer (first_rows c.args.self.now.columns.now c.args.left those)))
    (chosen_by_none c.args.filter.now rows (eqb-true _ 0 (sym c.is_everything.ensures ∙ c.if-is_everything.true))) c.push_first.ensures.lines

pub returns-then-is_everything-clause-large : goal.returns-then-is_everything-clause-large
returns-then-is_everything-clause-large c = λ large.
    let rows = map (seen_cells c.args.self.now.sight) c.args.rows.now in
    subst (λ those. IsTooLarge c.args.writer.now (first_rows c.args.self.now.columns.now c.args.left those))
    (chosen_by_none c.args.filter.now rows (eqb-true _ 0 (sym c.is_everything.ensures ∙ c.if-is_everything.true))) (c.push_first.ensures.large large)
