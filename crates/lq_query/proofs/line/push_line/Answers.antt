use Rattle.std.proofs.Common.{rules, ◌≡◌, Err, ap}
use Rattle.lq_output.specs.Writing.{Writing}
use Rattle.lq_output.specs.declared.error.WriteErr.TheVariants.{TooLarge}
use Rattle.lq_query.proofs.RowLemmas.{AddsCells-then, AreTooLarge-front, AreTooLarge-then, line_of_cells, line_too_large, on_ok_both}
use Rattle.lq_query.proofs.line.push_line.Goals as goal

pub returns-in_err-push_values-clause-large : goal.returns-in_err-push_values-clause-large
returns-in_err-push_values-clause-large c = λ large.
    let failed : c.push_values.result ≡ Err TooLarge = search (rules, large) in
    line_too_large _ _ (AreTooLarge-front _ _ _ (c.push_values.ensures.large failed))

pub returns-in_err-push_values-2-clause-large : goal.returns-in_err-push_values-2-clause-large
returns-in_err-push_values-2-clause-large c = λ large.
    let failed : c.push_values-2.result ≡ Err TooLarge = search (rules, large) in
    line_too_large _ _ (AreTooLarge-then _ _ _ _ c.in_ok-push_values.ensures.cells (c.push_values-2.ensures.large failed))

pub returns-clause-lines : goal.returns-clause-lines
returns-clause-lines c =
    on_ok_both c.end_line.result
    (λ is ends. line_of_cells _ _ _ _ (AddsCells-then _ _ _ _ _ c.in_ok-push_values.ensures.cells c.in_ok-push_values-2.ensures.cells) (ap (λ (w : Writing). w.layout) is) ends)
    c.end_line.ensures.ok c.end_line.ensures.lines
