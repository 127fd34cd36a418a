use Rattle.std.proofs.Common.{rules, ◌≡◌, Err, [], ◌∷◌, subst, arith}
use Rattle.lq_output.specs.declared.error.WriteErr.TheVariants.{TooLarge}
use Rattle.lq_query.specs.Lines.{IsTooLarge, seen_cells}
use Rattle.lq_tables.specs.declared.row.Row.{Row}
use Rattle.lq_query.specs.Rows.{row_cells}
use Rattle.lq_query.proofs.RowLemmas.{line_large, lines_all}
use Rattle.lq_query.proofs.page.Page.push_lines.Goals as goal

pub returns-in_err-push_row-clause-large : goal.returns-in_err-push_row-clause-large
returns-in_err-push_row-clause-large c = λ large.
    let failed : c.push_row.result ≡ Err TooLarge = search (rules, large) in
    line_large (λ (row : Row). row_cells c.args.self.now.columns.now (seen_cells c.args.self.now.sight row)) c.args.rows.now c.loop-row.row-index c.row-item.result
    _ _ c.loop-row-test.true c.loop-row.invariant
    (subst (λ (row : Row). IsTooLarge c.loop-row.writer (row_cells c.args.self.now.columns.now (seen_cells c.args.self.now.sight row) ∷ [])) c.row-item.is (c.push_row.ensures.large failed))

pub returns-clause-lines : goal.returns-clause-lines
returns-clause-lines c =
    lines_all (λ (row : Row). row_cells c.args.self.now.columns.now (seen_cells c.args.self.now.sight row)) c.args.rows.now c.loop-row.row-index _ _ (omega (arith, c.loop-row-test.false)) c.loop-row.invariant
