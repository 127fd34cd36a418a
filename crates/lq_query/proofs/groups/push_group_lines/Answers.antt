use Rattle.std.proofs.Common.{rules, ◌≡◌, ◌∷◌, [], Err, subst}
use Rattle.lq_output.specs.declared.error.WriteErr.TheVariants.{TooLarge}
use Rattle.lq_stats.specs.Groups.{shown_line}
use Rattle.lq_stats.specs.declared.spec.StatLine.{StatLine}
use Rattle.lq_query.specs.Groups.{line_cells}
use Rattle.lq_query.specs.Lines.{IsTooLarge}
use Rattle.lq_query.proofs.RowLemmas.{line_large}
use Rattle.lq_query.proofs.groups.push_group_lines.Goals as goal

pub returns-in_err-push_group_line-clause-large : goal.returns-in_err-push_group_line-clause-large
returns-in_err-push_group_line-clause-large c = λ large.
    let failed : c.push_group_line.result ≡ Err TooLarge = search (rules, large) in
    line_large (λ (line : StatLine). line_cells (shown_line line)) c.args.lines.now c.loop-line.line-index c.line-item.result _ _ c.loop-line-test.true c.loop-line.invariant
    (subst (λ (line : StatLine). IsTooLarge c.loop-line.writer (line_cells (shown_line line) ∷ [])) c.line-item.is (c.push_group_line.ensures.large failed))
