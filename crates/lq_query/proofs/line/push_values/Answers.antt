use Rattle.std.proofs.Common.{rules, ◌≡◌, ◌+◌, map, drop, Err, subst}
use Rattle.lq_output.specs.declared.error.WriteErr.TheVariants.{TooLarge}
use Rattle.lq_schema.specs.Value.{meaning_of}
use Rattle.lq_query.specs.Lines.{AreTooLarge}
use Rattle.lq_query.proofs.RowLemmas.{AreTooLarge-cell, split_map}
use Rattle.lq_query.proofs.line.push_values.Goals as goal

pub returns-in_err-cell-clause-large : goal.returns-in_err-cell-clause-large
returns-in_err-cell-clause-large c = λ large.
    let cells = c.args.cells.now in
    let place = c.loop-cell.cell-index in
    let failed : c.cell.result ≡ Err TooLarge = search (rules, large) in
    subst (AreTooLarge c.args.writer.now) (split_map meaning_of cells place c.cell-item.result c.loop-cell-test.true c.cell-item.is)
    (AreTooLarge-cell _ _ _ _ (map meaning_of (drop (place + 1) cells)) c.loop-cell.invariant.cells (c.cell.ensures.large failed))
