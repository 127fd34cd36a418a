use Rattle.std.proofs.Common.{rules, ◌≡◌, Err, ◌∙◌, arith}
use Rattle.lq_output.specs.declared.error.WriteErr.TheVariants.{TooLarge}
use Rattle.lq_query.specs.Lines.{seen_cells}
use Rattle.lq_query.proofs.RowLemmas.{block_added, block_large, block_left, rows_shown}
use Rattle.lq_query.proofs.page.Page.push_rows.Goals as goal

pub returns-in_err-push_block-clause-large : goal.returns-in_err-push_block-clause-large
returns-in_err-push_block-clause-large c = λ large.
    let failed : c.push_block.result ≡ Err TooLarge = search (rules, large) in
    block_large c.args.self.now.columns.now c.args.selection.now.filter (seen_cells c.args.self.now.sight) c.args.rows.now c.blocks-2.at c.block_end-end.result c.block_end-end.ensures.some
    _ _ c.args.selection.now.left c.blocks-2.selection.left c.blocks-2.invariant.lines c.blocks-2.invariant.left
    (rw c.blocks-2.invariant.same at (c.push_block.ensures.large failed))

pub blocks-2-preserved : goal.blocks-2-preserved
blocks-2-preserved c =
    let columns = c.args.self.now.columns.now in
    let headers = c.args.selection.now.filter in
    let row_of = seen_cells c.args.self.now.sight in
    record {
      within = c.block_end-end.ensures.within;
      same = c.push_block.ensures.same ∙ c.blocks-2.invariant.same;
      lines = block_added columns headers row_of c.args.rows.now c.blocks-2.at c.block_end-end.result c.block_end-end.ensures.some
          _ _ c.args.selection.now.left c.blocks-2.selection.left c.blocks-2.invariant.lines c.blocks-2.invariant.left _
          (rw c.blocks-2.invariant.same at c.in_ok-push_block.ensures.lines);
      left = block_left headers row_of c.args.rows.now c.blocks-2.at c.block_end-end.result c.block_end-end.ensures.some
          c.args.selection.now.left c.blocks-2.selection.left _ c.blocks-2.invariant.left
          (rw c.blocks-2.invariant.same at c.in_ok-push_block.ensures.left);
    }

pub returns-else-selection-gt0-clause-lines : goal.returns-else-selection-gt0-clause-lines
returns-else-selection-gt0-clause-lines c =
    rows_shown c.args.self.now.columns.now c.args.selection.now.filter (seen_cells c.args.self.now.sight) c.args.rows.now c.blocks-2.at c.args.selection.now.left _ _
    c.blocks-2.invariant.lines (omega (arith, c.blocks-2.invariant.left, c.if-selection-gt0.false))
