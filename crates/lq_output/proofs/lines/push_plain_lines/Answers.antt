use Rattle.lq_output.specs.Cells.{plain_line}
use Rattle.lq_output.proofs.LineLemmas.{few_more, more_lines}
use Rattle.lq_output.proofs.lines.push_plain_lines.Goals as goal

pub blocks-2-preserved : goal.blocks-2-preserved
blocks-2-preserved g c = record {
  within = few_more c.args.rows.now c.blocks-2.done c.in-Ok.count c.blocks-2.invariant.within c.in-Ok.ensures.within;
  fits = c.push_block.ensures.fits;
  lines = more_lines (λ row. plain_line c.args.separators (g.T.LineTexts.cell c.args.texts.now row)) c.args.rows.now
      c.blocks-2.done c.in-Ok.count _ _ _ c.blocks-2.invariant.lines c.in-Ok.ensures.lines;
}
