use Rattle.std.proofs.lemmas.Result.{on_ok_weaker}
use Rattle.lq_output.specs.CellValue.{value_of_cell}
use Rattle.lq_output.proofs.WritingLemmas.{adds_cell_to, too_large_with, within_limit}
use Rattle.lq_output.proofs.writer.Writer.add.Goals as goal

pub returns-clause-lines : goal.returns-clause-lines
returns-clause-lines c =
    on_ok_weaker c.append.result (adds_cell_to c.args.self.now c.append.new.self (value_of_cell c.args.cell)) c.append.ensures.ok

pub returns-clause-fits : goal.returns-clause-fits
returns-clause-fits c = on_ok_weaker c.append.result (within_limit c.append.new.self) c.append.ensures.fits

pub returns-clause-large : goal.returns-clause-large
returns-clause-large c = λ is. too_large_with c.args.self.now (value_of_cell c.args.cell) (c.append.ensures.large is)
