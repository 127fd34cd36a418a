use Rattle.std.proofs.Common.{rules}
use Rattle.lq_output.proofs.LineLemmas.{adds_lines}
use Rattle.lq_output.proofs.writer.Writer.text_lines.Goals as goal

pub returns-in_ok-count-in-Csv-clause-lines : goal.returns-in_ok-count-in-Csv-clause-lines
returns-in_ok-count-in-Csv-clause-lines g c =
    adds_lines (g.T.LineTexts.cell c.args.texts.now) c.args.rows.now c.in_ok-count-in-Csv.count c.args.self.now _
    c.in_ok-count-in-Csv.ensures.within (search rules) (search rules) (search rules) (search rules) (search rules)

pub returns-in_ok-count-in-Csv-clause-stop : goal.returns-in_ok-count-in-Csv-clause-stop
returns-in_ok-count-in-Csv-clause-stop g c takes many row later is gives =
    let found = c.in_ok-count-in-Csv.ensures.stop row later is gives in
    search (rules, found)
