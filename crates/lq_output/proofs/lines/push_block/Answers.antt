use Rattle.std.proofs.Common.{rules}
use Rattle.lq_output.specs.Cells.{plain_line}
use Rattle.lq_output.proofs.LineLemmas.{no_room, place_of_none}
use Rattle.lq_output.proofs.lines.push_block.Goals as goal

pub returns-clause-stop : goal.returns-clause-stop
returns-clause-stop g c none row later is gives =
    no_room _ _ _ _ _ (search rules)
    (place_of_none (λ row. plain_line c.args.separators (g.T.LineTexts.cell c.args.texts.now row)) c.args.rows.now _ _ _ _ _
    none (search rules) (search rules) c.write_lines-written.ensures.lines)
    (search rules)
    (c.write_lines-written.ensures.stop row later (search rules) gives)
