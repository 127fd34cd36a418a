use Rattle.std.proofs.Common.{◌∙◌, arith}
use Rattle.lq_output.proofs.LineLemmas.{written_line}
use Rattle.lq_output.proofs.lines.write_line.Goals as goal

pub returns-clause-line : goal.returns-clause-line
returns-clause-line c =
    written_line c.args.bytes.now c.copy_from_slice.new.self c.args.text.now c.args.at _ c.args.end
    (c.copy_from_slice.ensures.after ∙ c.as_bytes-text.ensures.value) (omega (arith, c.as_bytes-text.ensures.len)) (omega (arith, c.if-text-bytes.false))
