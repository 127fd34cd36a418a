use Rattle.std.proofs.Common.{◌∙◌}
use Rattle.std.proofs.KnownBytes.{Appends-trans}
use Rattle.lq_program.proofs.ReportLemmas.{line_reported, whole_rest}
use Rattle.lq_program.proofs.fault.report_line.Goals as goal

pub returns-clause-ok : goal.returns-clause-ok
returns-clause-ok g c =
    Appends-trans _ _ _ _ _ c.in_ok-write_all.ensures.ok
    (line_reported _ _ _ _ _ _ _ c.in_ok-write_parts.ensures.ok c.in_ok-write_all-2.ensures.ok
    (whole_rest _ 20 _ c.write_digits-start.array_long ∙ c.write_digits-start.ensures.digits) c.as_bytes.ensures.value)
