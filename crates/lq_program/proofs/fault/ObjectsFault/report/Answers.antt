use Rattle.std.proofs.Common.{subst, ◌++◌, codes, OnOk}
use Rattle.std.specs.Io.KnownBytes.{Appends}
use Rattle.lq_program.specs.Faults.{at_line}
use Rattle.lq_program.proofs.fault.ObjectsFault.report.Goals as goal

pub returns-in-At-clause-ok : goal.returns-in-At-clause-ok
returns-in-At-clause-ok g c =
    rw c.in-At.is
    (subst (λ text. OnOk c.report_line.result (Appends (g.K.Sink.held c.args.sink.now) (g.K.Sink.held c.report_line.new.sink)
    (codes "objects: line " ++ at_line c.in-At.line text))) c.text.ensures c.report_line.ensures.ok)
