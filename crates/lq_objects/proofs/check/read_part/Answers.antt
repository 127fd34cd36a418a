use Rattle.std.proofs.Common.{subst}
use Rattle.lq_objects.specs.Checks.{Checks}
use Rattle.lq_objects.proofs.CheckLemmas.{opened_fault-part}
use Rattle.lq_objects.proofs.check.read_part.Goals as goal

pub returns-clause-fault : goal.returns-clause-fault
returns-clause-fault c =
    subst (Checks c.read.result)
    (opened_fault-part _ _ _ _ _ _ _ _ c.in-Some.ensures.cases.0 c.in-Some-opened_word.ensures c.of_word.ensures c.number.ensures)
    c.read.ensures.fault
