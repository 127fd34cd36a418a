use Rattle.lq_program.proofs.WorkloadLemmas.{nothing_yet}
use Rattle.lq_program.proofs.load.load.Goals as goal

pub returns-in_default-clause-err : goal.returns-in_default-clause-err
returns-in_default-clause-err g c = nothing_yet _ _ c.line_of.ensures.there
