use Rattle.std.proofs.Common.{rules}
use Rattle.lq_workload.specs.Checks.{after_check, next_check}
use Rattle.lq_workload.specs.Draws.{after_draws}
use Rattle.lq_workload.proofs.check.Checks.next.Goals as goal

pub returns-clause-check : goal.returns-clause-check
unfolding next_check after_draws
returns-clause-check c = search rules

pub returns-clause-after : goal.returns-clause-after
unfolding next_check after_check after_draws
returns-clause-after c = search rules
