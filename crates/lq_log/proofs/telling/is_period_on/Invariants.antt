use Rattle.std.proofs.Common.{◌≡◌, drop}
use Rattle.lq_log.specs.LastTold.{is_period_on, last_told, period_told}
use Rattle.lq_log.proofs.telling.is_period_on.Given as goal

abbrev pub invariant-loop-entry : goal.invariant-loop-entry
invariant-loop-entry l = last_told (period_told l.name) l.known (drop l.entry-index l.log) ≡ is_period_on l.log l.name
