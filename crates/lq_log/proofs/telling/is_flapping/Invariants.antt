use Rattle.std.proofs.Common.{◌≡◌, drop}
use Rattle.lq_log.specs.LastTold.{flapping_told, is_flapping, last_told}
use Rattle.lq_log.proofs.telling.is_flapping.Given as goal

abbrev pub invariant-loop-entry : goal.invariant-loop-entry
invariant-loop-entry l = last_told (flapping_told l.base l.about) l.known (drop l.entry-index l.log) ≡ is_flapping l.base l.log l.about
