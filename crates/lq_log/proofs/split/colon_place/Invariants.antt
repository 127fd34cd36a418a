use Rattle.std.proofs.Common.{◌≡◌, ◌-◌, ◌≤◌, length, take, drop}
use Rattle.lq_log.specs.Entries.{parts_at_colon}
use Rattle.lq_log.proofs.SplitLemmas.{grown}
use Rattle.lq_log.proofs.split.colon_place.Given as goal

abbrev pub invariant-places : goal.invariant-places
invariant-places l = record {
  within : l.place ≤ length l.text;
  parts : grown (take l.place l.text) (parts_at_colon (drop l.place l.text)) ≡ parts_at_colon l.text;
}

abbrev pub decreases-places : goal.decreases-places
decreases-places l = length l.text - l.place
