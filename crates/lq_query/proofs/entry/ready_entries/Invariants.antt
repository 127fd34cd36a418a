use Rattle.std.proofs.Common.{◌≡◌, ◌++◌, drop, map}
use Rattle.lq_query.specs.Counting.{entry_of_ready}
use Rattle.lq_query.proofs.entry.ready_entries.Given as goal

abbrev pub invariant-loop-entry : goal.invariant-loop-entry
invariant-loop-entry l = map entry_of_ready l.entries.items ++ drop l.entry-index l.stats ≡ l.stats
