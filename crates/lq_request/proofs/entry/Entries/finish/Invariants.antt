use Rattle.std.proofs.Common.{◌≡◌, ◌++◌, map, length}
use Rattle.std.specs.Prelude.{All}
use Rattle.lq_request.specs.Stats.{IsEntry, IsStat, entry_of_draft}
use Rattle.lq_request.proofs.entry.Entries.finish.Given as goal

abbrev pub invariant-entries : goal.invariant-entries
invariant-entries l = record {
  same : l.stats ++ map entry_of_draft l.rest.items ≡ map entry_of_draft l.fn.self;
  done : All IsStat l.stats;
  left : All IsEntry l.rest.items;
}

abbrev pub decreases-entries : goal.decreases-entries
decreases-entries l = length l.rest.items
