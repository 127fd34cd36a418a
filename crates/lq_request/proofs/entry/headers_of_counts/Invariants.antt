use Rattle.std.proofs.Common.{◌≡◌, ◌+◌, ◌++◌, option_map, length}
use Rattle.std.specs.Prelude.{All}
use Rattle.lq_filter.specs.Trees.{height}
use Rattle.lq_request.specs.Stats.{IsEntry, headers_of_counts}
use Rattle.lq_request.proofs.entry.headers_of_counts.Given as goal

abbrev pub invariant-entries : goal.invariant-entries
invariant-entries l = record {
  found : option_map (λ later. l.headers ++ later) (headers_of_counts l.rest.items) ≡ headers_of_counts l.fn.entries.items;
  trees : height l.headers + length l.rest.items ≡ length l.fn.entries.items;
  left : All IsEntry l.rest.items;
}

abbrev pub decreases-entries : goal.decreases-entries
decreases-entries l = length l.rest.items
