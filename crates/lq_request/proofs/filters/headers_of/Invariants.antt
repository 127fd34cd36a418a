use Rattle.std.proofs.Common.{◌≡◌, ℕ, ◌+◌, ◌++◌, length}
use Rattle.std.specs.Prelude.{All}
use Rattle.lq_request.specs.Filters.{AreWhole, IsFilter}
use Rattle.lq_request.specs.Window.{headers_of}
use Rattle.lq_request.proofs.filters.headers_of.Given as goal

abbrev pub invariant-loop-filter : goal.invariant-loop-filter
invariant-loop-filter l = record {
  found : l.headers ++ headers_of l.filter-iterator.rest.items ≡ headers_of l.fn.filters.items;
  whole : (count : ℕ) × (count + length l.filter-iterator.rest.items ≡ length l.fn.filters.items) × AreWhole l.headers count;
  left : All IsFilter l.filter-iterator.rest.items;
}
