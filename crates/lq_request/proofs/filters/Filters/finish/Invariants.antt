use Rattle.std.proofs.Common.{◌≡◌, ◌++◌}
use Rattle.lq_request.specs.Window.{row_headers}
use Rattle.lq_request.proofs.filters.Filters.finish.Given as goal

abbrev pub invariant-loop-filter : goal.invariant-loop-filter
invariant-loop-filter l = l.headers ++ row_headers l.filter-iterator.rest.items ≡ row_headers l.fn.self
