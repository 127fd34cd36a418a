use Rattle.std.proofs.Common.{subst, sym}
use Rattle.lq_request.specs.Filters.{IsFilter}
use Rattle.lq_request.proofs.FilterLemmas.{joined_whole}
use Rattle.lq_request.proofs.filters.Filters.join.Goals as goal

pub push_group-requires-clause-filter : goal.push_group-requires-clause-filter
push_group-requires-clause-filter c =
    subst IsFilter (sym c.in-Ok.ensures.ok) (joined_whole c.in_ok-headers.headers c.args.count c.args.any c.in_ok-headers.ensures.whole)
