use Rattle.std.proofs.Common.{◌≡◌, ◌+◌, length, drop, filter}
use Rattle.lq_columns.specs.Counts.{counts_at}
use Rattle.lq_columns.specs.Hosts.{seen_of_hosts}
use Rattle.lq_columns.proofs.seen.SeenServices.count_of_hosts.Given as goal

abbrev pub invariant-loop-id : goal.invariant-loop-id
invariant-loop-id l =
    l.count + length (filter (counts_at l.self.statuses.now l.which) (seen_of_hosts l.self.base.now l.self.view.now (drop l.id-index l.hosts)))
    ≡ length (filter (counts_at l.self.statuses.now l.which) (seen_of_hosts l.self.base.now l.self.view.now l.hosts))
