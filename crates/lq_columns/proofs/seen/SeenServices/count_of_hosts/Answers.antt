use Rattle.std.proofs.Common.{arith}
use Rattle.lq_columns.proofs.Scopes.{one_host_more}
use Rattle.lq_columns.proofs.seen.SeenServices.count_of_hosts.Goals as goal

pub overflow_add-count : goal.overflow_add-count
overflow_add-count c =
    let after = one_host_more c.args.self.now.base.now c.args.self.now.statuses.now c.args.self.now.view.now c.args.which c.args.hosts.now c.loop-id.id-index _ _ c.loop-id.count
    c.count_at-count.result _ c.loop-id-test.true c.owned_by.ensures c.count_at-count.ensures c.loop-id.invariant in
    omega (arith, after, c.requires)

pub loop-id-preserved : goal.loop-id-preserved
loop-id-preserved c =
    one_host_more c.args.self.now.base.now c.args.self.now.statuses.now c.args.self.now.view.now c.args.which c.args.hosts.now c.loop-id.id-index _ _ c.loop-id.count
    c.count_at-count.result _ c.loop-id-test.true c.owned_by.ensures c.count_at-count.ensures c.loop-id.invariant
