use Rattle.std.proofs.Common.{rules}
use Rattle.lq_live.proofs.Counts.{counted_at, first_fits}
use Rattle.lq_live.proofs.depths.Depths.of.Goals as goal

pub count-requires : goal.count-requires
count-requires c =
    first_fits c.args.base.now c.args.downtimes.now c.loop-downtime.downtime-index c.loop-downtime.depths _ c.loop-downtime-test.true (search rules) c.loop-downtime.invariant

pub loop-downtime-preserved : goal.loop-downtime-preserved
loop-downtime-preserved c =
    rw c.count.ensures
    (counted_at c.args.base.now c.args.downtimes.now c.loop-downtime.downtime-index c.downtime-item.result c.loop-downtime.depths c.loop-downtime-test.true (search rules) c.loop-downtime.invariant)
