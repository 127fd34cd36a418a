use Rattle.lq_live.proofs.Settled.{depth_without}
use Rattle.lq_live.proofs.context.StepContext.depth_without.Goals as goal

pub returns : goal.returns
returns c =
    rw (c.count_without.ensures, c.deref.ensures.value)
    (depth_without c.args.self.second c.args.removal.kind c.args.removal.id c.args.removal.object c.args.self.live.now.downtimes.items)
