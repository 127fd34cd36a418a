use Rattle.lq_live.proofs.Settled.{depth_settled}
use Rattle.lq_live.proofs.context.StepContext.depth.Goals as goal

pub returns : goal.returns
returns c = rw (c.count_at.ensures, c.deref.ensures.value) (depth_settled c.args.self.second c.args.object c.args.self.live.now.downtimes.items)
