use Rattle.lq_live.proofs.Settled.{find_settled}
use Rattle.lq_live.proofs.context.StepContext.find.Goals as goal

pub returns : goal.returns
returns c = rw (c.find.ensures, c.deref.ensures.value) (find_settled c.args.self.second c.args.kind c.args.id c.args.self.live.now.downtimes.items)
