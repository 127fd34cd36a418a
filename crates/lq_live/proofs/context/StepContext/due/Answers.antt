use Rattle.lq_live.specs.Kept.{state_of}
use Rattle.lq_live.proofs.DueEvents.{due_sorted}
use Rattle.lq_live.proofs.context.StepContext.due.Goals as goal

pub returns : goal.returns
returns c =
    due_sorted c.args.self.second (state_of c.args.self.live.now) c.sort.new.events.items c.requires.ids
    (rw (c.in_ok-events.ensures, c.deref.ensures.value) at c.sort.ensures.each) c.sort.ensures.order
