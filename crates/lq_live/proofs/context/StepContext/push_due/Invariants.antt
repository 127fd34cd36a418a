use Rattle.std.specs.Arc.{arc_value}
use Rattle.lq_live.proofs.DueLines.{Taken}
use Rattle.lq_live.proofs.context.StepContext.push_due.Given as goal

abbrev pub invariant-loop-event : goal.invariant-loop-event
invariant-loop-event l =
    Taken (arc_value l.self.live.now.base) l.event-items l.event-index l.self.live.now.downtimes.items l.self.live.now.next_downtime l.initial.edits.items l.edits.items l.depths
