use Rattle.std.proofs.Common.{rules}
use Rattle.std.specs.Arc.{arc_value}
use Rattle.lq_live.proofs.DueLines.{none_taken, one_taken, taken_fits}
use Rattle.lq_live.proofs.context.StepContext.push_due.Goals as goal

pub take-crosses-requires : goal.take-crosses-requires
take-crosses-requires c =
    taken_fits (arc_value c.args.self.live.now.base) c.deref-event-items.result.now c.loop-event.event-index c.args.self.live.now.downtimes.items c.args.self.live.now.next_downtime
    c.args.edits.now.items c.loop-event.edits.items c.loop-event.depths c.event-item.result.object c.loop-event.invariant (search rules)

pub loop-event-preserved : goal.loop-event-preserved
loop-event-preserved c =
    rw c.take-crosses.ensures.changed
    (one_taken (arc_value c.args.self.live.now.base) c.deref-event-items.result.now c.loop-event.event-index c.args.self.live.now.downtimes.items c.args.self.live.now.next_downtime
    c.args.edits.now.items c.loop-event.edits.items c.push_event.new.edits.items c.loop-event.depths c.event-item.result c.take-crosses.result
    c.loop-event-test.true (search rules) c.loop-event.invariant c.take-crosses.ensures.crosses c.in_ok-push_event.ensures)

pub loop-event-init : goal.loop-event-init
loop-event-init c =
    none_taken (arc_value c.args.self.live.now.base) c.args.self.second c.deref-event-items.result.now c.args.self.live.now.downtimes.items c.args.self.live.now.next_downtime
    c.args.edits.now.items c.in_ok-depths.depths (search rules) (search rules) c.requires.ids.downtimes c.requires.order
