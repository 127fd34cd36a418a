use Rattle.std.proofs.Common.{◌+◌, ◌≤◌, length, sym, subst, ap, arith}
use Rattle.lq_log.specs.Book.{last_time}
use Rattle.lq_live.specs.Kept.{Timely, state_of}
use Rattle.lq_live.proofs.Apply.{room_less, timely_next}
use Rattle.lq_live.proofs.edit.play.Goals as goal

pub edits-preserved : goal.edits-preserved
edits-preserved c =
    let longer : length c.next.new.self.rest.items + 1 ≤ length c.edits.edit-iterator.rest.items = omega (arith, ap length c.in-Some.ensures.steps.0) in
    record {
      left = rw c.make_edit.ensures.state (rw c.in-Some.ensures.steps.0 at c.edits.invariant.left);
      timely = subst (λ s. Timely (last_time s.log) c.next.new.self.rest.items) (sym c.make_edit.ensures.state)
          (timely_next c.in-Some.edit c.next.new.self.rest.items (state_of c.edits.live) (rw c.in-Some.ensures.steps.0 at c.edits.invariant.timely));
      room = c.make_edit.ensures.room (length c.next.new.self.rest.items) (room_less c.edits.live _ _ longer c.edits.invariant.room);
      index = c.make_edit.ensures.index;
    }
