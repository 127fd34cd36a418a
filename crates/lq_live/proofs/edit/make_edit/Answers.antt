use Rattle.std.proofs.Common.{not, arith, ◌+◌}
use Rattle.lq_live.specs.Effects.{has_id_and_kind}
use Rattle.lq_live.proofs.Ahead.{added_first, filter_from}
use Rattle.lq_live.proofs.Apply.{room_less}
use Rattle.lq_live.proofs.edit.make_edit.Goals as goal

pub returns-in-Now-clause-room : goal.returns-in-Now-clause-room
returns-in-Now-clause-room c = λ n room. c.move_on.ensures.room n (room_less c.args.live.now (n + 1) n (omega arith) room)

pub returns-in-AddDowntime-clause-index : goal.returns-in-AddDowntime-clause-index
returns-in-AddDowntime-clause-index c = record {
  moment =
      rw (c.min-live.ensures, c.push_reserved-in-AddDowntime.ensures.items)
      (added_first c.args.live.now.next_moment c.next_moment.result c.in-AddDowntime.downtime c.args.live.now.downtimes.items c.requires.index.moment c.next_moment.ensures.from);
  told = c.requires.index.told;
}

pub returns-in-RemoveDowntime-clause-index : goal.returns-in-RemoveDowntime-clause-index
returns-in-RemoveDowntime-clause-index c = record {
  moment = rw c.remove-in-RemoveDowntime.ensures.kept
      (filter_from c.args.live.now.next_moment (λ downtime. not (has_id_and_kind c.in-RemoveDowntime.kind c.in-RemoveDowntime.id downtime.id downtime.object)) c.args.live.now.downtimes.items c.requires.index.moment);
  told = c.requires.index.told;
}
