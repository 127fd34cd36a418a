use Rattle.std.proofs.Common.{rules}
use Rattle.lq_records.proofs.OwnedLemmas.{one_place_more}
use Rattle.lq_records.proofs.owned.lists_by_owner.Goals as goal

pub loop-place-preserved : goal.loop-place-preserved
loop-place-preserved g c =
    one_place_more g.T.MonitoredObject.owner_of c.args.items.now c.loop-place.place c.index-items-place.result c.loop-place.lists.items c.add_place.new.lists.items (search rules)
    c.loop-place.invariant (search rules)
