use Rattle.std.proofs.Common.{map, take}
use Rattle.lq_records.specs.Contacts.{AreListsOf, lists_of}
use Rattle.lq_records.proofs.monitored.gather.Given as goal

abbrev pub invariant-loop-item : goal.invariant-loop-item
invariant-loop-item g l =
    AreListsOf l.all.lists.items l.all.places.items (map (λ item. lists_of (g.T.MonitoredObject.fields_of item)) (take l.item-index l.items))
