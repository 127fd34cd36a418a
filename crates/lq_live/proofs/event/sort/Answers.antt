use Rattle.std.proofs.Common.{rules}
use Rattle.std.proofs.lemmas.List.Sorted.{answers_always}
use Rattle.lq_live.specs.Downtimes.{Event}
use Rattle.lq_live.specs.declared.event.EventOrder.{EventOrder}
use Rattle.lq_live.proofs.event.sort.Goals as goal

abbrev order_of : Event → EventOrder
order_of event = record { moment = event.moment; starts = event.starts; id = event.id }

pub returns-clause-order : goal.returns-clause-order
returns-clause-order c = c.sort_unstable_by_key.ensures.sorted order_of (answers_always _ _ _ (λ f a r g h. search rules))
