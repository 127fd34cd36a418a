use Rattle.std.proofs.Common.{Ok, ◌∙◌, rules, tests}
use Rattle.std.proofs.lemmas.Iterator.{items_from_collect, YieldsList-from_map, YieldsList-from_slice}
use Rattle.std.proofs.lemmas.Iterator.Consumers.{YieldsList-at}
use Rattle.lq_objects.proofs.places.ids_at.Goals as goal

pub returns : goal.returns
returns g c =
    let collected = items_from_collect {E = Unit {0}} (Ok c.in_ok-ids.ids) c.in_ok-ids.ensures.ran
    (YieldsList-from_map _ g.T.Id.id_at (YieldsList-at c.map.ensures.source (YieldsList-from_slice _ c.iter.ensures.rest))
    c.map.ensures.closure (λ x r q k. search (rules, tests))) in
    c.from_vec.ensures ∙ collected
