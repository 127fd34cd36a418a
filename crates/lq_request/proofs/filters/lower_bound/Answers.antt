use Rattle.std.proofs.Common.{sym, ◌∙◌, rules, tests}
use Rattle.std.proofs.lemmas.Iterator.{YieldsList-from_slice}
use Rattle.std.proofs.lemmas.Iterator.Adapters.{option_map_id}
use Rattle.std.proofs.lemmas.Iterator.Consumers.{YieldsList-at, YieldsList-from_filter_map, max_from_yields_List}
use Rattle.lq_request.proofs.filters.lower_bound.Goals as goal

pub returns : goal.returns
returns c = sym (option_map_id _)
    ∙ max_from_yields_List _ _ c.max.ensures.ran
    (YieldsList-from_filter_map _ _
    (YieldsList-at c.filter_map-2.ensures.source (YieldsList-from_filter_map _ _ (YieldsList-from_slice c.args.filters.now (cc)) c.filter_map.ensures.closure (λ x r q k. search (rules, tests))))
    c.filter_map-2.ensures.closure (λ x r q k. search (rules, tests)))
