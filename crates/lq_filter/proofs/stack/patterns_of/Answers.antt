use Rattle.std.proofs.Common.{rules, tests}
use Rattle.std.proofs.lemmas.Iterator.{YieldsList-from_slice}
use Rattle.std.proofs.lemmas.Iterator.Consumers.{YieldsList-at, YieldsList-from_filter, count_from_yields_List}
use Rattle.lq_filter.specs.Trees.{has_pattern}
use Rattle.lq_filter.proofs.stack.patterns_of.Goals as goal

pub returns : goal.returns
returns c = count_from_yields_List c.filter.result _ c.count.ensures.ran
    (YieldsList-from_filter _ (λ node. has_pattern node.header)
    (YieldsList-at c.filter.ensures.source (YieldsList-from_slice c.args.nodes.now c.iter.ensures.rest))
    c.filter.ensures.closure (λ x r q k. search (rules, tests)))
