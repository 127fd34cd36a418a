use Rattle.std.proofs.Common.{◌≡◌, ◌<◌, ap, ◌∙◌, arith}
use Rattle.lq_filter.specs.Linked.{IsTree, SizedHeader}
use Rattle.lq_filter.proofs.TreeLemmas.{begin_earlier, begun}
use Rattle.lq_filter.proofs.stack.start_of.Goals as goal

pub overflow_sub-start : goal.overflow_sub-start
overflow_sub-start c = omega (arith, begun c.args.nodes.now c.args.count c.loop.counter c.loop.start c.requires.enough (omega arith) c.loop.invariant.earlier)

pub overflow_sub-start-in-loop : goal.overflow_sub-start-in-loop
overflow_sub-start-in-loop c =
    let some : 0 < c.loop.start = begun c.args.nodes.now c.args.count c.loop.counter c.loop.start c.requires.enough (omega arith) c.loop.invariant.earlier in
    let tree = c.requires.linked.each c.loop.start c.index-nodes-start.result some c.loop.invariant.within in
    rw (c.size-start.ensures) (rw (← c.index-nodes-start.is) at tree.within)

pub loop-preserved : goal.loop-preserved
loop-preserved c =
    let some : 0 < c.loop.start = begun c.args.nodes.now c.args.count c.loop.counter c.loop.start c.requires.enough (omega arith) c.loop.invariant.earlier in
    let size : c.size-start.result ≡ _ = c.size-start.ensures ∙ ap (λ (node : SizedHeader). node.size) c.index-nodes-start.is in
    let tree : IsTree c.args.nodes.now c.loop.start c.size-start.result = rw size (c.requires.linked.each c.loop.start c.index-nodes-start.result some c.loop.invariant.within) in
    record {
      within = omega (arith, c.loop.invariant.within);
      earlier = begin_earlier c.args.nodes.now c.loop.counter c.loop.start c.size-start.result tree c.loop.invariant.earlier;
    }
