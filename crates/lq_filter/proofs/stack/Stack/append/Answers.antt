use Rattle.std.proofs.Common.{length, ap, arith, length-append}
use Rattle.lq_filter.proofs.AppendLemmas.{height_both, stacked_both}
use Rattle.lq_filter.proofs.TreeLemmas.{height_within}
use Rattle.lq_filter.proofs.stack.Stack.append.Goals as goal

pub overflow_add-self : goal.overflow_add-self
overflow_add-self c =
    omega (arith, c.self.invariant.count, c.later.invariant.count, height_within c.self.inside.nodes.items, height_within c.later.inside.nodes.items, c.in_ok-add_all.ensures.fits, ap length c.in_ok-add_all.ensures.ok, length-append c.self.inside.nodes.items c.later.inside.nodes.items)

pub invariant_of-self-2 : goal.invariant_of-self-2
invariant_of-self-2 c = rw c.in_ok-add_all.ensures.ok (stacked_both c.self.inside.nodes.items c.later.inside.nodes.items c.self.inside.height c.later.inside.height c.self.invariant c.later.invariant)

pub returns-clause-trees : goal.returns-clause-trees
returns-clause-trees c = rw (c.in_ok-add_all.ensures.ok, ← c.self.view_is, ← c.later.view_is) (height_both c.self.inside.nodes.items c.later.inside.nodes.items c.later.invariant.trees_before)
