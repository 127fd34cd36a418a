use Rattle.std.proofs.Common.{◌∷◌, [], length, ap, arith, length-append}
use Rattle.lq_filter.specs.declared.header.Header.TheVariants as header
use Rattle.lq_filter.proofs.TreeLemmas.{height_within, stacked_test}
use Rattle.lq_filter.proofs.stack.Stack.push.Goals as goal

pub overflow_add-self : goal.overflow_add-self
overflow_add-self c =
    omega (arith, c.self.invariant.count, height_within c.self.inside.nodes.items, c.in_ok-add.ensures.fits, ap length c.in_ok-add.ensures.ok, length-append c.self.inside.nodes.items (record { header = header.Test c.args.t; size = 1 } ∷ []))

pub invariant_of-self-2 : goal.invariant_of-self-2
invariant_of-self-2 c = rw c.in_ok-add.ensures.ok (stacked_test c.self.inside.nodes.items c.self.inside.height c.args.t c.self.invariant)
