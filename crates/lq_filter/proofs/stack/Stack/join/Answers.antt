use Rattle.std.proofs.Common.{◌≡◌, length, vec_len, sym, ap, ◌∙◌, arith}
use Rattle.lq_filter.proofs.TreeLemmas.{stacked_join}
use Rattle.lq_filter.proofs.stack.Stack.join.Goals as goal

pub invariant_of-self-2 : goal.invariant_of-self-2
invariant_of-self-2 c =
    let size : vec_len c.self.inside.nodes ≡ length c.self.inside.nodes.items = sym c.deref.ensures.len ∙ ap length c.deref.ensures.value in
    let ok = rw (c.len.ensures, size) at c.in_ok-add.ensures.ok in
    let earlier = rw c.deref.ensures.value at c.start_of.ensures.earlier in
    let within = rw c.deref.ensures.value at c.start_of.ensures.within in
    rw ok (stacked_join c.self.inside.nodes.items c.self.inside.height (record { count = c.args.n; any = c.args.or }) c.start_of.result c.self.invariant (omega arith) within earlier)
