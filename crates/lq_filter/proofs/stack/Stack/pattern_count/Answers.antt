use Rattle.std.proofs.Common.{◌∙◌}
use Rattle.lq_filter.proofs.TreeLemmas.{pattern_nodes}
use Rattle.lq_filter.proofs.stack.Stack.pattern_count.Goals as goal

pub returns : goal.returns
returns c = c.patterns_of.ensures ∙ rw (c.deref.ensures.value, ← c.self.view_is) (pattern_nodes c.self.inside.nodes.items)
