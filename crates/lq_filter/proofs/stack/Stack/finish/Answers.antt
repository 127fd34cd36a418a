use Rattle.lq_filter.specs.Linked.{headers_of_nodes}
use Rattle.lq_filter.proofs.PrefixLemmas.{are_trees}
use Rattle.lq_filter.proofs.stack.Stack.finish.Goals as goal

pub returns-clause-trees : goal.returns-clause-trees
returns-clause-trees c = rw (← c.self.view_is) (are_trees (headers_of_nodes c.self.inside.nodes.items) c.self.invariant.trees_before)
