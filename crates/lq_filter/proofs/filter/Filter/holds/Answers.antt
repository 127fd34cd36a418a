use Rattle.std.proofs.Common.{◌≡◌, ◌∙◌}
use Rattle.std.proofs.lemmas.Result.{IfOk-weaker}
use Rattle.lq_filter.specs.Trees.{holds, truth_on}
use Rattle.lq_filter.proofs.PrefixLemmas.{holds_trees}
use Rattle.lq_filter.proofs.filter.Filter.holds.Goals as goal

pub returns-clause-trees : goal.returns-clause-trees
returns-clause-trees g c = λ trees are.
    let truth_of = truth_on (g.C.Cells.cell c.args.cells.now) in
    IfOk-weaker c.holds.result (λ chosen. chosen ≡ holds truth_of c.args.self.now) _
    (λ chosen is. is ∙ holds_trees truth_of c.args.self.now trees are)
    (rw c.in_ok-ready.ensures at c.holds.ensures.value)
