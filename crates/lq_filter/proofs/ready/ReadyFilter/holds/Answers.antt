use Rattle.std.proofs.Common.{◌≡◌, false, length, take, sym, ◌∙◌}
use Rattle.std.proofs.lemmas.Result.{IfOk-weaker}
use Rattle.lq_filter.specs.Linked.{truths_before}
use Rattle.lq_filter.specs.Trees.{holds, some_or_all, truth_on}
use Rattle.lq_filter.proofs.TreeLemmas.{all_trees}
use Rattle.lq_filter.proofs.ready.ReadyFilter.holds.Goals as goal

pub returns-clause-value : goal.returns-clause-value
returns-clause-value g c =
    let truth_of = truth_on (g.C.Cells.cell c.args.cells.now) in
    let count = c.len-count.result in
    let steps = c.deref_mut.result.now in
    let all_of : count ≡ length steps = c.len-count.ensures ∙ sym c.deref_mut.ensures.len in
    let all : some_or_all false (take count (truths_before truth_of steps count)) ≡ holds truth_of c.args.self.now
    = rw (all_of, c.deref_mut.ensures.value, ← c.self.view_is) (all_trees truth_of c.self.inside.steps.items) in
    IfOk-weaker c.joined_at.result (λ chosen. chosen ≡ some_or_all false (take count (truths_before truth_of steps count))) _ (λ chosen is. is ∙ all) c.joined_at.ensures.value
