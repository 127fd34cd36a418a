use Rattle.std.proofs.Common.{◌≡◌, true, length, ap, sym, ◌∙◌, arith, rules}
use Rattle.std.proofs.lemmas.List.{take_at}
use Rattle.std.proofs.lemmas.Result.{on_ok_weaker}
use Rattle.lq_filter.specs.Linked.{IsTree}
use Rattle.lq_filter.specs.Trees.{HasColumn, truth_on}
use Rattle.lq_filter.proofs.MarkLemmas.{all_kept, any_kept}
use Rattle.lq_filter.proofs.StepLemmas.{column_at, negated_some}
use Rattle.lq_filter.proofs.marks.+marks.Goals as goal

pub keep_all-keep_tree-requires : goal.keep_all-keep_tree-requires
keep_all-keep_tree-requires g t c κs within =
    let same = c.keep_all.ensures.same in
    (search rules, (search rules, (search rules, (rw same c.requires.linked, (omega arith, (rw same c.requires.within, (rw same c.requires.columns, omega arith)))))))

pub keep_all-returns-clause-kept : goal.keep_all-returns-clause-kept
keep_all-returns-clause-kept g t c =
    let end = c.args.trees.end in
    let tree : IsTree c.args.steps.now end c.size.result = rw c.size.ensures (c.requires.linked.each end c.index-steps-trees.result (omega arith) c.requires.within) in
    on_ok_weaker c.keep_tree.result
    (all_kept (λ row. truth_on (g.S.Scan.cell c.args.block.now.scan.now row)) c.args.block.now.rows.now c.args.steps.now end c.size.result c.args.trees.count (omega arith) tree c.args.marks.now c.keep_all.new.marks c.keep_tree.new.marks c.in_ok-keep_all.ensures.kept)
    (rw c.keep_all.ensures.same at c.keep_tree.ensures.kept)

pub keep_any-keep_tree-requires : goal.keep_any-keep_tree-requires
keep_any-keep_tree-requires g t c κs within =
    let same = c.keep_any.ensures.same in
    let left : length c.unmark.new.marks ≡ c.in_ok-left.left.len = omega arith in
    let long : length c.deref_mut-2.result.now ≡ length c.args.block.now.rows.now
    = ap length (c.deref_mut-2.ensures.value ∙ take_at c.unmark.new.marks _ c.in_ok-left.left.len left) ∙ left ∙ c.in_ok-left.ensures.len ∙ c.requires.marked in
    (search rules, (search rules, (search rules, (rw same c.requires.linked, (omega arith, (rw same c.requires.within, (rw same c.requires.columns, long)))))))

pub keep_any-returns-clause-kept : goal.keep_any-returns-clause-kept
keep_any-returns-clause-kept g t c =
    let end = c.args.trees.end in
    let tree : IsTree c.args.steps.now end c.size.result = rw c.size.ensures (c.requires.linked.each end c.index-steps-trees.result (omega arith) c.requires.within) in
    let left : length c.unmark.new.marks ≡ c.in_ok-left.left.len = omega arith in
    let left_is : c.deref_mut-2.result.now ≡ c.unmark.new.marks = c.deref_mut-2.ensures.value ∙ take_at c.unmark.new.marks _ c.in_ok-left.left.len left in
    let met_is : c.deref.result.now ≡ c.keep_tree.new.marks
    = c.deref.ensures.value ∙ take_at c.keep_tree.new.marks _ c.in_ok-left.left.len (c.keep_tree.auto.marks ∙ ap length left_is ∙ left) in
    any_kept (λ row. truth_on (g.S.Scan.cell c.args.block.now.scan.now row)) c.args.block.now.rows.now c.args.steps.now end c.size.result c.args.trees.count (omega arith) tree
    c.args.marks.now c.keep_any.new.marks c.unmark.new.marks c.keep_tree.new.marks c.mark.new.marks (omega arith) c.in_ok-keep_any.ensures.kept
    (rw (c.deref_mut.ensures.value, c.in_ok-left.ensures.items) at c.unmark.ensures)
    (rw (c.keep_any.ensures.same, left_is) at c.in_ok-keep_tree.ensures.kept)
    (rw met_is at c.mark.ensures)

pub keep_tree-keep_tree-requires : goal.keep_tree-keep_tree-requires
keep_tree-keep_tree-requires g t c κs within =
    let negated = sym c.is_negation.ensures ∙ c.if-is_negation.true in
    let some = negated_some (λ _. true) c.args.steps.now c.args.place c.index-steps-place-2.result c.requires.some c.requires.within c.requires.linked negated in
    let long : length c.deref_mut.result.now ≡ length c.args.block.now.rows.now = c.deref_mut.ensures.len ∙ c.in_ok-met.ensures.len ∙ c.requires.marked in
    (search rules, (search rules, (search rules, (c.requires.linked, (some, (omega arith, (c.requires.columns, long)))))))

pub keep_tree-keep_met-requires-clause-columns : goal.keep_tree-keep_met-requires-clause-columns
keep_tree-keep_met-requires-clause-columns g t c = λ place row below.
    column_at (HasColumn (g.S.Scan.has c.args.block.now.scan.now _)) c.args.steps.now c.args.place c.index-steps-place-3.result c.requires.some c.requires.within (c.requires.columns place row below)
