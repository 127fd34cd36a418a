use Rattle.std.proofs.Common.{◌≡◌, ◌∷◌, [], ◌-◌, ◌<◌, None, take, length, true, false, not, sym, ◌∙◌, arith, rules, get_or}
use Rattle.std.proofs.lemmas.List.{get_or_default}
use Rattle.std.proofs.lemmas.Result.{IfOk-weaker}
use Rattle.lq_filter.specs.Linked.{IsTree, truths_before}
use Rattle.lq_filter.specs.Trees.{HasColumn, is_negation, join_of, some_or_all, truth_on}
use Rattle.lq_filter.proofs.StepLemmas.{column_at, joined_last, negated_some, not_same, test_is, truth_of_test}
use Rattle.lq_filter.proofs.ready.+truth.Goals as goal

pub joined_at-returns-clause-value : goal.joined_at-returns-clause-value
joined_at-returns-clause-value g t c =
    let truth_of = truth_on (g.C.Cells.cell c.args.row.now.cells.now) in
    let steps = c.args.steps.now in
    let place = c.args.place in
    let tree : IsTree steps place c.size.result = rw c.size.ensures (c.requires.linked.each place c.index-steps-place.result (omega arith) c.requires.within) in
    let undecided : some_or_all c.args.join.any (take (c.args.join.count - 1) (truths_before truth_of steps (place - c.size.result))) ≡ not c.args.join.any
    = rw (← c.in_ok-joined_at.ensures.value) (not_same c.in_ok-joined_at.field-0 c.args.join.any c.if-branch-join.false) in
    IfOk-weaker c.truth_at.result (λ truth. take 1 (truths_before truth_of c.joined_at.new.steps place) ≡ truth ∷ []) _
    (λ truth first. joined_last (truths_before truth_of steps place) (truths_before truth_of steps (place - c.size.result)) c.args.join.count c.args.join.any truth
    (omega arith) (rw c.joined_at.ensures.same at first) (tree.earlier truth_of) undecided)
    c.truth_at.ensures.value

pub truth_at-truth_at-requires : goal.truth_at-truth_at-requires
truth_at-truth_at-requires g t c κs within =
    let negated = sym c.is_negation.ensures ∙ c.if-is_negation.true in
    let some = negated_some (λ _. true) c.args.steps.now c.args.place c.index-steps-place-2.result c.requires.some c.requires.within c.requires.linked negated in
    (search rules, (search rules, (c.requires.linked, (some, (omega arith, c.requires.columns)))))

pub truth_at-is_met-requires : goal.truth_at-is_met-requires
truth_at-is_met-requires g t c = column_at (HasColumn (g.C.Cells.has c.args.row.now.cells.now)) c.args.steps.now c.args.place c.index-steps-place-3.result c.requires.some c.requires.within c.requires.columns

pub truth_at-returns-clause-value : goal.truth_at-returns-clause-value
truth_at-returns-clause-value g t c =
    let steps = c.args.steps.now in
    let node = c.index-steps-place-3.result in
    let below : c.args.place - 1 < length steps = omega (arith, c.requires.some, c.requires.within) in
    let none : join_of (get_or steps (c.args.place - 1) node).header ≡ None = rw (get_or_default steps (c.args.place - 1) node c.index-steps-place.result below) (sym c.join.ensures ∙ c.in_default.is) in
    let plain : is_negation (get_or steps (c.args.place - 1) node).header ≡ false = rw (get_or_default steps (c.args.place - 1) node c.index-steps-place-2.result below) (sym c.is_negation.ensures ∙ c.if-is_negation.false) in
    let found = test_is (get_or steps (c.args.place - 1) node).header none plain in
    IfOk-weaker c.is_met.result _ _
    (λ met is. rw is (truth_of_test (truth_on (g.C.Cells.cell c.args.row.now.cells.now)) steps c.args.place node c.requires.some c.requires.within found.0 found.1))
    (c.is_met.ensures.met found.0 found.1)
