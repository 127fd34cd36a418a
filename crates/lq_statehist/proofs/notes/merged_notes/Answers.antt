use Rattle.std.proofs.Common.{sym, ap, ◌∙◌, ◌+◌, ◌++◌, arith, drop, map}
use Rattle.lq_statehist.specs.Pass.{note_of}
use Rattle.lq_statehist.specs.Sorted.{merged_notes}
use Rattle.lq_statehist.proofs.MergeLemmas.{rest_lines, rest_others, rest_taken, step, step_other}
use Rattle.lq_statehist.proofs.notes.merged_notes.Goals as goal
use Rattle.lq_statehist.proofs.notes.merged_notes.Goals.{then-notes-test+else-other_at-others, else-notes-test}

pub notes-preserved-then-notes-at : goal.notes-preserved-then-notes-at
notes-preserved-then-notes-at c = record {
  within = omega (arith, c.notes-test.true);
  other_within = c.notes.invariant.other_within;
  all = ap (λ items. map note_of items ++ merged_notes (drop (c.notes.at + 1) (map note_of c.args.notes.now)) (drop c.notes.other_at (map note_of c.args.others.now))) c.in_ok-push.ensures.items
      ∙ sym (step c.args.notes.now c.args.others.now c.notes.all.items c.notes.at c.notes.other_at _ _ c.notes-test.true c.if-other_at-others.true c.if-notes-at.true) ∙ c.notes.invariant.all;
}

pub notes-preserved : goal.notes-preserved
notes-preserved c = record {
  within = c.notes.invariant.within;
  other_within = omega (arith, c.if-other_at-others.true);
  all = ap (λ items. map note_of items ++ merged_notes (drop c.notes.at (map note_of c.args.notes.now)) (drop (c.notes.other_at + 1) (map note_of c.args.others.now))) c.in_ok-push-2.ensures.items
      ∙ sym (step_other c.args.notes.now c.args.others.now c.notes.all.items c.notes.at c.notes.other_at _ _ c.notes-test.true c.if-other_at-others.true c.if-notes-at.false) ∙ c.notes.invariant.all;
}

pub returns : goal.returns
returns c =
    ap (map note_of) (c.in_ok-extend_from_slice-2.ensures.items
    ∙ ap (λ items. c.extend_from_slice.new.self.items ++ items) (rest_taken c.args.others.now c.notes.other_at)
    ∙ ap (λ items. items ++ drop c.notes.other_at c.args.others.now) (c.in_ok-extend_from_slice.ensures.items
    ∙ ap (λ items. c.notes.all.items ++ items) (rest_taken c.args.notes.now c.notes.at)))
    ∙ elim c.notes-test.branch [
      | then-notes-test+else-other_at-others w ↦ rest_lines c.args.notes.now c.args.others.now c.notes.all.items c.notes.at c.notes.other_at w.if-other_at-others.false
      | else-notes-test w ↦ rest_others c.args.notes.now c.args.others.now c.notes.all.items c.notes.at c.notes.other_at w.notes-test.false
    ]
    ∙ c.notes.invariant.all
