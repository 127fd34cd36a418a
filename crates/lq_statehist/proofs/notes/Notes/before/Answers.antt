use Rattle.std.proofs.Common.{sym, subst, arith}
use Rattle.lq_statehist.specs.Sorted.{AreSorted}
use Rattle.lq_statehist.proofs.ReadLemmas.{few_lines, lines_next, read_all, read_last, read_next}
use Rattle.lq_statehist.proofs.notes.Notes.before.Goals as goal
use Rattle.lq_statehist.proofs.notes.Notes.before.Goals.{else-loop-place-test, then-loop-place-test+then-entry-until}

pub loop-place-preserved : goal.loop-place-preserved
loop-place-preserved g c = record {
  sorted = subst (AreSorted c.add_line.new.self c.args.base.now)
      (sym (read_next c.args.base.now c.args.log.now.entries c.loop-place.place c.args.until c.line-entry.result.now c.line-entry.ensures.entry c.if-entry-until.false))
      (c.in_ok-add_line.ensures _ c.loop-place.invariant.sorted);
  cost = omega (
    arith,
    c.line-entry.ensures.cost,
    c.loop-place.invariant.cost,
    lines_next c.args.log.now.entries c.loop-place.place c.args.until c.line-entry.result.now c.line-entry.ensures.entry c.if-entry-until.false,
  );
}

pub returns-clause-sorted : goal.returns-clause-sorted
returns-clause-sorted g c = subst (AreSorted c.loop-place.notes c.args.base.now) (
    elim c.loop-place-test.branch [
      | else-loop-place-test w ↦ read_all c.args.base.now c.args.log.now.entries c.loop-place.place c.args.until (omega (arith, w.loop-place-test.false, c.len-place-end.ensures.count))
      | then-loop-place-test+then-entry-until w ↦ read_last c.args.base.now c.args.log.now.entries c.loop-place.place c.args.until w.line-entry.result.now w.line-entry.ensures.entry w.if-entry-until.true c.len-place-end.ensures.order
    ]) c.loop-place.invariant.sorted

pub returns-clause-cost : goal.returns-clause-cost
returns-clause-cost g c = elim c.loop-place-test.branch [
  | else-loop-place-test w ↦ omega (arith, w.steps-is, c.loop-place.invariant.cost, few_lines c.args.log.now.entries c.loop-place.place c.args.until)
  | then-loop-place-test+then-entry-until w ↦ omega (arith, w.steps-is, w.line-entry.ensures.cost, c.loop-place.invariant.cost, few_lines c.args.log.now.entries c.loop-place.place c.args.until)
]

pub returns-in_err-add_line-clause-cost : goal.returns-in_err-add_line-clause-cost
returns-in_err-add_line-clause-cost g c =
    omega (arith, c.line-entry.ensures.cost, c.loop-place.invariant.cost, few_lines c.args.log.now.entries c.loop-place.place c.args.until)
