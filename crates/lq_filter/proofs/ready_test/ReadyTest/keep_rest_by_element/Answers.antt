use Rattle.std.proofs.Common.{◌∙◌, ap, arith, rules}
use Rattle.lq_filter.specs.ReadyHeaders.{test_of_ready}
use Rattle.lq_filter.specs.Trees.{truth_on}
use Rattle.lq_filter.specs.declared.read.Test.{Test}
use Rattle.lq_filter.proofs.MarkLemmas.{kept_next}
use Rattle.lq_filter.proofs.ready_test.ReadyTest.keep_rest_by_element.Goals.{then-marks-place+in_ok-marks, else-marks-place}
use Rattle.lq_filter.proofs.ready_test.ReadyTest.keep_rest_by_element.Goals as goal

pub loop-place-preserved : goal.loop-place-preserved
loop-place-preserved g c = elim c.if-marks-place.branch [
  | then-marks-place+in_ok-marks w ↦ record {
    same = rw (w.self-is) (w.is_met_by_element.ensures.same ∙ c.loop-place.invariant.same);
    kept = rw (w.marks-is) (kept_next (λ row. truth_on (g.S.Scan.cell c.args.block.now.scan.now row) (test_of_ready c.args.self.now)) c.args.block.now.rows.now c.args.marks.now c.loop-place.marks c.args.start c.loop-place.place w.in_ok-marks.field-0
        c.loop-place.invariant.kept (omega arith) (omega arith) w.if-marks-place.true
        (λ other. w.in_ok-marks.ensures.met
        ∙ ap (λ (test : Test). truth_on (g.S.Scan.cell w.at.result.scan.now w.at.result.row.now) test) c.loop-place.invariant.same
        ∙ ap (λ scan. truth_on (g.S.Scan.cell scan w.at.result.row.now) (test_of_ready c.args.self.now)) w.at.ensures.scan
        ∙ ap (λ row. truth_on (g.S.Scan.cell c.args.block.now.scan.now row) (test_of_ready c.args.self.now)) (w.at.ensures.row other)));
  }
  | else-marks-place w ↦ record {
    same = rw (w.self-is) c.loop-place.invariant.same;
    kept = search (rules, w.marks-is);
  }
]
