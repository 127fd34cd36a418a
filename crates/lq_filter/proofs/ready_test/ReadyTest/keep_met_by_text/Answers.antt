use Rattle.std.proofs.lemmas.Result.{on_ok_weaker}
use Rattle.lq_filter.specs.ReadyHeaders.{test_of_ready}
use Rattle.lq_filter.specs.Trees.{truth_on}
use Rattle.lq_filter.proofs.MarkLemmas.{kept_both}
use Rattle.lq_filter.proofs.ready_test.ReadyTest.keep_met_by_text.Goals as goal

pub returns-clause-kept : goal.returns-clause-kept
returns-clause-kept g c =
    let cell = g.S.Scan.cell c.args.block.now.scan.now in
    on_ok_weaker c.keep_rest_by_text.result
    (kept_both (λ row. truth_on (cell row) (test_of_ready c.args.self.now)) c.args.block.now.rows.now c.args.marks.now c.keep_texts-done.new.marks c.keep_rest_by_text.new.marks c.keep_texts-done.result c.keep_texts-done.ensures.kept)
    c.keep_rest_by_text.ensures.kept
