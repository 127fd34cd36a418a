use Rattle.std.proofs.Common.{subst, sym}
use Rattle.std.proofs.lemmas.Result.{on_ok_weaker}
use Rattle.lq_filter.specs.Marks.{AreKeptBefore}
use Rattle.lq_filter.specs.ReadyHeaders.{test_of_ready}
use Rattle.lq_filter.specs.Tests.{is_met}
use Rattle.lq_filter.specs.Trees.{truth_on}
use Rattle.lq_filter.specs.declared.check.Check.{Check}
use Rattle.lq_filter.proofs.MarkLemmas.{kept_both}
use Rattle.lq_filter.proofs.ready_test.ReadyTest.keep_met_by_element.Goals as goal

pub returns-clause-kept : goal.returns-clause-kept
returns-clause-kept g c =
    let cell = g.S.Scan.cell c.args.block.now.scan.now in
    let rows = c.args.block.now.rows.now in
    let first = c.keep_elements-done.new.marks in
    let front = subst (λ (check : Check). AreKeptBefore (λ row. is_met check (cell row c.args.self.now.column)) rows c.args.marks.now first c.keep_elements-done.result)
    (sym c.requires.asked) c.keep_elements-done.ensures.kept in
    on_ok_weaker c.keep_rest_by_element.result
    (kept_both (λ row. truth_on (cell row) (test_of_ready c.args.self.now)) rows c.args.marks.now first c.keep_rest_by_element.new.marks c.keep_elements-done.result front)
    c.keep_rest_by_element.ensures.kept
