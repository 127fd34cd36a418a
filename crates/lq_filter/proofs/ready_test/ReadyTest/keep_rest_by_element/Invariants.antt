use Rattle.std.proofs.Common.{◌≡◌}
use Rattle.lq_filter.specs.Marks.{AreKeptBetween}
use Rattle.lq_filter.specs.ReadyHeaders.{test_of_ready}
use Rattle.lq_filter.specs.Trees.{truth_on}
use Rattle.lq_filter.proofs.ready_test.ReadyTest.keep_rest_by_element.Given as goal

abbrev pub invariant-loop-place : goal.invariant-loop-place
invariant-loop-place g l = record {
  same : test_of_ready l.self ≡ test_of_ready l.fn.self;
  kept : AreKeptBetween (λ row. truth_on (g.S.Scan.cell l.block.scan.now row) (test_of_ready l.fn.self)) l.block.rows.now l.fn.marks l.marks l.start l.place;
}
