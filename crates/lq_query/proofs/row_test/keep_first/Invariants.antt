use Rattle.lq_filter.specs.Marks.{AreKeptBefore}
use Rattle.lq_query.proofs.row_test.keep_first.Given as goal

abbrev pub invariant-loop-place : goal.invariant-loop-place
invariant-loop-place g l = AreKeptBefore (g.T.RowTest.met l.test) l.rows l.fn.marks l.marks l.place
