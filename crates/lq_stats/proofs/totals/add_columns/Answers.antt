use Rattle.std.proofs.Common.{length, arith}
use Rattle.lq_stats.proofs.ColumnLemmas.{room_at}
use Rattle.lq_stats.proofs.totals.add_columns.Goals as goal

pub with_column-requires-clause-room : goal.with_column-requires-clause-room
with_column-requires-clause-room c =
    room_at (length c.args.marks.now) c.loop-i.totals c.args.totals.now c.loop-i.i _ c.loop-i.invariant.1 (omega (arith, c.loop-i-test.true, c.requires.same_length)) c.requires.room
