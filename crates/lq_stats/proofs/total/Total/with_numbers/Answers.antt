use Rattle.std.proofs.Common.{◌≤◌, ◌-◌, ◌+◌, ◌^◌, length, ap, ◌∙◌, get_or, unsigned_abs, ℤ, pos, arith}
use Rattle.lq_stats.specs.Totals.{with_stat_cell}
use Rattle.lq_stats.specs.declared.cell.StatCell.TheVariants as cell
use Rattle.lq_stats.proofs.ColumnLemmas.{marked_number, number_itself, room_for_marked, room_with_less, sized_number, unmarked_number}
use Rattle.lq_stats.proofs.total.Total.with_numbers.Goals.{then-mark, else-mark}
use Rattle.lq_stats.proofs.total.Total.with_numbers.Goals as goal

pub with-total-requires-clause-sized : goal.with-total-requires-clause-sized
with-total-requires-clause-sized c =
    let small = sized_number c.args.numbers.now c.loop-i.i (pos 0) c.requires.sized (omega (arith, c.loop-i-test.true, c.requires.long)) in
    rw (number_itself _ small) small

pub loop-i-preserved : goal.loop-i-preserved
loop-i-preserved c =
    let number : ℤ = get_or c.args.numbers.now c.loop-i.i (pos 0) in
    let small : unsigned_abs number ≤ 2 ^ 64 = sized_number c.args.numbers.now c.loop-i.i (pos 0) c.requires.sized (omega (arith, c.loop-i-test.true, c.requires.long)) in
    elim c.if-mark.branch [
      | then-mark w ↦
          let more = w.with-total.ensures ∙ ap (λ each. with_stat_cell c.loop-i.total (cell.Number each)) (number_itself number small) in
          rw (w.total-is, more)
          (record {
            all = marked_number c.args.marks.now c.args.numbers.now c.loop-i.i c.loop-i.total c.loop-i-test.true c.requires.long w.if-mark.true ∙ c.loop-i.invariant.all;
            room = room_for_marked c.args.marks.now c.args.numbers.now c.loop-i.i c.loop-i.total c.loop-i-test.true c.requires.long number small c.loop-i.invariant.room;
          })
      | else-mark w ↦
          rw (w.total-is)
          (record {
            all = unmarked_number c.args.marks.now c.args.numbers.now c.loop-i.i c.loop-i.total c.loop-i-test.true c.requires.long w.if-mark.false ∙ c.loop-i.invariant.all;
            room = room_with_less (length c.args.marks.now - c.loop-i.i) (length c.args.marks.now - (c.loop-i.i + 1)) c.loop-i.total (omega arith) c.loop-i.invariant.room;
          })
    ]
