use Rattle.std.proofs.Common.{◌≡◌, ◌-◌, drop, length, map}
use Rattle.lq_stats.specs.Columns.{with_column}
use Rattle.lq_stats.specs.Totals.{HasRoomForRows}
use Rattle.lq_stats.specs.declared.cell.StatCell.TheVariants as cell
use Rattle.lq_stats.proofs.total.Total.with_numbers.Given as goal

-- the numbers so far and those to come give all, and there is room for those to come
abbrev pub invariant-loop-i : goal.invariant-loop-i
invariant-loop-i l = record {
  all : with_column (drop l.i l.marks) l.total (map cell.Number (drop l.i l.numbers)) ≡ with_column l.marks l.fn.self (map cell.Number l.numbers);
  room : HasRoomForRows (length l.marks - l.i) l.total;
}
