use Rattle.std.proofs.Common.{◌≡◌, count_by, take}
use Rattle.lq_stats.proofs.groups.count_of.Given as goal

abbrev pub invariant-loop-mark : goal.invariant-loop-mark
invariant-loop-mark l = l.count ≡ count_by (λ mark. mark) (take l.mark-index l.marks)
