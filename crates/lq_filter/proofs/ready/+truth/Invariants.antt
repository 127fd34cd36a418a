use Rattle.std.proofs.Common.{◌+◌, ◌*◌}
use Rattle.lq_filter.proofs.ready.+truth.Given as goal

abbrev pub decreases-joined_at : goal.decreases-joined_at
decreases-joined_at g l = 2 * l.place + 1

abbrev pub decreases-truth_at : goal.decreases-truth_at
decreases-truth_at g l = 2 * l.place
