use Rattle.std.proofs.Common.{◌+◌, ◌*◌}
use Rattle.lq_filter.proofs.marks.+marks.Given as goal

abbrev pub decreases-keep_all : goal.decreases-keep_all
decreases-keep_all g l = 2 * l.trees.end + 1

abbrev pub decreases-keep_any : goal.decreases-keep_any
decreases-keep_any g l = 2 * l.trees.end + 1

abbrev pub decreases-keep_tree : goal.decreases-keep_tree
decreases-keep_tree g l = 2 * l.place
