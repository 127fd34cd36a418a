use Rattle.std.proofs.Common.{All, subst, sym}
use Rattle.lq_stats.specs.Totals.{IsSmall}
use Rattle.lq_stats.proofs.BoundLemmas.{small_none}
use Rattle.lq_stats.proofs.groups.totals_of_row.Goals as goal

pub add-requires-clause-small : goal.add-requires-clause-small
add-requires-clause-small c = subst (All IsSmall) (sym c.in_ok-totals.ensures) (small_none c.args.kinds.now)
