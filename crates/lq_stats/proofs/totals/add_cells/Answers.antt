use Rattle.std.proofs.Common.{◌<◌, length, subst, sym, arith}
use Rattle.std.proofs.lemmas.List.Elements.{All-get_or}
use Rattle.lq_stats.specs.Totals.{IsSmall}
use Rattle.lq_stats.proofs.ColumnLemmas.{same_rest}
use Rattle.lq_stats.proofs.totals.add_cells.Goals as goal

pub with-requires-clause-small : goal.with-requires-clause-small
with-requires-clause-small c =
    let below : c.loop-i.i < length c.args.totals.now = omega arith in
    subst IsSmall (sym (same_rest c.loop-i.totals c.args.totals.now c.loop-i.i _ c.loop-i.invariant.1))
    (All-get_or IsSmall c.args.totals.now c.loop-i.i _ below c.requires.small)
