use Rattle.std.proofs.Common.{◌≡◌, arith}
use Rattle.lq_stats.proofs.StatsLemmas.{first_totals}
use Rattle.lq_stats.proofs.groups.first_groups.Goals as goal

pub returns-clause-totals : goal.returns-clause-totals
returns-clause-totals c =
    let none : c.args.spec.now.keys ≡ 0 = omega arith in
    rw (c.in_ok-push_group.ensures.totals, c.new-totals.ensures.items, c.in_ok-fresh.ensures, c.as_slice.ensures)
    (first_totals c.args.spec.now none)
