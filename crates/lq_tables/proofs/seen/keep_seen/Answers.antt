use Rattle.std.proofs.Common.{◌≡◌, filter, subst, sym}
use Rattle.lq_tables.specs.Rows.{sees_row}
use Rattle.lq_tables.proofs.OwnLemmas.{all_rows_seen}
use Rattle.lq_tables.proofs.seen.keep_seen.Goals as goal

pub returns-in-All : goal.returns-in-All
returns-in-All c =
    subst (λ view. c.args.rows.now.items ≡ filter (sees_row c.args.live.now.state view) c.args.rows.now.items) (sym c.in-All.is)
    (sym (all_rows_seen c.args.live.now.state c.args.rows.now.items))
