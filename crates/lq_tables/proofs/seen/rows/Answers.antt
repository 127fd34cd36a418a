use Rattle.std.proofs.Common.{rules}
use Rattle.lq_tables.proofs.OwnLemmas.{own_of, rising_of}
use Rattle.lq_tables.proofs.seen.rows.Goals as goal

pub returns-in-Some-clause-own : goal.returns-in-Some-clause-own
returns-in-Some-clause-own g c = own_of c.args.live.now.state c.args.view.now c.args.w.now c.args.t c.seen_of.result c.listed_rows.ensures.ids (search rules)

pub returns-in-Some-clause-ids : goal.returns-in-Some-clause-ids
returns-in-Some-clause-ids g c = rising_of c.args.live.now.state c.args.view.now c.args.w.now c.args.t c.seen_of.result c.listed_rows.ensures.ids (search rules)
