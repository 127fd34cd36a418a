use Rattle.std.proofs.Common.{rules}
use Rattle.lq_query.proofs.sight.SightScan.contains.Goals as goal

pub returns : goal.returns
returns c = search (c.row_contains.ensures.value c.args.self.now.view.now, rules)
