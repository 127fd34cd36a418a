use Rattle.std.proofs.Common.{rules}
use Rattle.lq_live.proofs.Opened.{opened_keeps}
use Rattle.lq_live.proofs.live.Live.open.Goals as goal

pub invariant_of-result : goal.invariant_of-result
invariant_of-result c = opened_keeps c.args.base c.args.log.entries _ (search rules) (search rules) c.requires (search rules)
