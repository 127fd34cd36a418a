use Rattle.std.proofs.Common.{append-nil, sym, rules}
use Rattle.std.specs.Arc.{arc_value}
use Rattle.lq_live.proofs.Quiet.{nothing_due}
use Rattle.lq_live.proofs.context.StepContext.advance.Goals as goal

pub returns-then-self : goal.returns-then-self
returns-then-self c =
    rw (nothing_due (arc_value c.args.self.live.now.base) c.args.self.second c.args.self.live.now.next_moment c.args.self.live.now.downtimes.items (search rules) c.requires.index.moment)
    (sym (append-nil c.args.edits.now.items))
