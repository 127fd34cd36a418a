use Rattle.std.proofs.Common.{refl, rules}
use Rattle.lq_live.proofs.Settled.{settled_quiet}
use Rattle.lq_live.proofs.edit.move_on.Goals as goal

pub returns-then-second-live-clause-state : goal.returns-then-second-live-clause-state
returns-then-second-live-clause-state c =
    rw (settled_quiet c.args.second c.args.live.now.next_moment c.args.live.now.downtimes.items (search rules) c.requires.moment) refl
