use Rattle.std.proofs.Common.{rules, ap, ◌∙◌}
use Rattle.lq_live.specs.Kept.{state_of}
use Rattle.lq_live.specs.State.{with_status}
use Rattle.lq_live.specs.Whole.{all_parted}
use Rattle.lq_live.proofs.Parted.{told_parted}
use Rattle.lq_live.proofs.live_state.LiveState.record_state.Goals as goal

pub returns-clause-state : goal.returns-clause-state
returns-clause-state c =
    ap all_parted (c.set_status.ensures.state ∙ ap (λ status. with_status (λ _. status) c.args.object (state_of c.args.self.now)) (c.in_ok-status.ensures {u = tt}))
    ∙ told_parted c.args.entry.now c.args.hard c.args.object (state_of c.args.self.now) c.in-Some.old.now (search rules)
