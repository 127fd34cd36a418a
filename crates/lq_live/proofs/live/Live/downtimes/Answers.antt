use Rattle.std.proofs.Common.{sym, ap}
use Rattle.lq_live.specs.Kept.{state_of}
use Rattle.lq_live.specs.State.{Counted}
use Rattle.lq_live.proofs.Begun.{all_current}
use Rattle.lq_live.proofs.live.Live.downtimes.Goals as goal

pub returns-clause-current : goal.returns-clause-current
returns-clause-current c =
    rw (c.deref.ensures.value, sym (ap (λ (live : Counted). live.state.now) c.self.view_is)) (all_current (state_of c.self.inside.state) c.self.invariant.state)
