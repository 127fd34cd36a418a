use Rattle.std.proofs.Common.{◌≡◌, ◌∙◌, ◌+◌, sym, subst, ap, arith, length}
use Rattle.lq_records.specs.Sound.{IsSound}
use Rattle.lq_live.specs.Kept.{state_of}
use Rattle.lq_live.specs.Always.{IsFront}
use Rattle.lq_live.specs.State.{Counted, State}
use Rattle.lq_live.specs.Step.{step}
use Rattle.lq_live.proofs.Apply.{step_for, timely_for}
use Rattle.lq_live.proofs.DueEvents.{due_is}
use Rattle.lq_live.proofs.Front.{step_base, step_front}
use Rattle.lq_live.proofs.Kept.{step_kept, step_later, step_longer}
use Rattle.lq_live.proofs.live.Live.apply.Goals as goal

pub play-requires-clause-timely : goal.play-requires-clause-timely
play-requires-clause-timely c =
    timely_for (state_of c.self.inside.state) (state_of c.reserve.new.live) c.args.u.now c.in_ok-edits.edits.items c.self.invariant.state c.in_ok-edits.ensures.edits c.reserve.ensures.kept

pub overflow_add-self : goal.overflow_add-self
overflow_add-self c = omega (arith, c.self.invariant.count, c.in_ok-reserve.ensures.lines, ap (λ s. length s.log) c.reserve.ensures.kept)

next : (c : goal.After-self-1) → state_of c.play.new.live ≡ step (state_of c.self.inside.state) c.args.u.now
next c =
    step_for (state_of c.self.inside.state) (state_of c.reserve.new.live) (state_of c.play.new.live) c.args.u.now c.in_ok-edits.edits.items
    c.in_ok-edits.ensures.plays c.reserve.ensures.kept c.play.ensures.state

pub invariant_of-self-2 : goal.invariant_of-self-2
invariant_of-self-2 c = record {
  sound = subst IsSound (sym (ap (λ (s : State). s.base) (next c) ∙ step_base (state_of c.self.inside.state) c.args.u.now c.self.invariant.state.ids c.self.invariant.state.order)) c.self.invariant.sound;
  state = rw (next c) (step_kept (state_of c.self.inside.state) c.args.u.now c.self.invariant.state);
  count = omega (arith, c.self.invariant.count, ap (λ s. length s.log) (next c), step_longer (state_of c.self.inside.state) c.args.u.now c.self.invariant.state);
  index = c.play.ensures.index;
}

pub returns-clause-ok : goal.returns-clause-ok
returns-clause-ok c =
    ap (λ state. record { state = state; count = c.self.inside.count + 1 }) (next c)
    ∙ ap (λ live. record { state = step live.state c.args.u.now; count = live.count + 1 }) c.self.view_is

pub returns-clause-due : goal.returns-clause-due
returns-clause-due c = due_is _ _

pub returns-in_err-edits-clause-due : goal.returns-in_err-edits-clause-due
returns-in_err-edits-clause-due c = due_is _ _

pub returns-in_err-reserve-clause-due : goal.returns-in_err-reserve-clause-due
returns-in_err-reserve-clause-due c = due_is _ _

pub returns-clause-second : goal.returns-clause-second
returns-clause-second c = omega (
  arith,
  step_later (state_of c.self.inside.state) c.args.u.now c.self.invariant.state,
  ap (λ (s : State). s.now) (next c),
  ap (λ (live : Counted). live.state.now) c.self.view_is,
)

pub returns-clause-front : goal.returns-clause-front
returns-clause-front c =
    subst (λ log. IsFront log c.play.new.live.log.entries) (ap (λ (live : Counted). live.state.log) c.self.view_is)
    (subst (λ (s : State). IsFront c.self.inside.state.log.entries s.log) (sym (next c)) (step_front (state_of c.self.inside.state) c.args.u.now c.self.invariant.state.ids c.self.invariant.state.order))
