use Rattle.std.proofs.Common.{◌≡◌, take, drop}
use Rattle.std.specs.Arc.{arc_value}
use Rattle.lq_live.specs.Kept.{state_of}
use Rattle.lq_live.specs.LastTold.{AreTold}
use Rattle.lq_live.specs.Opening.{with_lines}
use Rattle.lq_live.specs.Whole.{all_parted}
use Rattle.lq_live.proofs.live_state.LiveState.record_lines.Given as goal

abbrev pub invariant-loop-entry : goal.invariant-loop-entry
invariant-loop-entry l = record {
  state : with_lines (drop l.entry-index l.log) (all_parted (state_of l.self)) ≡ with_lines l.log (all_parted (state_of l.fn.self));
  told : AreTold l.told (arc_value l.self.base) (take l.entry-index l.log);
}
