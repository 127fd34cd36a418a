-- A copy of the state keeps what the state keeps.
use Rattle.std.proofs.Common.{◌≡◌, ℕ, ◌≤◌, List, length, sym, subst, ap}
use Rattle.lq_records.specs.declared.base.Base.{Base}
use Rattle.lq_events.specs.declared.log_entry.LogEntry.{LogEntry}
use Rattle.lq_live.specs.LastTold.{AreTold}
use Rattle.lq_records.specs.Sound.{IsSound}
use Rattle.lq_live.specs.Kept.{AllFrom, IsKept, KeepsAll, state_of}
use Rattle.lq_live.specs.State.{State}
use Rattle.lq_live.specs.declared.live_state.LiveState.{LiveState}

pub copy_keeps : (live copy : LiveState) (updates : ℕ) → state_of copy ≡ state_of live → copy.next_moment ≡ live.next_moment
    → ((base : Base) (log : List LogEntry) → AreTold live.told base log → AreTold copy.told base log) → KeepsAll live updates → KeepsAll copy updates
copy_keeps live copy updates same moment told kept = record {
  sound = subst IsSound (sym (ap (λ (s : State). s.base) same)) kept.sound;
  state = subst IsKept (sym same) kept.state;
  count = subst (λ log. updates ≤ length log) (sym (ap (λ (s : State). s.log) same)) kept.count;
  index = record {
    moment = subst (λ second. AllFrom second copy.downtimes.items) (sym moment)
        (subst (AllFrom live.next_moment) (sym (ap (λ (s : State). s.downtimes) same)) kept.index.moment);
    told = subst (λ (s : State). AreTold copy.told s.base s.log) (sym same) (told _ _ kept.index.told);
  };
}
