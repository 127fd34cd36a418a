-- What a check result changes: type and attempt, alert line, acknowledgement and status.
use Rattle.std.specs.Prelude.{ℕ, ℤ, pos, ◌+◌, ◌==◌, ◌&&◌, ◌||◌, not, nat_le, min, Bool, true, false}
use Rattle.std.specs.Prelude.{List, if◌then◌else◌}
use Rattle.std.specs.List.{before_first, after_first, slice_get}
use Rattle.std.specs.Option.{option_map_or}
use Rattle.std.specs.Ordering.{int_eq}
use Rattle.lq_records.specs.declared.base.Base.{Base}
use Rattle.lq_events.specs.declared.status.Status.{Status}
use Rattle.lq_records.specs.declared.object.Object.{Object}
use Rattle.lq_records.specs.declared.object.Object.TheVariants as object

-- ---- type and attempt

-- whether a state is hard, and the number of the attempt that found it
pub record Attempt : Type 0 where
  pub hard : Bool
  pub number : ℕ

abbrev pub hard_at : ℕ → Attempt
hard_at number = record { hard = true; number = number }

abbrev pub soft_at : ℕ → Attempt
soft_at number = record { hard = false; number = number }

abbrev pub is_ok : ℤ → Bool
is_ok state = int_eq state (pos 0)

abbrev pub is_soft : Status → Bool
is_soft old = old.state_type == 0

-- A service's result by its largest number of attempts, its new state and its old status. A soft
-- recovery keeps SOFT and raises the attempt.
abbrev pub service_attempt : ℕ → ℤ → Status → Attempt
service_attempt most new old =
    if is_ok new
    then (if not (is_ok old.state) && is_soft old
    then soft_at (min (old.current_attempt + 1) most)
    else hard_at 1)
    else if is_ok old.state then (if most == 1 then hard_at 1 else soft_at 1)
    else if is_soft old
    then record {
      hard = nat_le most (old.current_attempt + 1);
      number = min (old.current_attempt + 1) most;
    }
    else hard_at old.current_attempt

-- the largest number of attempts of a service
abbrev pub most_attempts : Base → ℕ → ℕ
most_attempts base place =
    option_map_or (λ service. service.fields.max_check_attempts) (slice_get base.services place) 1

-- a host's result is hard at once
abbrev pub check_attempt : Base → Object → ℤ → Status → Attempt
check_attempt base (object.Host id) new old = hard_at 1
check_attempt base (object.Service id) new old =
    service_attempt (most_attempts base id.0) new old

-- the greatest code of a result
abbrev pub most_code : Object → ℕ
most_code (object.Host id) = 2
most_code (object.Service id) = 3

-- ---- what follows

abbrev pub type_number : Bool → ℕ
type_number hard = if hard then 1 else 0

-- an alert line is written where state, type or attempt differ from before
abbrev pub differs : Attempt → ℤ → Status → Bool
differs attempt new old =
    not (int_eq new old.state && type_number attempt.hard == old.state_type
    && attempt.number == old.current_attempt)

-- an acknowledgement ends where the state becomes 0, a normal one at each change of state
abbrev pub ends_acknowledgement : ℤ → Status → Bool
ends_acknowledgement new old =
    not (old.acknowledged == 0)
    && (is_ok new || (old.acknowledgement_type == 1 && not (int_eq new old.state)))

abbrev pub is_bar : ℕ → Bool
is_bar byte = byte == 124

abbrev pub is_first_or_new : ℤ → ℤ → Status → Bool
is_first_or_new new before old = old.has_been_checked == 0 || not (int_eq new before)

-- the status after a result of a second
unfoldable pub status_after : ℕ → Attempt → ℤ → List ℕ → Status → Status
status_after now attempt new output old = record {
  state = new;
  state_type = if is_ok new then 1 else type_number attempt.hard;
  has_been_checked = 1;
  current_attempt = if is_ok new then 1 else attempt.number;
  last_check = now;
  last_state_change = if is_first_or_new new old.state old then now else old.last_state_change;
  last_hard_state_change =
      if attempt.hard && is_first_or_new new old.last_hard_state old then now
      else old.last_hard_state_change;
  last_hard_state = if attempt.hard then new else old.last_hard_state;
  plugin_output = before_first is_bar output;
  perf_data = after_first is_bar output;
  acknowledged = if ends_acknowledgement new old then 0 else old.acknowledged;
  acknowledgement_type = if ends_acknowledgement new old then 0 else old.acknowledgement_type;
  notifications_enabled = old.notifications_enabled;
}
