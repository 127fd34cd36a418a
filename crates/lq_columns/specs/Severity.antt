-- How the code finds the worst state: by the greatest severity of the members' states. No
-- contract that a caller sees cites this.
use Rattle.std.specs.Prelude.{ℕ, ℤ, pos, ◌==◌, List, if◌then◌else◌}
use Rattle.std.specs.Ordering.{int_eq}
use Rattle.lq_events.specs.declared.status.Status.{Status}
use Rattle.lq_records.specs.Places.{number_at}
use Rattle.lq_columns.specs.Counts.{state_of_member}

-- the severity of the object at a place
abbrev pub severity_at : (ℤ → ℕ) → List Status → ℕ → ℕ
severity_at severity statuses place =
    number_at (λ status. severity (state_of_member status)) statuses place

-- from bad to good: critical, unknown, warning, ok
abbrev pub service_severity : ℤ → ℕ
service_severity state =
    if int_eq state (pos 2) then 3
    else if int_eq state (pos 3) then 2
    else if int_eq state (pos 1) then 1
    else 0

-- the state of a service by its severity
abbrev pub service_state_by : ℕ → ℕ
service_state_by severity =
    if severity == 3 then 2 else if severity == 2 then 3 else if severity == 1 then 1 else 0

-- from bad to good: down, unreachable, up
abbrev pub host_severity : ℤ → ℕ
host_severity state = if int_eq state (pos 1) then 2 else if int_eq state (pos 2) then 1 else 0

-- the state of a host by its severity
abbrev pub host_state_by : ℕ → ℕ
host_state_by severity = if severity == 2 then 1 else if severity == 1 then 2 else 0
