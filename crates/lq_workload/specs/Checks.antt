-- Results of checks, and the lines that tell of them.
use Rattle.std.specs.Prelude.{ℕ, zero, suc, ◌+◌, ◌==◌, List, [], ◌∷◌, codes, if◌then◌else◌}
use Rattle.std.specs.Fmt.{decimal}
use Rattle.std.specs.List.{concat}
use Rattle.lq_workload.specs.Draws.{after_draws, drawn_after}
use Rattle.lq_workload.specs.Objects.{host_name, service_description}
use Rattle.lq_workload.specs.declared.check.Check.{Check}
use Rattle.lq_workload.specs.declared.check.Checks.{Checks}

-- The next result draws how many seconds it comes after the one before it, then its host, its
-- service and its state.
unfoldable pub next_check : Checks → Check
next_check checks = record {
  second = checks.second + drawn_after 0 30 checks.generator.number;
  host = drawn_after 1 100 checks.generator.number;
  service = drawn_after 2 10 checks.generator.number;
  state = drawn_after 3 4 checks.generator.number;
}

-- what is left after the next result
unfoldable pub after_check : Checks → Checks
after_check checks = record {
  generator = record { number = after_draws 4 checks.generator.number };
  second = (next_check checks).second;
}

-- what is left after several results
unfoldable pub after_checks : ℕ → Checks → Checks
after_checks zero checks = checks
after_checks (suc count) checks = after_check (after_checks count checks)

unfoldable pub state_name : ℕ → List ℕ
state_name state =
    if state == 0 then codes "OK"
    else if state == 1 then codes "WARNING"
    else if state == 2 then codes "CRITICAL"
    else codes "UNKNOWN"

-- the line of a log
unfoldable pub check_alert_line : Check → ℕ → List ℕ
check_alert_line check place =
    concat (codes "[" ∷ decimal check.second ∷ codes "] SERVICE ALERT: " ∷ host_name check.host
    ∷ codes ";" ∷ service_description check.service ∷ codes ";" ∷ state_name check.state
    ∷ codes ";HARD;1;n" ∷ decimal place ∷ codes "\n" ∷ [])

-- the external command
unfoldable pub command_line : Check → ℕ → List ℕ
command_line check place =
    concat (codes "COMMAND [" ∷ decimal check.second ∷ codes "] PROCESS_SERVICE_CHECK_RESULT;"
    ∷ host_name check.host ∷ codes ";" ∷ service_description check.service ∷ codes ";"
    ∷ decimal check.state ∷ codes ";m" ∷ decimal place ∷ codes "\n" ∷ [])
