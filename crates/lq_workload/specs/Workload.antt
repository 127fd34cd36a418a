-- The log and the stream of a workload. The generator goes on from the object file, which draws
-- 2,100 times, to the log, and from the log to the stream.
use Rattle.std.specs.Prelude.{ℕ, List, ◌++◌}
use Rattle.lq_workload.specs.Draws.{after_draws}
use Rattle.lq_workload.specs.Checks.{after_checks, check_alert_line, command_line, next_check}
use Rattle.lq_workload.specs.Queries.{queries_text}
use Rattle.lq_workload.specs.Texts.{texts_below}
use Rattle.lq_workload.specs.declared.check.Checks.{Checks}

-- ---- by what the generator left before

-- a line of the log for each of the next 2,000 results of checks
abbrev pub alerts_text : Checks → List ℕ
alerts_text first =
    texts_below 2000 (λ place. check_alert_line (next_check (after_checks place first)) place)

-- a command for each of the next 50 results
abbrev pub commands_text : Checks → List ℕ
commands_text first =
    texts_below 50 (λ place. command_line (next_check (after_checks place first)) place)

-- the commands, and then the queries
abbrev pub messages_text : Checks → List ℕ
messages_text first =
    commands_text first ++ queries_text (after_checks 50 first).generator.number

-- ---- by the workload's number, with which the generator begins

-- before the first result of a check
abbrev pub first_checks : ℕ → Checks
first_checks number =
    record { generator = record { number = after_draws 2100 number }; second = 1000 }

unfoldable pub log_text : ℕ → List ℕ
log_text number = alerts_text (first_checks number)

unfoldable pub stream_text : ℕ → List ℕ
stream_text number = messages_text (after_checks 2000 (first_checks number))
