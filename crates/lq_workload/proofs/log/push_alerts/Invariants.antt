use Rattle.std.proofs.Common.{◌≡◌, ◌++◌, ◌+◌, ◌*◌, ◌≤◌, string_bytes}
use Rattle.lq_workload.specs.Checks.{after_checks, check_alert_line, next_check}
use Rattle.lq_workload.specs.Texts.{texts_below}
use Rattle.lq_workload.proofs.log.push_alerts.Given as goal

abbrev pub invariant-loop-place : goal.invariant-loop-place
invariant-loop-place l = record {
  text : string_bytes l.text ≡ string_bytes l.initial.text
      ++ texts_below l.place (λ place. check_alert_line (next_check (after_checks place l.initial.checks)) place);
  after : l.checks ≡ after_checks l.place l.initial.checks;
  soon : l.checks.second ≤ 1000 + l.place * 29;
}
