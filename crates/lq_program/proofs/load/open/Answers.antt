use Rattle.std.proofs.Common.{◌≡◌, Ok, Some, ap, sym, ◌∙◌}
use Rattle.lq_objects.specs.Objects.{base_of}
use Rattle.lq_log.specs.Log.{log_in, log_of}
use Rattle.lq_live.specs.Opening.{opening_state}
use Rattle.lq_live.specs.State.{Counted}
use Rattle.lq_workload.specs.Objects.{objects_text}
use Rattle.lq_workload.specs.Workload.{log_text}
use Rattle.lq_program.specs.Load.{default_rules, load_state}
use Rattle.lq_program.proofs.WorkloadLemmas.{IfOk-weaker, state_is}
use Rattle.lq_program.proofs.load.open.Goals as goal

pub returns-clause-state : goal.returns-clause-state
returns-clause-state c = λ number objects log.
    let base : base_of (objects_text number) default_rules ≡ Ok c.in-Ok.base =
    ap (λ bytes. base_of bytes default_rules) (sym objects ∙ sym c.as_bytes.ensures.value) ∙ c.in-Ok.ensures.reads in
    let read : log_of (log_text number) ≡ Ok (log_in c.in-Ok-read.log) = ap log_of (sym log ∙ sym c.as_bytes-2.ensures.value) ∙ c.in-Ok-read.ensures in
    IfOk-weaker (λ (live : Counted). live ≡ record { state = opening_state c.in-Ok.base c.in-Ok-read.log.entries; count = 0 }) (λ live. load_state number ≡ Some live.state) c.open.result
    (λ live is. state_is number c.in-Ok.base (log_in c.in-Ok-read.log) base read ∙ ap (λ (at : Counted). Some at.state) (sym is)) c.open.ensures
