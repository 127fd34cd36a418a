-- What reads a workload doesn't refuse it.
use Rattle.std.specs.Prelude.{ℕ, IsOk}
use Rattle.lq_records.specs.declared.base.Rules.{Rules}
use Rattle.lq_objects.specs.Objects.{base_of}
use Rattle.lq_log.specs.Log.{log_of}
use Rattle.lq_workload.specs.Objects.{objects_text}
use Rattle.lq_workload.specs.Workload.{log_text}

-- the object file and the log have no fault
pub record IsAccepted (number : ℕ) : Type 0 where
  pub objects : (rules : Rules) → IsOk (base_of (objects_text number) rules)
  pub log : IsOk (log_of (log_text number))
