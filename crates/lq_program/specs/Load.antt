-- What a generated workload is answered, in one line.
use Rattle.std.specs.Prelude.{ℕ, ◌%◌, true, false, Option, Some, None, Result, Ok, List, [], ◌∷◌}
use Rattle.std.specs.Prelude.{codes, length, sum}
use Rattle.std.specs.Fmt.{decimal}
use Rattle.std.specs.List.{concat}
use Rattle.std.specs.Option.{option_map}
use Rattle.lq_records.specs.declared.base.Base.{Base}
use Rattle.lq_records.specs.declared.base.Rules.{Rules}
use Rattle.lq_objects.specs.Objects.{base_of}
use Rattle.lq_objects.specs.declared.fault.FaultyLine.{FaultyLine}
use Rattle.lq_log.specs.Log.{Log, log_of}
use Rattle.lq_log.specs.declared.whole.LogErr.{LogErr}
use Rattle.lq_live.specs.Opening.{opening_state}
use Rattle.lq_live.specs.State.{State}
use Rattle.lq_workload.specs.Objects.{objects_text as workload_objects}
use Rattle.lq_workload.specs.Workload.{log_text as workload_log, stream_text as workload_stream}
use Rattle.lq_session.specs.Replies.{replies}

-- rules are loose for services and strict for groups
abbrev pub default_rules : Rules
default_rules = record { service_strict = false; group_strict = true }

-- the state that objects and a log open with
abbrev pub opened_by : Result Base FaultyLine → Result Log LogErr → Option State
opened_by (Ok base) (Ok log) = Some (opening_state base log.entries)
opened_by _ _ = None

-- the state that the workload of a number opens with, None where its object file or its log is
-- refused
unfoldable pub load_state : ℕ → Option State
load_state number =
    opened_by (base_of (workload_objects number) default_rules) (log_of (workload_log number))

-- how many bytes the replies have, and their sum modulo 2 ^ 32
abbrev pub replies_line : List ℕ → List ℕ
replies_line bytes =
    concat (codes "hosts 100 services 1000 lines 2000 commands 50 queries 20 bytes "
    ∷ decimal (length bytes) ∷ codes " sum " ∷ decimal (sum bytes % 4294967296) ∷ codes "\n" ∷ [])

-- the line of the workload of a number: its stream is answered from the state that it opens with
abbrev pub load_line : ℕ → Option (List ℕ)
load_line number =
    option_map (λ s. replies_line (replies s (workload_stream number))) (load_state number)
