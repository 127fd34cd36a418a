-- The line of a workload, and what is written of it.
use Rattle.std.proofs.Common.{◌≡◌, ℕ, Option, Some, None, Result, Ok, Err, List, refl, arith}
use Rattle.std.specs.Prelude.{IfOk, IsOk, IsSome, IsSomeAnd}
use Rattle.std.specs.Option.{option_map}
use Rattle.std.proofs.KnownBytes.{Appends-nil}
use Rattle.lq_outside.specs.Sinks.{AppendsFront}
use Rattle.lq_records.specs.declared.base.Base.{Base}
use Rattle.lq_objects.specs.declared.fault.FaultyLine.{FaultyLine}
use Rattle.lq_objects.specs.Objects.{base_of}
use Rattle.lq_log.specs.Log.{Log, log_of}
use Rattle.lq_log.specs.declared.whole.LogErr.{LogErr}
use Rattle.lq_live.specs.Opening.{opening_state}
use Rattle.lq_live.specs.State.{State}
use Rattle.lq_workload.specs.Accepted.{IsAccepted}
use Rattle.lq_workload.specs.Objects.{objects_text}
use Rattle.lq_workload.specs.Workload.{log_text, stream_text}
use Rattle.lq_program.specs.Load.{default_rules, load_line, load_state, opened_by, replies_line}
use Rattle.lq_session.specs.Replies.{replies}

-- ---- the line is there

both_open : (base : Result Base FaultyLine) (log : Result Log LogErr) → IsOk base → IsOk log → IsSome (opened_by base log)
both_open (Ok base) (Ok log) first second = refl
both_open (Ok base) (Err error) first second = absurd (cc)
both_open (Err fault) log first second = absurd (cc)

state_there : (number : ℕ) → IsAccepted number → IsSome (load_state number)
unfolding load_state
state_there number is = both_open _ _ (is.objects default_rules) is.log

line_of_state : (number : ℕ) (state : Option State) → IsSome state → IsSome (option_map (λ s. replies_line (replies s (stream_text number))) state)
line_of_state number None there = absurd (cc)
line_of_state number (Some s) there = refl

pub line_there : (number : ℕ) → IsAccepted number → IsSome (load_line number)
line_there number is = line_of_state number (load_state number) (state_there number is)

-- ---- what is written

pub nothing_yet : (line : Option (List ℕ)) (held : Option (List ℕ)) → IsSome line → IsSomeAnd line (AppendsFront held held)
nothing_yet None held there = absurd (cc)
nothing_yet (Some text) held there = (0, omega arith, Appends-nil held)

-- ---- the state

pub IfOk-weaker : {T E : Type 0} (P Q : T → Type 0) (result : Result T E) → ((x : T) → P x → Q x) → IfOk result P → IfOk result Q
IfOk-weaker P Q (Ok x) step is = step x is
IfOk-weaker P Q (Err error) step is = tt

pub state_is : (number : ℕ) (base : Base) (read : Log) → base_of (objects_text number) default_rules ≡ Ok base → log_of (log_text number) ≡ Ok read
    → load_state number ≡ Some (opening_state base read.entries)
unfolding load_state
state_is number base read first second = rw (first, second) refl
