-- What a run says of the words, the files, the input and the two outputs.
use Rattle.std.specs.Prelude.{◌≡◌, ℕ, ◌⊎◌, Option, Some, None, IsNone, IsSome, IfSome, IsSomeAnd}
use Rattle.std.specs.Prelude.{Result, Ok, Err, List, []}
use Rattle.std.specs.Io.KnownBytes.{Appends}
use Rattle.lq_outside.specs.Faults.{Rose}
use Rattle.lq_records.specs.declared.base.Base.{Base}
use Rattle.lq_records.specs.declared.base.Rules.{Rules}
use Rattle.lq_records.specs.Sound.{IsSound}
use Rattle.lq_objects.specs.Objects.{base_of}
use Rattle.lq_events.specs.declared.log_entry.LogEntry.{LogEntry}
use Rattle.lq_log.specs.Log.{Log, log_of}
use Rattle.lq_log.specs.declared.whole.LogErr.{LogErr}
use Rattle.lq_live.specs.Opening.{opening_state}
use Rattle.lq_live.specs.State.{State}
use Rattle.lq_program.specs.CommandLine.{Wanted}
use Rattle.lq_program.specs.Faults.{log_fault, log_fault_text, objects_fault, objects_fault_text}
use Rattle.lq_program.specs.Faults.{usage_text, missing_text, unreadable_text, read_text}
use Rattle.lq_program.specs.Faults.{write_text, memory_text}
use Rattle.lq_program.specs.declared.fault.LogFault.{LogFault}
use Rattle.lq_program.specs.declared.fault.ObjectsFault.{ObjectsFault}
use Rattle.lq_program.specs.declared.fault.Fault.{Fault}
use Rattle.lq_program.specs.declared.fault.Fault.TheVariants as end

-- A fact on the file that the words ask for, of which the files tell its bytes, that nothing is
-- there, or nothing.
abbrev pub OnFile : Option Wanted → (List ℕ → Option (Option (List ℕ)))
    → (Wanted → Option (Option (List ℕ)) → Type 0) → Type 0
OnFile asked files P = IfSome asked (λ wanted. P wanted (files wanted.path))

-- ---- the object file

-- where the file is told, it is there and refused
abbrev pub IsRefused : Rules → Option (Option (List ℕ)) → Type 0
IsRefused rules file =
    IfSome file (λ there. IsSomeAnd there (λ bytes. IsSome (objects_fault bytes rules)))

-- where the file is told and refused, the status says so, unless the file couldn't be read or
-- memory ran out
abbrev pub MustRefuse : Rules → ℕ → Option (Option (List ℕ)) → Type 0
MustRefuse rules status file =
    IfSome file (λ there. IsSomeAnd there (λ bytes. IsSome (objects_fault bytes rules))
    → (status ≡ 2) ⊎ (status ≡ 4) ⊎ (status ≡ 7))

-- what a file that is told says of the base
abbrev pub SaysBase : Rules → Option (Option (List ℕ)) → Base → Type 0
SaysBase rules file base = IfSome file (λ there. IsSomeAnd there (λ bytes.
    (objects_fault bytes rules ≡ None) × (base_of bytes rules ≡ Ok base)))

-- ---- the log

-- A fact on the log that the words ask for, where they ask for one.
abbrev pub OnLog : Option Wanted → (List ℕ → Option (Option (List ℕ)))
    → (Option (Option (List ℕ)) → Type 0) → Type 0
OnLog asked files P = IfSome asked (λ wanted. IsSomeAnd wanted.log (λ path. P (files path)))

-- where the file is told, it is there and refused
abbrev pub IsRefusedLog : Option (Option (List ℕ)) → Type 0
IsRefusedLog file =
    IfSome file (λ there. IsSomeAnd there (λ bytes. IsSome (log_fault bytes)))

-- where the log is told and refused, the status says so, unless the object file is refused, a file
-- couldn't be read or memory ran out
abbrev pub MustRefuseLog : ℕ → Option (Option (List ℕ)) → Type 0
MustRefuseLog status file =
    IfSome file (λ there. IsSomeAnd there (λ bytes. IsSome (log_fault bytes))
    → (status ≡ 3) ⊎ (status ≡ 2) ⊎ (status ≡ 4) ⊎ (status ≡ 7))

abbrev pub entries_read : Result Log LogErr → List LogEntry
entries_read (Ok read) = read.entries
entries_read (Err error) = []

-- what a file that is told says of the entries of the log
abbrev pub SaysLog : Option (Option (List ℕ)) → List LogEntry → Type 0
SaysLog file entries = IfSome file (λ there. IsSomeAnd there (λ bytes.
    (log_fault bytes ≡ None) × (entries_read (log_of bytes) ≡ entries)))

-- without a log there are no entries
abbrev pub OpensLog : Option (List ℕ) → (List ℕ → Option (Option (List ℕ))) → List LogEntry
    → Type 0
OpensLog None files entries = entries ≡ []
OpensLog (Some path) files entries = SaysLog (files path) entries

-- ---- the opening state

-- a state that what is asked opens with: that of a sound base and a log, and where the files are
-- told, they say these
pub record Opens (wanted : Wanted) (files : List ℕ → Option (Option (List ℕ))) (s : State)
    : Type 0 where
  pub base : Base
  pub entries : List LogEntry
  pub sound : IsSound base
  pub objects : SaysBase wanted.rules (files wanted.path) base
  pub log : OpensLog wanted.log files entries
  pub state : s ≡ opening_state base entries

-- there is such a state, and a fact holds of it
abbrev pub OnOpening : Option Wanted → (List ℕ → Option (Option (List ℕ))) → (State → Type 0)
    → Type 0
OnOpening asked files P = IfSome asked (λ wanted. (s : State) × Opens wanted files s × P s)

-- ---- the text of an end

-- what is wrong with the object file
pub record TellsObjects (rules : Rules) (file : Option (Option (List ℕ))) (text : List ℕ)
    : Type 0 where
  pub fault : ObjectsFault
  pub told : text ≡ objects_fault_text fault
  pub is : IfSome file
      (λ there. IsSomeAnd there (λ bytes. objects_fault bytes rules ≡ Some fault))

-- what is wrong with the log
pub record TellsLog (file : Option (Option (List ℕ))) (text : List ℕ) : Type 0 where
  pub fault : LogFault
  pub told : text ≡ log_fault_text fault
  pub is : IfSome file (λ there. IsSomeAnd there (λ bytes. log_fault bytes ≡ Some fault))

-- where the file is told, it is called missing exactly where nothing is there
abbrev pub TellsFile : List ℕ → Option (Option (List ℕ)) → List ℕ → Type 0
TellsFile path file text =
    ((text ≡ missing_text path) × IfSome file IsNone)
    ⊎ ((text ≡ unreadable_text path) × IfSome file IsSome)

-- the text that goes with a status
pub record IsReport (asked : Option Wanted) (files : List ℕ → Option (Option (List ℕ)))
    (status : ℕ) (text : List ℕ) : Type 0 where
  pub done : status ≡ 0 → text ≡ []
  pub usage : status ≡ 1 → text ≡ usage_text
  pub objects : status ≡ 2 → OnFile asked files
      (λ wanted file. TellsObjects wanted.rules file text)
  pub log : status ≡ 3 → OnLog asked files (λ file. TellsLog file text)
  pub file : status ≡ 4 → IfSome asked (λ wanted. TellsFile wanted.path (files wanted.path) text
      ⊎ IsSomeAnd wanted.log (λ path. TellsFile path (files path) text))
  pub reading : status ≡ 5 → text ≡ read_text
  pub writing : status ≡ 6 → text ≡ write_text
  pub memory : status ≡ 7 → text ≡ memory_text

-- where the count of faults of the fault sink didn't rise, it got the text
abbrev pub Reports : Option Wanted → (List ℕ → Option (Option (List ℕ))) → ℕ → Option (List ℕ)
    → Option (List ℕ) → Type 0
Reports asked files status old new =
    (text : List ℕ) × Appends old new text × IsReport asked files status text

-- ---- a fault

-- why a file isn't loaded, by its path
abbrev pub Misses : List ℕ → Option (Option (List ℕ)) → ℕ → ℕ → Fault → Type 0
Misses path file before now (end.FileMissing missing) =
    (missing.now ≡ path) × IfSome file IsNone × Rose before now
Misses path file before now (end.FileUnreadable unreadable) =
    (unreadable.now ≡ path) × IfSome file IsSome × Rose before now
Misses path file before now end.Memory = Unit {0}
Misses path file before now _ = ⊥

-- why a file gives no base
abbrev pub LoadsNoBase : Wanted → Option (Option (List ℕ)) → ℕ → ℕ → Fault → Type 0
LoadsNoBase wanted file before now (end.Objects fault) = IfSome file
    (λ there. IsSomeAnd there (λ bytes. objects_fault bytes wanted.rules ≡ Some fault))
LoadsNoBase wanted file before now fault = Misses wanted.path file before now fault

-- why a file gives no log
abbrev pub LoadsNoLog : List ℕ → Option (Option (List ℕ)) → ℕ → ℕ → Fault → Type 0
LoadsNoLog path file before now (end.Log fault) =
    IfSome file (λ there. IsSomeAnd there (λ bytes. log_fault bytes ≡ Some fault))
LoadsNoLog path file before now fault = Misses path file before now fault

-- where the file is told, it isn't refused
abbrev pub IsAcceptedFile : Rules → Option (Option (List ℕ)) → Type 0
IsAcceptedFile rules file =
    IfSome file (λ there. IsSomeAnd there (λ bytes. objects_fault bytes rules ≡ None))

-- Why what is asked opens no state: the object file gives no base, or it is accepted and the log
-- gives no entries.
abbrev pub OpensNone : Wanted → (List ℕ → Option (Option (List ℕ))) → ℕ → ℕ → Fault → Type 0
OpensNone wanted files before now fault =
    LoadsNoBase wanted (files wanted.path) before now fault
    ⊎ (IsAcceptedFile wanted.rules (files wanted.path)
    × IsSomeAnd wanted.log (λ path. LoadsNoLog path (files path) before now fault))
