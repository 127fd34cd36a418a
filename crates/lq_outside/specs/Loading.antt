-- What loading a file says of the file and of the count of faults.
use Rattle.std.specs.Prelude.{◌≡◌, ℕ, ◌<◌, ◌≤◌, List, length, Result, Option, None, Some, Ok, Err}
use Rattle.std.specs.Prelude.{IfErr, IfSome, codes, IsSome, IsSomeAnd}
use Rattle.std.specs.Global.{Vec}
use Rattle.lq_outside.specs.declared.files.LoadErr.{LoadErr}
use Rattle.lq_outside.specs.declared.files.LoadErr.TheVariants.{Missing, Failed, TooLarge, Memory}
use Rattle.lq_outside.specs.Faults.{Rose, next_count}

-- the answers that are faults of the files
abbrev pub IsFault : LoadErr → Type 0
IsFault Missing = Unit {0}
IsFault Failed = Unit {0}
IsFault TooLarge = ⊥
IsFault Memory = ⊥

-- how an answer that isn't a file is printed
abbrev pub load_err_text : LoadErr → List ℕ
load_err_text Missing = codes "missing"
load_err_text Failed = codes "cannot be read"
load_err_text TooLarge = codes "too large"
load_err_text Memory = codes "out of memory"

-- the count never falls, and it rose where the answer is a fault
pub record HasLoadCause {T : Type 0} (before now : ℕ) (result : Result T LoadErr) : Type 0 where
  pub later : before ≤ now
  pub failed : IfErr result (λ e. IsFault e → Rose before now)

-- what the answer says of the file, and of the most bytes asked for. The file is not told, or it is
-- told to be missing, or told with its bytes.
abbrev pub Loads : Option (Option (List ℕ)) → ℕ → Result (Vec ℕ) LoadErr → Type 0
Loads file most (Ok bytes) =
    (length bytes.items ≤ most) × IfSome file (λ there. there ≡ Some bytes.items)
Loads file most (Err Missing) = IfSome file (λ there. there ≡ None)
Loads file most (Err Failed) = IfSome file (λ there. IsSome there)
Loads file most (Err TooLarge) =
    IfSome file (λ there. IsSomeAnd there (λ bytes. most < length bytes))
Loads file most (Err Memory) = Unit {0}

-- the count after a load: one more where the answer is a fault
abbrev pub load_faults_after : {T : Type 0} → Result T LoadErr → ℕ → ℕ
load_faults_after (Ok x) before = before
load_faults_after (Err Missing) before = next_count before
load_faults_after (Err Failed) before = next_count before
load_faults_after (Err TooLarge) before = before
load_faults_after (Err Memory) before = before
