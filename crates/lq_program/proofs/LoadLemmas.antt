-- A loaded object file gives its base or its fault, and a loaded log its entries or its fault.
use Rattle.std.proofs.Common.{◌≡◌, ℕ, ◌<◌, ◌≤◌, nat_lt, true, false, Option, Some, None, IfSome, Ok, Err, List, length, refl, ap, ◌∙◌, subst, arith}
use Rattle.std.specs.Prelude.{IsSomeAnd}
use Rattle.lq_records.specs.declared.base.Base.{Base}
use Rattle.lq_records.specs.declared.base.Rules.{Rules}
use Rattle.lq_objects.specs.Objects.{base_of}
use Rattle.lq_log.specs.Log.{Log, log_of}
use Rattle.lq_log.specs.declared.whole.LogErr.{LogErr}
use Rattle.lq_program.specs.Faults.{file_limit, fault_of_base, fault_of_log, log_fault, objects_fault}
use Rattle.lq_program.specs.Run.{SaysBase, SaysLog, entries_read}
use Rattle.lq_program.specs.declared.fault.LogFault.{LogFault}
use Rattle.lq_program.specs.declared.fault.LogFault.TheVariants as log
use Rattle.lq_program.specs.declared.fault.ObjectsFault.TheVariants.{At, TooLarge}
use Rattle.lq_objects.specs.declared.fault.ObjectsWhat.{ObjectsWhat}

-- a file past the limit is too large, whatever it says
large_fault : (rules : Rules) (bytes : List ℕ) → file_limit < length bytes → objects_fault bytes rules ≡ Some TooLarge
unfolding objects_fault
large_fault rules bytes long = let is : nat_lt file_limit (length bytes) ≡ true = grind arith in rw is refl

-- a file within the limit has the fault that its lines say
small_fault : (rules : Rules) (bytes : List ℕ) → length bytes ≤ file_limit → objects_fault bytes rules ≡ fault_of_base (base_of bytes rules)
unfolding objects_fault
small_fault rules bytes short = let is : nat_lt file_limit (length bytes) ≡ false = grind arith in rw is refl

pub too_large : (rules : Rules) (file : Option (Option (List ℕ))) → IfSome file (λ there. IsSomeAnd there (λ bytes. file_limit < length bytes))
    → IfSome file (λ there. IsSomeAnd there (λ bytes. objects_fault bytes rules ≡ Some TooLarge))
too_large rules None is = tt
too_large rules (Some None) is = is
too_large rules (Some (Some bytes)) is = large_fault rules bytes is

pub said_base : (rules : Rules) (file : Option (Option (List ℕ))) (bytes : List ℕ) (base : Base) → length bytes ≤ file_limit → IfSome file (λ there. there ≡ Some bytes)
    → base_of bytes rules ≡ Ok base → SaysBase rules file base
said_base rules None bytes base short is read = tt
said_base rules (Some None) bytes base short is read = absurd (cc)
said_base rules (Some (Some held)) bytes base short is read =
    let same : bytes ≡ held = cc in
    subst (λ b. (objects_fault b rules ≡ None) × (base_of b rules ≡ Ok base)) same
    (small_fault rules bytes short ∙ ap fault_of_base read, read)

pub loaded_fault : (rules : Rules) (file : Option (Option (List ℕ))) (bytes : List ℕ) (line : ℕ) (what : ObjectsWhat) → length bytes ≤ file_limit → IfSome file (λ there. there ≡ Some bytes)
    → base_of bytes rules ≡ Err (record { line = line; what = what })
    → IfSome file (λ there. IsSomeAnd there (λ b. objects_fault b rules ≡ Some (At line what)))
loaded_fault rules None bytes line what short is read = tt
loaded_fault rules (Some None) bytes line what short is read = absurd (cc)
loaded_fault rules (Some (Some held)) bytes line what short is read =
    let same : bytes ≡ held = cc in
    subst (λ b. objects_fault b rules ≡ Some (At line what)) same (small_fault rules bytes short ∙ ap fault_of_base read)

-- ---- the log

large_log : (bytes : List ℕ) → 67108864 < length bytes → log_fault bytes ≡ Some log.TooLarge
unfolding log_fault
large_log bytes long = let is : nat_lt 67108864 (length bytes) ≡ true = grind arith in rw is refl

small_log : (bytes : List ℕ) → length bytes ≤ 67108864 → log_fault bytes ≡ fault_of_log (log_of bytes)
unfolding log_fault
small_log bytes short = let is : nat_lt 67108864 (length bytes) ≡ false = grind arith in rw is refl

pub log_too_large : (file : Option (Option (List ℕ))) → IfSome file (λ there. IsSomeAnd there (λ bytes. 67108864 < length bytes))
    → IfSome file (λ there. IsSomeAnd there (λ bytes. log_fault bytes ≡ Some log.TooLarge))
log_too_large None is = tt
log_too_large (Some None) is = is
log_too_large (Some (Some bytes)) is = large_log bytes is

pub said_log : (file : Option (Option (List ℕ))) (bytes : List ℕ) (read : Log) → length bytes ≤ 67108864 → IfSome file (λ there. there ≡ Some bytes)
    → log_of bytes ≡ Ok read → SaysLog file read.entries
said_log None bytes read short is found = tt
said_log (Some None) bytes read short is found = absurd (cc)
said_log (Some (Some held)) bytes read short is found =
    let same : bytes ≡ held = cc in
    subst (λ b. (log_fault b ≡ None) × (entries_read (log_of b) ≡ read.entries)) same
    (small_log bytes short ∙ ap fault_of_log found, ap entries_read found)

pub log_at_fault : (file : Option (Option (List ℕ))) (bytes : List ℕ) (error : LogErr) (fault : LogFault) → length bytes ≤ 67108864 → IfSome file (λ there. there ≡ Some bytes)
    → log_of bytes ≡ Err error → fault_of_log (Err error) ≡ Some fault → IfSome file (λ there. IsSomeAnd there (λ b. log_fault b ≡ Some fault))
log_at_fault None bytes error fault short is found told = tt
log_at_fault (Some None) bytes error fault short is found told = absurd (cc)
log_at_fault (Some (Some held)) bytes error fault short is found told =
    let same : bytes ≡ held = cc in
    subst (λ b. log_fault b ≡ Some fault) same (small_log bytes short ∙ ap fault_of_log found ∙ told)
