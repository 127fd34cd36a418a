-- What the run says where nothing opens a state.
use Rattle.std.proofs.Common.{Bor, inl, inr, ◌⊎◌, ◌≡◌, ◌∙◌, ℕ, Option, Some, None, IfSome, List, refl, sym, ap, true≢false}
use Rattle.std.specs.Option.{is_some}
use Rattle.std.specs.Prelude.{IsSomeAnd}
use Rattle.lq_program.specs.CommandLine.{Wanted}
use Rattle.lq_program.specs.Faults.{end_text, log_fault_text, missing_text, objects_fault_text, status_of, unreadable_text}
use Rattle.lq_program.specs.Run.{IsAcceptedFile, IsReport, LoadsNoLog, MustRefuse, MustRefuseLog, OpensNone, TellsFile, TellsLog, TellsObjects}
use Rattle.lq_program.specs.declared.fault.Fault.{Fault}
use Rattle.lq_program.specs.declared.fault.Fault.TheVariants as end
use Rattle.lq_program.specs.declared.fault.LogFault.{LogFault}
use Rattle.lq_program.specs.declared.fault.ObjectsFault.{ObjectsFault}

abbrev Told : Type 0
Told = Option (Option (List ℕ))

abbrev Files : Type 0
Files = List ℕ → Told

-- ---- what a fault of the opening says

module _ (wanted : Wanted) (files : Files) (before now : ℕ) where
  none_of_log : {P : Type 0} (log : Option (List ℕ)) → IsSomeAnd log (λ path. ⊥) → P
  none_of_log None none = absurd none
  none_of_log (Some path) none = absurd none

  -- the status is one of those that may come where the object file is refused
  may_come : (status : ℕ) (file : Told) → (status ≡ 2) ⊎ ((status ≡ 4) ⊎ (status ≡ 7)) → MustRefuse wanted.rules status file
  may_come status None may = tt
  may_come status (Some there) may = λ refused. may

  not_refused : (status : ℕ) (file : Told) → IsAcceptedFile wanted.rules file → MustRefuse wanted.rules status file
  not_refused status None accepted = tt
  not_refused status (Some None) accepted = absurd accepted
  not_refused status (Some (Some bytes)) accepted = λ refused. absurd (true≢false (sym refused ∙ ap is_some accepted))

  pub must_refuse : (fault : Fault) → OpensNone wanted files before now fault → MustRefuse wanted.rules (status_of fault) (files wanted.path)
  must_refuse (end.Objects found) none = may_come 2 (files wanted.path) (inl refl)
  must_refuse (end.Log found) (inl none) = absurd none
  must_refuse (end.Log found) (inr (accepted, none)) = not_refused 3 (files wanted.path) accepted
  must_refuse (end.FileMissing path) none = may_come 4 (files wanted.path) (inr (inl refl))
  must_refuse (end.FileUnreadable path) none = may_come 4 (files wanted.path) (inr (inl refl))
  must_refuse end.Memory none = may_come 7 (files wanted.path) (inr (inr refl))
  must_refuse end.Usage (inl none) = absurd none
  must_refuse end.Usage (inr (accepted, none)) = none_of_log wanted.log none
  must_refuse end.Read (inl none) = absurd none
  must_refuse end.Read (inr (accepted, none)) = none_of_log wanted.log none
  must_refuse end.Write (inl none) = absurd none
  must_refuse end.Write (inr (accepted, none)) = none_of_log wanted.log none

  -- and of those where the log is
  log_may_come : (status : ℕ) (log : Option (List ℕ)) → (status ≡ 3) ⊎ ((status ≡ 2) ⊎ ((status ≡ 4) ⊎ (status ≡ 7)))
      → IfSome log (λ path. MustRefuseLog status (files path))
  log_may_come status None may = tt
  log_may_come status (Some path) may = each (files path)
    where
      each : (file : Told) → MustRefuseLog status file
      each None = tt
      each (Some there) = λ refused. may

  pub must_refuse_log : (fault : Fault) → OpensNone wanted files before now fault → IfSome wanted.log (λ path. MustRefuseLog (status_of fault) (files path))
  must_refuse_log (end.Objects found) none = log_may_come 2 wanted.log (inr (inl refl))
  must_refuse_log (end.Log found) none = log_may_come 3 wanted.log (inl refl)
  must_refuse_log (end.FileMissing path) none = log_may_come 4 wanted.log (inr (inr (inl refl)))
  must_refuse_log (end.FileUnreadable path) none = log_may_come 4 wanted.log (inr (inr (inl refl)))
  must_refuse_log end.Memory none = log_may_come 7 wanted.log (inr (inr (inr refl)))
  must_refuse_log end.Usage (inl none) = absurd none
  must_refuse_log end.Usage (inr (accepted, none)) = none_of_log wanted.log none
  must_refuse_log end.Read (inl none) = absurd none
  must_refuse_log end.Read (inr (accepted, none)) = none_of_log wanted.log none
  must_refuse_log end.Write (inl none) = absurd none
  must_refuse_log end.Write (inr (accepted, none)) = none_of_log wanted.log none

  -- ---- the text that goes with it

  tells_log : (log : Option (List ℕ)) (found : LogFault) → IsSomeAnd log (λ path. LoadsNoLog path (files path) before now (end.Log found))
      → IsSomeAnd log (λ path. TellsLog (files path) (log_fault_text found))
  tells_log None found none = none
  tells_log (Some path) found none = record { fault = found; told = refl; is = none }

  missing_log : (log : Option (List ℕ)) (missing : Bor (List ℕ)) → IsSomeAnd log (λ path. LoadsNoLog path (files path) before now (end.FileMissing missing))
      → IsSomeAnd log (λ path. TellsFile path (files path) (missing_text missing.now))
  missing_log None missing none = none
  missing_log (Some path) missing none = inl (ap missing_text none.0, none.1)

  unreadable_log : (log : Option (List ℕ)) (unreadable : Bor (List ℕ)) → IsSomeAnd log (λ path. LoadsNoLog path (files path) before now (end.FileUnreadable unreadable))
      → IsSomeAnd log (λ path. TellsFile path (files path) (unreadable_text unreadable.now))
  unreadable_log None unreadable none = none
  unreadable_log (Some path) unreadable none = inr (ap unreadable_text none.0, none.1)

  tells_objects : (found : ObjectsFault) → OpensNone wanted files before now (end.Objects found) → TellsObjects wanted.rules (files wanted.path) (objects_fault_text found)
  tells_objects found (inl none) = record { fault = found; told = refl; is = none }
  tells_objects found (inr (accepted, none)) = none_of_log wanted.log none

  tells_log_fault : (found : LogFault) → OpensNone wanted files before now (end.Log found) → IsSomeAnd wanted.log (λ path. TellsLog (files path) (log_fault_text found))
  tells_log_fault found (inl none) = absurd none
  tells_log_fault found (inr (accepted, none)) = tells_log wanted.log found none

  tells_missing : (missing : Bor (List ℕ)) → OpensNone wanted files before now (end.FileMissing missing)
      → TellsFile wanted.path (files wanted.path) (missing_text missing.now) ⊎ IsSomeAnd wanted.log (λ path. TellsFile path (files path) (missing_text missing.now))
  tells_missing missing (inl none) = inl (inl (ap missing_text none.0, none.1))
  tells_missing missing (inr (accepted, none)) = inr (missing_log wanted.log missing none)

  tells_unreadable : (unreadable : Bor (List ℕ)) → OpensNone wanted files before now (end.FileUnreadable unreadable)
      → TellsFile wanted.path (files wanted.path) (unreadable_text unreadable.now) ⊎ IsSomeAnd wanted.log (λ path. TellsFile path (files path) (unreadable_text unreadable.now))
  tells_unreadable unreadable (inl none) = inl (inr (ap unreadable_text none.0, none.1))
  tells_unreadable unreadable (inr (accepted, none)) = inr (unreadable_log wanted.log unreadable none)

  pub reported : (fault : Fault) → OpensNone wanted files before now fault → IsReport (Some wanted) files (status_of fault) (end_text fault)
  reported (end.Objects found) none = record {
    done = λ is. absurd (cc);
    usage = λ is. absurd (cc);
    objects = λ is. tells_objects found none;
    log = λ is. absurd (cc);
    file = λ is. absurd (cc);
    reading = λ is. absurd (cc);
    writing = λ is. absurd (cc);
    memory = λ is. absurd (cc);
  }
  reported (end.Log found) none = record {
    done = λ is. absurd (cc);
    usage = λ is. absurd (cc);
    objects = λ is. absurd (cc);
    log = λ is. tells_log_fault found none;
    file = λ is. absurd (cc);
    reading = λ is. absurd (cc);
    writing = λ is. absurd (cc);
    memory = λ is. absurd (cc);
  }
  reported (end.FileMissing missing) none = record {
    done = λ is. absurd (cc);
    usage = λ is. absurd (cc);
    objects = λ is. absurd (cc);
    log = λ is. absurd (cc);
    file = λ is. tells_missing missing none;
    reading = λ is. absurd (cc);
    writing = λ is. absurd (cc);
    memory = λ is. absurd (cc);
  }
  reported (end.FileUnreadable unreadable) none = record {
    done = λ is. absurd (cc);
    usage = λ is. absurd (cc);
    objects = λ is. absurd (cc);
    log = λ is. absurd (cc);
    file = λ is. tells_unreadable unreadable none;
    reading = λ is. absurd (cc);
    writing = λ is. absurd (cc);
    memory = λ is. absurd (cc);
  }
  reported end.Memory none = record {
    done = λ is. absurd (cc);
    usage = λ is. absurd (cc);
    objects = λ is. absurd (cc);
    log = λ is. absurd (cc);
    file = λ is. absurd (cc);
    reading = λ is. absurd (cc);
    writing = λ is. absurd (cc);
    memory = λ is. refl;
  }
  reported end.Usage (inl none) = absurd none
  reported end.Usage (inr (accepted, none)) = none_of_log wanted.log none
  reported end.Read (inl none) = absurd none
  reported end.Read (inr (accepted, none)) = none_of_log wanted.log none
  reported end.Write (inl none) = absurd none
  reported end.Write (inr (accepted, none)) = none_of_log wanted.log none
