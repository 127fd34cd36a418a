-- How what is read of a log goes on with each line.
use Rattle.std.proofs.Common.{◌≡◌, ℕ, ◌+◌, ◌≤◌, nat_lt, Bool, true, false, Option, Some, None, List, [], ◌∷◌, ◌++◌, refl, ap, append_assoc, append-nil, arith, true≢false}
use Rattle.std.proofs.lemmas.Bool.Decides.{nat_tests}
use Rattle.std.specs.Option.{is_some, option_map_or, option_to_list}
use Rattle.lq_records.specs.Clean.{text_of_bytes}
use Rattle.lq_events.specs.declared.log_entry.LogEntry.{LogEntry}
use Rattle.lq_log.specs.Entries.{entry_of}
use Rattle.lq_log.specs.Log.{entries_after, first_fault, has_clean_second, line_fault, skipped_in, time_of}

-- ---- entries

go_on : (entries : List LogEntry) (before : ℕ) (lines : List (List ℕ)) (entry : Option LogEntry)
    → (entries ++ option_to_list entry) ++ entries_after (time_of entry before) lines
    ≡ entries ++ option_map_or (λ (found : LogEntry). found ∷ entries_after found.time lines) entry (entries_after before lines)
go_on entries before lines None = rw (append-nil entries) refl
go_on entries before lines (Some entry) = append_assoc entries (entry ∷ []) (entries_after entry.time lines)

pub with_line : (entries longer : List LogEntry) (before after : ℕ) (line : List ℕ) (rest lines : List (List ℕ)) → rest ≡ line ∷ lines
    → longer ≡ entries ++ option_to_list (entry_of (text_of_bytes line) before) → after ≡ time_of (entry_of (text_of_bytes line) before) before
    → longer ++ entries_after after lines ≡ entries ++ entries_after before rest
with_line entries longer before after line rest lines rest_is is after_is =
    rw (rest_is, is, after_is) (go_on entries before lines (entry_of (text_of_bytes line) before))

-- ---- lines without one

skipped_by : (has : Bool) (line : List ℕ) (lines : List (List ℕ)) → has_clean_second line ≡ has
    → (skipped_in (line ∷ lines) ≡ skipped_in (line ∷ []) + skipped_in lines) × (skipped_in (line ∷ []) ≤ 1)
skipped_by true line lines is = rw is (omega arith, omega arith)
skipped_by false line lines is = rw is (omega arith, omega arith)

pub skipped_later : (line : List ℕ) (rest lines : List (List ℕ)) (old new : ℕ) → rest ≡ line ∷ lines → new ≡ old + skipped_in (line ∷ [])
    → new + skipped_in lines ≡ old + skipped_in rest
skipped_later line rest lines old new rest_is is =
    let more = (skipped_by (has_clean_second line) line lines refl).0 in
    rw rest_is (omega (arith, more, is))

pub skipped_once : (line : List ℕ) (old new number : ℕ) → new ≡ old + skipped_in (line ∷ []) → old ≤ number → new ≤ number + 1
skipped_once line old new number is few = let one = (skipped_by (has_clean_second line) line [] refl).1 in omega (arith, one, is, few)

-- ---- faults

few_by : (many : Bool) (number : ℕ) (line : List ℕ) → nat_lt 200000 number ≡ many → line_fault number line ≡ None → number ≤ 200000
few_by true number line is none = absurd (true≢false (ap is_some (rw is at none)))
few_by false number line is none = grind (arith, nat_tests, is)

pub few_lines : (number : ℕ) (line : List ℕ) → line_fault number line ≡ None → number ≤ 200000
few_lines number line none = few_by (nat_lt 200000 number) number line refl none

pub fault_later : (number : ℕ) (line : List ℕ) (rest lines : List (List ℕ)) → rest ≡ line ∷ lines → line_fault number line ≡ None
    → first_fault (number + 1) lines ≡ first_fault number rest
fault_later number line rest lines rest_is none = rw (rest_is, none) refl
