-- An entry that a line gives is one that its own message gives.
use Rattle.std.proofs.Common.{◌≡◌, ◌<◌, ℕ, max, Bool, true, false, Option, Some, None, List, refl, subst, ap, arith, unwrap_or, true≢false}
use Rattle.lq_text.specs.Seconds.{second_of, text_after_second}
use Rattle.lq_events.specs.declared.log_entry.LogEntry.{LogEntry}
use Rattle.lq_log.specs.Book.{time_limit}
use Rattle.lq_log.specs.Entries.{IsOfLine, entry_of, entry_of_text}
use Rattle.lq_log.specs.Written.{entry_of_form}
use Rattle.lq_log.specs.declared.written.Form.{Form}
use Rattle.lq_log.proofs.StampLemmas.{own_text}

-- the entry of a line with a second
made : List ℕ → ℕ → ℕ → LogEntry
made line before second = record (entry_of_text (text_after_second line)) { time = max second before; message = line }

made_again : (line : List ℕ) (before second : ℕ) → second_of line ≡ Some second → IsOfLine (made line before second)
unfolding made
made_again line before second has =
    let same : max second (max second before) ≡ max second before = grind arith in
    rw has (ap (λ time. Some (record (entry_of_text (text_after_second line)) { time = time; message = line })) same)

pub of_line : (line : List ℕ) (before : ℕ) (entry : LogEntry) → entry_of line before ≡ Some entry → IsOfLine entry
unfolding made
of_line line before entry is = by (second_of line) refl
  where
    by : (found : Option ℕ) → second_of line ≡ found → IsOfLine entry
    by None has = absurd (true≢false (ap (λ found. elim found as (λ _. Bool) [ Some entry ↦ false | None ↦ true ]) (rw has at is)))
    by (Some second) has = subst IsOfLine (ap (λ found. unwrap_or found entry) (rw has at is)) (made_again line before second has)

-- what the program writes is such an entry
pub written_of_line : (time : ℕ) (form : Form) → time < time_limit → IsOfLine (entry_of_form time form)
written_of_line time form below = of_line (entry_of_form time form).message 0 (entry_of_form time form) (own_text time form (entry_of_form time form) below refl)
