-- The entries of a log.
use Rattle.std.specs.Prelude.{ℕ, ◌<◌, ◌≤◌, ⊤, List, [], ◌∷◌}
use Rattle.lq_events.specs.declared.log_entry.LogEntry.{LogEntry}

-- the entries of a book, how many more it has room for, and how many lines of the log that was read
-- have no entry
pub record Book : Type 0 where
  pub entries : List LogEntry
  pub room : ℕ
  pub skipped : ℕ

-- A second in brackets has at most 12 digits, so each that is written lies below this number.
abbrev pub time_limit : ℕ
time_limit = 1_000_000_000_000

-- the time after entries, by the time before them
abbrev pub time_after : ℕ → List LogEntry → ℕ
time_after before [] = before
time_after before (entry ∷ entries) = time_after entry.time entries

-- the time of the last entry, 0 without one
abbrev pub last_time : List LogEntry → ℕ
last_time entries = time_after 0 entries

-- each entry's time is at least that of the one before, and below the limit
abbrev pub InOrderAfter : ℕ → List LogEntry → Type 0
InOrderAfter before [] = ⊤
InOrderAfter before (entry ∷ entries) =
    (before ≤ entry.time) × (entry.time < time_limit) × InOrderAfter entry.time entries

abbrev pub InOrder : List LogEntry → Type 0
InOrder entries = InOrderAfter 0 entries
