-- What a whole log says: the entries of its lines in order, and how many lines have none.
use Rattle.std.specs.Prelude.{◌≡◌, ℕ, ◌+◌, not, nat_lt, Bool, Option, Some, None, Result, Ok, Err}
use Rattle.std.specs.Prelude.{List, [], ◌∷◌, length, filter, if◌then◌else◌}
use Rattle.std.specs.Option.{is_some, option_map_or}
use Rattle.lq_text.specs.Lines.{lines_of}
use Rattle.lq_text.specs.Seconds.{second_of}
use Rattle.lq_records.specs.Clean.{text_of_bytes}
use Rattle.lq_events.specs.declared.log_entry.LogEntry.{LogEntry}
use Rattle.lq_log.specs.Book.{Book}
use Rattle.lq_log.specs.Entries.{entry_of}
use Rattle.lq_log.specs.declared.whole.LogErr.{LogErr}
use Rattle.lq_log.specs.declared.whole.LogErr.TheVariants.{TooManyLines, LineTooLong, Memory}

pub record Log : Type 0 where
  pub entries : List LogEntry
  pub skipped : ℕ

-- ---- limits

-- A log has at most 200,000 lines, empty ones and those without a second included. A line's text
-- has at most 8,192 bytes before those that aren't UTF-8 are replaced. Lines are numbered from 1; a
-- line that passes both limits is one too many.
abbrev pub line_fault : ℕ → List ℕ → Option LogErr
line_fault number line =
    if nat_lt 200000 number then Some (TooManyLines number)
    else if nat_lt 8192 (length line) then Some (LineTooLong number)
    else None

-- the fault of the first line that has one, the lines being numbered from some number on
abbrev pub first_fault : ℕ → List (List ℕ) → Option LogErr
first_fault number [] = None
first_fault number (line ∷ lines) =
    option_map_or Some (line_fault number line) (first_fault (number + 1) lines)

-- ---- entries

-- the time after a line that gives an entry, or none, by the time before it
abbrev pub time_of : Option LogEntry → ℕ → ℕ
time_of entry before = option_map_or (λ (found : LogEntry). found.time) entry before

-- Each line with a second gives an entry, whose time is at least that of the entry before it. Bytes
-- that aren't UTF-8 become U+FFFD.
abbrev pub entries_after : ℕ → List (List ℕ) → List LogEntry
entries_after before [] = []
entries_after before (line ∷ lines) =
    option_map_or (λ entry. entry ∷ entries_after entry.time lines)
    (entry_of (text_of_bytes line) before)
    (entries_after before lines)

-- whether a line begins with a second in brackets
abbrev pub has_clean_second : List ℕ → Bool
has_clean_second line = is_some (second_of (text_of_bytes line))

-- how many lines have none
abbrev pub skipped_in : List (List ℕ) → ℕ
skipped_in lines = length (filter (λ line. not (has_clean_second line)) lines)

-- ---- the whole

abbrev pub log_of_lines : List (List ℕ) → Result Log LogErr
log_of_lines lines =
    option_map_or Err (first_fault 1 lines)
    (Ok (record { entries = entries_after 0 lines; skipped = skipped_in lines }))

-- what the bytes of a log say, or the fault of the first line that passes a limit
abbrev pub log_of : List ℕ → Result Log LogErr
log_of bytes = log_of_lines (lines_of bytes)

-- a book holds what a log says
abbrev pub log_in : Book → Log
log_in book = record { entries = book.entries; skipped = book.skipped }

-- a result is what was read, or out of memory
abbrev pub ReadsLog : Result Book LogErr → Result Log LogErr → Type 0
ReadsLog (Ok book) read = read ≡ Ok (log_in book)
ReadsLog (Err (TooManyLines line)) read = read ≡ Err (TooManyLines line)
ReadsLog (Err (LineTooLong line)) read = read ≡ Err (LineTooLong line)
ReadsLog (Err (Memory _)) read = Unit {0}

-- an error is the fault of a line, or out of memory
abbrev pub TellsLogFault : LogErr → Option LogErr → Type 0
TellsLogFault (Memory _) fault = Unit {0}
TellsLogFault (TooManyLines line) fault = fault ≡ Some (TooManyLines line)
TellsLogFault (LineTooLong line) fault = fault ≡ Some (LineTooLong line)
