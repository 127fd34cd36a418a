-- What the history of an object rests on.
use Rattle.std.specs.Prelude.{◌≡◌, ℕ, ◌||◌, Bool, false, Option, List, [], map, filter}
use Rattle.std.specs.List.{AllByRecursion, slice_get}
use Rattle.std.specs.Option.{option_and_then, option_map_or}
use Rattle.lq_records.specs.Object.{is_same_object}
use Rattle.lq_records.specs.declared.base.Base.{Base}
use Rattle.lq_records.specs.declared.object.Object.{Object}
use Rattle.lq_records.specs.declared.object.Object.TheVariants as object
use Rattle.lq_events.specs.declared.log_entry.LogEntry.{LogEntry}
use Rattle.lq_log.specs.Told.{object_of}
use Rattle.lq_auth.specs.Lines.{is_transition}
use Rattle.lq_statehist.specs.Facts.{Facts, Subject, known_at}
use Rattle.lq_statehist.specs.Notes.{notes_of}
use Rattle.lq_statehist.specs.Tiling.{HistoryPiece, pieces_between}

-- ---- its own lines

abbrev pub is_about : Base → Object → LogEntry → Bool
is_about base about entry = option_map_or (is_same_object about) (object_of base entry) false

-- whether a line is about an object, about its host, or about a time period
abbrev pub concerns : Base → Subject → LogEntry → Bool
concerns base about entry =
    is_about base about.object entry || is_about base (object.Host about.host) entry
    || is_transition entry.kind

-- the seconds of a piece and what is told there, but not which lines tell it
pub record Shown : Type 0 where
  pub from : ℕ
  pub until : ℕ
  pub facts : Facts

abbrev pub shown_piece : HistoryPiece → Shown
shown_piece piece =
    record { from = piece.from; until = piece.until; facts = piece.known.facts }

-- logs that agree in the lines that concern an object show the same history of it
abbrev pub IsOwnHistory : Type 0
IsOwnHistory = (base : Base) (about : Subject) (xs ys : List LogEntry)
    → filter (concerns base about) xs ≡ filter (concerns base about) ys → (from until : ℕ)
    → map shown_piece (pieces_between (known_at about (notes_of base xs)) from until)
    ≡ map shown_piece (pieces_between (known_at about (notes_of base ys)) from until)

-- ---- outputs

-- the output of the line at a place, empty without one
abbrev pub output_of_line : List LogEntry → Option ℕ → List ℕ
output_of_line log line =
    option_map_or (λ entry. entry.output) (option_and_then (slice_get log) line) []

-- the line that a piece carries has the output that is told there
abbrev pub HaveOutputs : Type 0
HaveOutputs = (base : Base) (about : Subject) (log : List LogEntry) (from until : ℕ)
    → AllByRecursion (λ piece. output_of_line log piece.known.line ≡ piece.known.facts.output)
    (pieces_between (known_at about (notes_of base log)) from until)
