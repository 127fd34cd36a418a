-- The lines of a text. A line ends at its line feed, which is byte 10; the last one may lack it.
use Rattle.std.specs.Prelude.{◌≡◌, ℕ, ◌-◌, ◌<◌, ◌≤◌, ◌==◌, List, [], ◌∷◌, length, take, drop, map}
use Rattle.std.specs.Prelude.{slice_index, if◌then◌else◌}
use Rattle.std.specs.List.{onto_first}
use Rattle.std.specs.Str.Lines.{strip_carriage_return}

-- the lines, each with its line feed where it has one
abbrev pub whole_lines : List ℕ → List (List ℕ)
whole_lines [] = []
whole_lines (byte ∷ bytes) =
    if byte == 10 then (byte ∷ []) ∷ whole_lines bytes else onto_first byte (whole_lines bytes)

-- a line without its line feed, and without one carriage return before that
abbrev pub line_text : List ℕ → List ℕ
line_text line =
    if slice_index line (length line - 1) == 10
    then strip_carriage_return (take (length line - 1) line)
    else line

-- the texts of the lines
abbrev pub lines_of : List ℕ → List (List ℕ)
lines_of bytes = map line_text (whole_lines bytes)

-- A line begins at a place, its text goes up to `end`, and the next line begins at `next`.
pub record IsLineAt (bytes : List ℕ) (at end next : ℕ) : Type 0 where
  pub text : at ≤ end
  pub order : end ≤ next
  pub more : at < next
  pub within : next ≤ length bytes
  pub whole :
      whole_lines (drop at bytes) ≡ take (next - at) (drop at bytes) ∷ whole_lines (drop next bytes)
  pub lines :
      lines_of (drop at bytes) ≡ take (end - at) (drop at bytes) ∷ lines_of (drop next bytes)

-- The first line of bytes: its text has `end` bytes, and with its line feed it has `next`.
pub record IsFirstLine (bytes : List ℕ) (end next : ℕ) : Type 0 where
  pub order : end ≤ next
  pub some : 0 < next
  pub within : next ≤ length bytes
  pub whole : whole_lines bytes ≡ take next bytes ∷ whole_lines (drop next bytes)
  pub lines : lines_of bytes ≡ take end bytes ∷ lines_of (drop next bytes)
