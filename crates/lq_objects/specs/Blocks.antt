-- The lines of an object file, and the parts that they make.
use Rattle.std.specs.Prelude.{ℕ, ◌+◌, ◌-◌, ◌==◌, ◌&&◌, ◌||◌, nat_lt, nat_eq, Bool, not, Option}
use Rattle.std.specs.Prelude.{Some, None, List, [], ◌∷◌, length, take, drop, map, filter, find}
use Rattle.std.specs.Prelude.{reverse, bytes_eq, codes, slice_index, if◌then◌else◌}
use Rattle.std.specs.List.{enumerate_from, list_any, starts_with}
use Rattle.std.specs.Option.{option_map}
use Rattle.lq_text.specs.Blanks.{is_blank, without_blanks}
use Rattle.lq_text.specs.Lines.{lines_of}

-- ---- lines

-- a line: its number in the file, from 1, and its text without the blanks at both ends
pub record Line : Type 0 where
  pub number : ℕ
  pub text : List ℕ

abbrev pub numbered_line : ℕ × List ℕ → Line
numbered_line entry = record { number = entry.0 + 1; text = without_blanks entry.1 }

-- empty lines and lines that begin with `#` say nothing
abbrev pub is_telling : Line → Bool
is_telling line = nat_lt 0 (length line.text) && not (slice_index line.text 0 == 35)

-- the lines that say something, after the first `before` lines of the file
abbrev pub telling_after : ℕ → List (List ℕ) → List Line
telling_after before lines = filter is_telling (map numbered_line (enumerate_from before lines))

abbrev pub telling_lines : List ℕ → List Line
telling_lines bytes = telling_after 0 (lines_of bytes)

-- the one word of a text, where it has exactly one
abbrev pub one_word : List ℕ → Option (List ℕ)
one_word text =
    if length (without_blanks text) == 0 || list_any is_blank (without_blanks text) then None
    else Some (without_blanks text)

-- a line that opens a block is `define`, blanks, one word, blanks or none, `{`
abbrev pub is_opening_text : List ℕ → Bool
is_opening_text text =
    starts_with nat_eq text (codes "define") && is_blank (slice_index text 6)
    && (slice_index text (length text - 1) == 123)

-- the word of a line that opens a block
abbrev pub opened_word : List ℕ → Option (List ℕ)
opened_word text =
    if is_opening_text text then one_word (take (length text - 7) (drop 6 text)) else None

-- a line `}` closes a block
abbrev pub is_closing : Line → Bool
is_closing line = bytes_eq line.text (codes "}")

-- ---- parts

-- A part of the file: the lines up to a line `}`, and that line. It lacks at the end of the file
-- alone.
pub record Part : Type 0 where
  pub lines : List Line
  pub closing : Option Line

abbrev pub begin_part : Line → List Part → List Part
begin_part line [] = record { lines = line ∷ []; closing = None } ∷ []
begin_part line (part ∷ parts) = record part { lines = line ∷ part.lines } ∷ parts

abbrev pub parts_of : List Line → List Part
parts_of [] = []
parts_of (line ∷ lines) =
    if is_closing line then record { lines = []; closing = Some line } ∷ parts_of lines
    else begin_part line (parts_of lines)

-- ---- directives

-- a directive's name stands at the front of its line, and a blank or nothing follows it
abbrev pub is_named : List ℕ → List ℕ → Bool
is_named name text =
    starts_with nat_eq text name
    && ((length text == length name) || is_blank (slice_index text (length name)))

-- its value follows the blanks
abbrev pub value_of : List ℕ → List ℕ → List ℕ
value_of name text = without_blanks (drop (length name) text)

-- the value of the directive with a name; of several the last decides
abbrev pub directive : List ℕ → List Line → Option (List ℕ)
directive name lines =
    option_map (λ line. value_of name line.text)
    (find (λ line. is_named name line.text) (reverse lines))
