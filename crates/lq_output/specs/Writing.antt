-- What a writer has written, and which lines and cells that is.
use Rattle.std.specs.Prelude.{◌≡◌, ℕ, ◌<◌, ◌≤◌, Bool, true, false, List, [], ◌∷◌, ◌++◌, length, map}
use Rattle.std.specs.Prelude.{if◌then◌else◌, ◌⊎◌, ◌+◌}
use Rattle.lq_records.specs.declared.format.Format.TheVariants as format
use Rattle.lq_schema.specs.Value.{Value}
use Rattle.lq_output.specs.Body.{Marks, body_limit, body_text, line_of_values, marks_of}
use Rattle.lq_output.specs.Cells.{cell_text, joined_texts}
use Rattle.lq_output.specs.declared.layout.Layout.{Layout}

-- the bytes so far, whether a line was ended, and whether the open line has a cell
pub record Writing : Type 0 where
  pub layout : Layout
  pub body : List ℕ
  pub has_line : Bool
  pub has_cell : Bool

-- ---- steps

-- what stands before a line: nothing before the first one
abbrev pub gap_of_line : Marks → Bool → List ℕ
gap_of_line marks has_line = if has_line then marks.between_lines else []

-- what stands before a cell
abbrev pub gap_of_cell : Marks → Bool → Bool → List ℕ
gap_of_cell marks has_line has_cell =
    if has_cell then marks.between_cells else gap_of_line marks has_line ++ marks.line_start

abbrev pub nothing_written : Layout → Writing
nothing_written layout =
    record { layout = layout; body = (marks_of layout).start; has_line = false; has_cell = false }

-- with one more cell in the open line
abbrev pub with_cell : Writing → Value → Writing
with_cell w value =
    let gap = gap_of_cell (marks_of w.layout) w.has_line w.has_cell in
    record w { body = w.body ++ (gap ++ cell_text w.layout value); has_cell = true }

-- with the open line ended
abbrev pub with_line_end : Writing → Writing
with_line_end w = record w {
  body = w.body ++ (marks_of w.layout).line_end;
  has_line = true;
  has_cell = false;
}

-- the whole body, with the open line as if ended where it has a cell
abbrev pub whole_body : Writing → List ℕ
whole_body w =
    w.body
    ++ ((if w.has_cell then (marks_of w.layout).line_end else []) ++ (marks_of w.layout).finish)

-- ---- which lines and cells

abbrev pub is_some_of : {X : Type 0} → List X → Bool
is_some_of [] = false
is_some_of (x ∷ xs) = true

-- the text of an open line: nothing before its first cell
abbrev pub open_text : Layout → List (List Value) → List Value → List ℕ
open_text layout lines [] = []
open_text layout lines (cell ∷ cells) =
    gap_of_line (marks_of layout) (is_some_of lines)
    ++ ((marks_of layout).line_start
    ++ joined_texts (marks_of layout).between_cells (map (cell_text layout) (cell ∷ cells)))

-- the text of lines and of the cells in the open one
abbrev pub so_far : Layout → List (List Value) → List Value → List ℕ
so_far layout lines cells =
    (marks_of layout).start
    ++ (joined_texts (marks_of layout).between_lines (map (line_of_values layout) lines)
    ++ open_text layout lines cells)

-- these lines were written, and these cells of the open one
pub record Writes (w : Writing) (lines : List (List Value)) (cells : List Value) : Type 0 where
  pub body : w.body ≡ so_far w.layout lines cells
  pub has_line : w.has_line ≡ is_some_of lines
  pub has_cell : w.has_cell ≡ is_some_of cells

-- the lines with the open one, where it has a cell
abbrev pub all_lines : List (List Value) → List Value → List (List Value)
all_lines lines [] = lines
all_lines lines (cell ∷ cells) = lines ++ (cell ∷ cells) ∷ []

-- Each of these holds of whichever lines and cells were written before.

-- the cell follows in the open line
abbrev pub AddsCell : Writing → Writing → Value → Type 0
AddsCell old new value =
    (lines : List (List Value)) (cells : List Value)
    → Writes old lines cells → Writes new lines (cells ++ value ∷ [])

-- the open line is now the last of the lines
abbrev pub EndsLine : Writing → Writing → Type 0
EndsLine old new =
    (lines : List (List Value)) (cells : List Value)
    → Writes old lines cells → Writes new (lines ++ cells ∷ []) []

-- these lines follow, where no line is open
abbrev pub AddsLines : Writing → Writing → List (List Value) → Type 0
AddsLines old new added =
    (lines : List (List Value)) → Writes old lines [] → Writes new (lines ++ added) []

-- whether lines of one text each can be written at once: in csv, where no line is open
pub record TakesLines (w : Writing) : Type 0 where
  pub format : w.layout.format ≡ format.Csv
  pub closed : w.has_cell ≡ false

-- what holds of the first of the rows that are left, where some are
abbrev pub OfFirst : {Row : Type 0} → List Row → (Row → Type 0) → Type 0
OfFirst left Holds = (row : _) (later : List _) → left ≡ row ∷ later → Holds row

-- a line for which a body of this many bytes has no room, or that has more than 4,096 itself
abbrev pub HasNoRoom : ℕ → List ℕ → Type 0
HasNoRoom count line = (4096 < length line) ⊎ (body_limit < count + length line)

-- the text of the lines, with the open one as if ended where it has a cell, isn't too large
abbrev pub IsWithinLimit : Writing → Type 0
IsWithinLimit w =
    (lines : List (List Value)) (cells : List Value) → Writes w lines cells
    → length (body_text w.layout (all_lines lines cells)) ≤ body_limit

-- with the cell the text is too large, whatever cells and lines follow
abbrev pub IsTooLargeWith : Writing → Value → Type 0
IsTooLargeWith w value =
    (lines : List (List Value)) (cells : List Value) → Writes w lines cells
    → (later : List Value) (more : List (List Value))
    → body_limit < length (body_text w.layout (lines ++ (cells ++ value ∷ later) ∷ more))

-- the body is the text of the lines
abbrev pub IsTextOfLines : Writing → List ℕ → Type 0
IsTextOfLines w body =
    (lines : List (List Value)) → Writes w lines [] → body ≡ body_text w.layout lines
