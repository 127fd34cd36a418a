-- The text of lines and of whole bodies, in the formats of the manual's header `OutputFormat`.
use Rattle.std.specs.Prelude.{ℕ, List, [], ◌∷◌, ◌++◌, map}
use Rattle.lq_schema.specs.Value.{Value}
use Rattle.lq_output.specs.Cells.{cell_text, joined_texts}
use Rattle.lq_records.specs.declared.format.Format.{Format}
use Rattle.lq_records.specs.declared.format.Format.TheVariants as format
use Rattle.lq_output.specs.declared.layout.Layout.{Layout}
use Rattle.lq_records.specs.declared.format.Separators.{Separators}

-- what stands around lines and cells, and between them
pub record Marks : Type 0 where
  pub start : List ℕ
  pub between_lines : List ℕ
  pub line_start : List ℕ
  pub between_cells : List ℕ
  pub line_end : List ℕ
  pub finish : List ℕ

-- csv ends each line by the row separator and CSV by CR LF. In json a line is a list, and the body
-- is a list of them with `,` and a line feed between them, and a line feed at its end.
abbrev pub marks_in : Format → Separators → Marks
marks_in format.Csv separators = record {
  start = [];
  between_lines = [];
  line_start = [];
  between_cells = separators.column ∷ [];
  line_end = separators.row ∷ [];
  finish = [];
}
marks_in format.Quoted separators = record {
  start = [];
  between_lines = [];
  line_start = [];
  between_cells = 44 ∷ [];
  line_end = 13 ∷ 10 ∷ [];
  finish = [];
}
marks_in format.Json separators = record {
  start = 91 ∷ [];
  between_lines = 44 ∷ 10 ∷ [];
  line_start = 91 ∷ [];
  between_cells = 44 ∷ [];
  line_end = 93 ∷ [];
  finish = 93 ∷ 10 ∷ [];
}

abbrev pub marks_of : Layout → Marks
marks_of layout = marks_in layout.format layout.separators

-- a line of cells
abbrev pub line_of_values : Layout → List Value → List ℕ
line_of_values layout cells =
    let marks = marks_of layout in
    marks.line_start
    ++ (joined_texts marks.between_cells (map (cell_text layout) cells) ++ marks.line_end)

-- a body of lines
abbrev pub body_text : Layout → List (List Value) → List ℕ
body_text layout lines =
    let marks = marks_of layout in
    marks.start
    ++ (joined_texts marks.between_lines (map (line_of_values layout) lines) ++ marks.finish)

-- the most bytes of a body
abbrev pub body_limit : ℕ
body_limit = 8388608
