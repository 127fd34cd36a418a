-- A cell that comes at a spot of a body.
use Rattle.std.specs.Prelude.{ℕ, ◌+◌, List, ◌++◌, length}
use Rattle.lq_schema.specs.Value.{Value}
use Rattle.lq_output.specs.Body.{marks_of}
use Rattle.lq_output.specs.Cells.{cell_text}
use Rattle.lq_output.specs.Writing.{gap_of_cell}
use Rattle.lq_output.specs.declared.layout.Spot.{Spot}

-- what stands before the cell
abbrev pub gap_at : Spot → List ℕ
gap_at spot = gap_of_cell (marks_of spot.layout) spot.has_line spot.has_cell

-- the cell with what stands before it
abbrev pub text_at : Spot → Value → List ℕ
text_at spot value = gap_at spot ++ cell_text spot.layout value

-- how many bytes a body has with the cell, its line and the body ended after it
abbrev pub ended_length : Spot → List ℕ → Value → ℕ
ended_length spot body value =
    let marks = marks_of spot.layout in
    length body + length (text_at spot value) + (length marks.line_end + length marks.finish)
