-- What is added to the body of a reply. Each of these holds of whichever lines stand before.
use Rattle.std.specs.Prelude.{◌≡◌, ℕ, ◌<◌, Bool, List, [], ◌∷◌, ◌++◌, length, map, take}
use Rattle.std.specs.Prelude.{if◌then◌else◌}
use Rattle.lq_output.specs.Body.{body_limit, body_text}
use Rattle.lq_output.specs.Writing.{Writes, Writing}
use Rattle.lq_schema.specs.declared.columns.Col.{Col}
use Rattle.lq_schema.specs.Value.{Value}
use Rattle.lq_tables.specs.Cells.{cell_of}
use Rattle.lq_tables.specs.declared.row.Row.{Row}
use Rattle.lq_query.specs.declared.sight.Sight.{Sight}
use Rattle.lq_request.specs.declared.request.Request.{Request}
use Rattle.lq_query.specs.Answer.{window_of}
use Rattle.lq_query.specs.Rows.{row_cells, seen_rows}

-- these cells follow in the open line
pub record AddsCells (old new : Writing) (cells : List Value) : Type 0 where
  pub layout : new.layout ≡ old.layout
  pub written : (before : List (List Value)) (front : List Value)
      → Writes old before front → Writes new before (front ++ cells)

-- with these cells the body is too large, whatever follows them
abbrev pub AreTooLarge : Writing → List Value → Type 0
AreTooLarge old cells =
    (before : List (List Value)) (front : List Value) → Writes old before front
    → (later : List Value) (more : List (List Value))
    → body_limit < length (body_text old.layout (before ++ (front ++ (cells ++ later)) ∷ more))

-- these lines follow
pub record HasLines (old new : Writing) (lines : List (List Value)) : Type 0 where
  pub layout : new.layout ≡ old.layout
  pub written : (before : List (List Value))
      → Writes old before [] → Writes new (before ++ lines) []

-- with these lines the body is too large, whatever follows them
abbrev pub IsTooLarge : Writing → List (List Value) → Type 0
IsTooLarge old lines =
    (before : List (List Value)) → Writes old before [] → (more : List (List Value))
    → body_limit < length (body_text old.layout (before ++ (lines ++ more)))

-- ---- rows

-- the values that a row has in the columns, at a state of which a query sees a part
abbrev pub seen_cells : Sight → Row → Col → Value
seen_cells sight = cell_of sight.live.now.state sight.view.now

-- the rows of a query's table, as far as it sees them
abbrev pub rows_in : Sight → Request → List (Col → Value)
rows_in sight request =
    seen_rows sight.live.now.state sight.view.now (window_of request sight.live.now.state)
    request.table

-- the rows that are marked
abbrev pub rows_with_marks : List Bool → List Row → List Row
rows_with_marks [] rows = []
rows_with_marks (mark ∷ marks) [] = []
rows_with_marks (mark ∷ marks) (row ∷ rows) =
    if mark then row ∷ rows_with_marks marks rows else rows_with_marks marks rows

-- the lines of the first of some rows
abbrev pub first_rows : List Col → ℕ → List (Col → Value) → List (List Value)
first_rows columns most rows = map (row_cells columns) (take most rows)
