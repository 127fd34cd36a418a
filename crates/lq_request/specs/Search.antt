-- How far the bytes of a message were looked over, so that a later search goes on from there.
use Rattle.std.specs.Prelude.{◌≡◌, ◌≢◌, ℕ, ◌-◌, ◌<◌, ◌≤◌, Bool, false, List, [], ◌∷◌, ◌++◌, take}
use Rattle.std.specs.Prelude.{drop, length, slice_index}
use Rattle.lq_text.specs.Lines.{whole_lines, line_text}
use Rattle.lq_request.specs.declared.extent.LineKind.{LineKind}
use Rattle.lq_request.specs.declared.extent.LineKind.TheVariants as kind
use Rattle.lq_request.specs.Messages.{front_lines, is_command}

-- the bytes are lines of a kind, each with its line feed, whatever follows them
abbrev pub AreLines : LineKind → List ℕ → Type 0
AreLines kind lines =
    (rest : List ℕ) → front_lines kind (lines ++ rest) ≡ lines ++ front_lines kind rest

-- whether the first line is a command's
abbrev pub begins_command : List (List ℕ) → Bool
begins_command [] = false
begins_command (line ∷ lines) = is_command (line_text line)

-- The bytes up to the place `next` were looked over: they are empty lines up to the place `text`,
-- and from there on the first lines of a query.
pub record IsSearched (text next : ℕ) (bytes : List ℕ) : Type 0 where
  pub order : text ≤ next
  pub within : next ≤ length bytes
  pub empty : AreLines kind.Empty (take text bytes)
  pub lines : AreLines kind.Text (take (next - text) (drop text bytes))
  pub query : text < next → (rest : List ℕ)
      → begins_command (whole_lines (take (next - text) (drop text bytes) ++ rest)) ≡ false

-- The same, and from the place `next` up to the place `seen` no line feed stands.
pub record IsKnown (text next seen : ℕ) (bytes : List ℕ) : Type 0 where
  pub searched : IsSearched text next bytes
  pub order : next ≤ seen
  pub within : seen ≤ length bytes
  pub unfed : (k : ℕ) → next ≤ k → k < seen → slice_index bytes k ≢ 10
