-- Texts one after another.
use Rattle.std.specs.Prelude.{ℕ, zero, suc, List, [], ◌++◌}

-- the texts of the numbers below a number, in order
unfoldable pub texts_below : ℕ → (ℕ → List ℕ) → List ℕ
texts_below zero text = []
texts_below (suc count) text = texts_below count text ++ text count
