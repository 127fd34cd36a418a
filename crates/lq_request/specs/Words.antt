-- Words that a vector borrows.
use Rattle.std.specs.Prelude.{ℕ, List, map}
use Rattle.std.specs.Global.{Vec}
use Rattle.std.specs.Borrow.{Bor}

-- the words, without where they lie in memory
abbrev pub texts : Vec (Bor (List ℕ)) → List (List ℕ)
texts words = map (λ word. word.now) words.items
