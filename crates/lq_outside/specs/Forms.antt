-- What a contract sees of the forms in memory.
use Rattle.std.specs.Prelude.{◌≡◌, ℕ, List, drop, Option, String, find, map, string_bytes}
use Rattle.std.specs.Option.{option_map}
use Rattle.std.specs.Str.{bytes_eq}
use Rattle.std.specs.Global.{Global, Vec}

-- calls that were made, those of them that fail, by number from 0, and the faults so far
pub record Planned : Type 0 where
  pub fail_at : List ℕ
  pub calls : ℕ
  pub faults : ℕ

-- a source in memory: the bytes that it has left, the calls that fail, and its counts
pub record Input : Type 0 where
  pub left : List ℕ
  pub fail_at : List ℕ
  pub calls : ℕ
  pub faults : ℕ

-- a sink in memory: the bytes that it holds and has room for, the calls that fail, and its counts
pub record Output : Type 0 where
  pub held : List ℕ
  pub room : ℕ
  pub fail_at : List ℕ
  pub calls : ℕ
  pub faults : ℕ

-- files in memory: each path with its bytes, the calls that fail, and the counts
pub record FileSet : Type 0 where
  pub pairs : List (List ℕ × List ℕ)
  pub fail_at : List ℕ
  pub calls : ℕ
  pub faults : ℕ

-- what the first pair with this path has
abbrev pub held_in : List (List ℕ × List ℕ) → List ℕ → Option (List ℕ)
held_in pairs path = option_map (λ pair. pair.1) (find (λ pair. bytes_eq pair.0 path) pairs)

-- pairs of a path and a file's bytes, as a contract compares them
abbrev pub file_pairs : List (String Global × Vec ℕ) → List (List ℕ × List ℕ)
file_pairs pairs = map (λ pair. (string_bytes pair.0, pair.1.items)) pairs

-- some of the first bytes are gone
abbrev pub LosesFront : List ℕ → List ℕ → Type 0
LosesFront old new = (count : ℕ) × (new ≡ drop count old)
