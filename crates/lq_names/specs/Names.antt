-- The names of objects, and the places where they are found.
use Rattle.std.specs.Prelude.{ℕ, ◌&&◌, Bool, Option, List, [], bytes_eq}
use Rattle.std.specs.List.{position}

-- A name. A service's has two parts: its host's name and its description. Any other has an empty
-- second part.
pub record ObjectName : Type 0 where
  pub first : List ℕ
  pub second : List ℕ

-- a name of one part
abbrev pub single : List ℕ → ObjectName
single text = record { first = text; second = [] }

-- both parts
abbrev pub both_parts : ObjectName → List ℕ × List ℕ
both_parts name = (name.first, name.second)

abbrev pub is_equal_name : ObjectName → ObjectName → Bool
is_equal_name a b = bytes_eq a.first b.first && bytes_eq a.second b.second

-- where a name first stands among others
abbrev pub place_of : List ObjectName → ObjectName → Option ℕ
place_of names name = position (is_equal_name name) names
