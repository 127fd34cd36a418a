-- Lines of names.
use Rattle.std.proofs.Common.{◌≡◌, ℕ, suc, Bool, true, false, refl, ◌+◌, ◌-◌, ◌<◌, List, [], ◌∷◌, ◌++◌, ap, ◌∙◌, append_assoc, arith}
use Rattle.lq_schema.specs.Value.{Value, Words}
use Rattle.lq_query.specs.Answer.{stat_name, stat_names, with_names}

pub next_name : (names : List Value) (place count : ℕ) (all : List Value) → place < count → names ++ stat_names (place + 1) (count - place) ≡ all
    → (names ++ Words (stat_name (place + 1)) ∷ []) ++ stat_names (place + 1 + 1) (count - (place + 1)) ≡ all
next_name names place count all within is =
    let left : suc (count - (place + 1)) ≡ count - place = omega (arith, within) in
    append_assoc names (Words (stat_name (place + 1)) ∷ []) (stat_names (place + 1 + 1) (count - (place + 1)))
    ∙ ap (λ n. names ++ stat_names (place + 1) n) left ∙ is

-- the names and then the lines
pub names_first : (head : Bool) (names : List Value) (lines : List (List Value)) → with_names head names [] ++ lines ≡ with_names head names lines
names_first true names lines = refl
names_first false names lines = refl
