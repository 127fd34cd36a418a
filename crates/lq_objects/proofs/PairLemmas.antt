-- Names in pairs.
use Rattle.std.proofs.Common.{◌≡◌, ℕ, ◌+◌, ◌<◌, ◌≤◌, Option, None, List, [], ◌∷◌, length, map, drop, refl, sym, ap, ◌∙◌, arith}
use Rattle.std.specs.Borrow.{Bor}
use Rattle.std.specs.Option.{option_map}
use Rattle.std.proofs.lemmas.List.{length-drop}
use Rattle.lq_records.specs.Clean.{text_of_bytes}
use Rattle.lq_names.specs.Names.{ObjectName}
use Rattle.lq_objects.specs.Names.{names_in_pairs}
use Rattle.lq_objects.specs.Views.{lent_texts}

none_of_one : (rest : List (Bor (List ℕ))) → 0 < length rest → length rest ≤ 1 → names_in_pairs (map text_of_bytes (lent_texts rest)) ≡ None
none_of_one [] some few = absurd (omega (arith, some))
none_of_one (piece ∷ []) some few = refl
none_of_one (first ∷ second ∷ rest) some few = absurd (omega (arith, few))

-- a last piece without its second
pub pairs_of-odd : (f : List ObjectName → List ObjectName) (pieces : List (Bor (List ℕ))) (at : ℕ) (all : Option (List ObjectName)) → at < length pieces → length pieces ≤ at + 1
    → option_map f (names_in_pairs (map text_of_bytes (lent_texts (drop at pieces)))) ≡ all → None ≡ all
pairs_of-odd f pieces at all some few pairs =
    let left = length-drop at pieces in
    sym (ap (option_map f) (none_of_one (drop at pieces) (omega (arith, some, left)) (omega (arith, few, left)))) ∙ pairs
