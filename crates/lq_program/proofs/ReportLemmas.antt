-- The text of a fault in a line of a file, piece by piece.
use Rattle.std.proofs.Common.{◌≡◌, ℕ, Option, List, [], ◌∷◌, ◌++◌, ◌-◌, length, take, drop, subst, codes, arith}
use Rattle.std.proofs.lemmas.Grind.{common_steps}
use Rattle.std.specs.Io.KnownBytes.{Appends}
use Rattle.std.proofs.KnownBytes.{Appends-trans}
use Rattle.lq_program.specs.Faults.{line}

pub line_reported : (a b c : Option (List ℕ)) (digits what number text : List ℕ) → Appends a b (digits ++ (codes ": " ++ what)) → Appends b c (10 ∷ [])
    → digits ≡ number → what ≡ text → Appends a c (line (number ++ (codes ": " ++ text)))
line_reported a b c digits what number text first second is same =
    let all : Appends a c (line (digits ++ (codes ": " ++ what))) = Appends-trans a b c (digits ++ (codes ": " ++ what)) (10 ∷ []) first second in
    subst (λ n. Appends a c (line (n ++ (codes ": " ++ text)))) is (subst (λ w. Appends a c (line (digits ++ (codes ": " ++ w)))) same all)

-- the rest of a list, as a range of an array
pub whole_rest : (bytes : List ℕ) (n at : ℕ) → length bytes ≡ n → take (n - at) (drop at bytes) ≡ drop at bytes
whole_rest bytes n at is = grind (arith, common_steps, is)
