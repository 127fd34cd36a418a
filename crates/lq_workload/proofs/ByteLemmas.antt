-- Bytes that end no line, and the bytes of numbers.
use Rattle.std.proofs.Common.{◌≡◌, ℕ, ◌+◌, ◌%◌, ◌^◌, ◌<◌, ◌≤◌, Bool, true, List, [], ◌∷◌, ◌++◌, refl, ◌∙◌, arith}
use Rattle.std.specs.Prelude.{◌==◌, ◌&&◌, not, nat_le}
use Rattle.std.specs.Fmt.{decimal}
use Rattle.std.specs.List.{list_all}
use Rattle.std.proofs.lemmas.Bool.{and_from, and_parts, le-leb, leb-true, ne_eqb, not_from_false}
use Rattle.std.proofs.lemmas.Fmt.{decimal_by_steps}
use Rattle.std.proofs.lemmas.List.Folds.{list_all-append}

-- neither a line feed nor a carriage return
abbrev pub is_inner : ℕ → Bool
is_inner byte = not (byte == 10) && not (byte == 13)

abbrev pub is_digit : ℕ → Bool
is_digit byte = nat_le 48 byte && nat_le byte 57

pub list_all-weaker : (p q : ℕ → Bool) → ((byte : ℕ) → p byte ≡ true → q byte ≡ true) → (bytes : List ℕ) → list_all p bytes ≡ true → list_all q bytes ≡ true
list_all-weaker p q step [] all = refl
list_all-weaker p q step (byte ∷ bytes) all =
    let both = and_parts (p byte) (list_all p bytes) all in
    and_from (q byte) (list_all q bytes) (step byte both.0) (list_all-weaker p q step bytes both.1)

pub list_all-both : (p : ℕ → Bool) (front back : List ℕ) → list_all p front ≡ true → list_all p back ≡ true → list_all p (front ++ back) ≡ true
list_all-both p front back first second = list_all-append p front back ∙ and_from (list_all p front) (list_all p back) first second

last_digit : (n : ℕ) → n < 10 → list_all is_digit ((48 + n) ∷ []) ≡ true
last_digit n small =
    and_from (is_digit (48 + n)) true (and_from (nat_le 48 (48 + n)) (nat_le (48 + n) 57) (le-leb 48 (48 + n) (omega arith)) (le-leb (48 + n) 57 (omega arith))) refl

pub decimal_digits : (n : ℕ) → n < 2 ^ 64 → list_all is_digit (decimal n) ≡ true
decimal_digits n small =
    decimal_by_steps (λ m digits. list_all is_digit digits ≡ true) last_digit
    (λ m digits two before. list_all-both is_digit digits ((48 + m % 10) ∷ []) before (last_digit (m % 10) (omega arith))) n small

digit_inner : (byte : ℕ) → is_digit byte ≡ true → is_inner byte ≡ true
digit_inner byte digit =
    let least : 48 ≤ byte = leb-true 48 byte (and_parts (nat_le 48 byte) (nat_le byte 57) digit).0 in
    and_from (not (byte == 10)) (not (byte == 13)) (not_from_false (byte == 10) (ne_eqb byte 10 (λ is. omega (arith, is, least))))
    (not_from_false (byte == 13) (ne_eqb byte 13 (λ is. omega (arith, is, least))))

pub decimal_inner : (n : ℕ) → n < 2 ^ 64 → list_all is_inner (decimal n) ≡ true
decimal_inner n small = list_all-weaker is_digit is_inner digit_inner (decimal n) (decimal_digits n small)
