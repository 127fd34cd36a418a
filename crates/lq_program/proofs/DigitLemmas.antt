-- The digits of a number, written from its last one.
use Rattle.std.proofs.Common.{◌≡◌, ℕ, ◌+◌, ◌/◌, ◌%◌, ◌^◌, ◌<◌, ◌≤◌, List, [], ◌∷◌, ◌++◌, length, drop, refl, sym, ap, ◌∙◌, arith, append_assoc, length-append, length-drop}
use Rattle.std.proofs.Math.ListN.{set}
use Rattle.std.specs.Fmt.{decimal}
use Rattle.std.proofs.lemmas.Fmt.{decimal_digit, decimal_step, decimal_nonempty, length-decimal-le}
use Rattle.std.proofs.lemmas.Grind.{drop-set_at}

-- while a number has two digits more is free than one place
pub digits_room : (number rest at : ℕ) (digits : List ℕ) → number < 2 ^ 64 → rest < 2 ^ 64 → length digits ≡ 20 → at < 20
    → decimal rest ++ drop (at + 1) digits ≡ decimal number → 10 ≤ rest → 0 < at
digits_room number rest at digits small less size within is two =
    let last : length (decimal rest) ≡ length (decimal (rest / 10)) + 1 = ap length (decimal_step rest two less) ∙ length-append (decimal (rest / 10)) ((48 + rest % 10) ∷ []) in
    let first : 0 < length (decimal (rest / 10)) = decimal_nonempty (rest / 10) (omega arith) in
    let most : length (decimal number) ≤ 20 = length-decimal-le 20 number (omega arith) (omega arith) small in
    let whole : length (decimal rest) + length (drop (at + 1) digits) ≡ length (decimal number) = sym (length-append (decimal rest) (drop (at + 1) digits)) ∙ ap length is in
    omega (arith, last, first, most, whole, length-drop (at + 1) digits)

-- one more digit
pub digits_next : (rest at : ℕ) (digits : List ℕ) → rest < 2 ^ 64 → 10 ≤ rest → at < length digits
    → decimal (rest / 10) ++ drop at (set digits at (48 + rest % 10)) ≡ decimal rest ++ drop (at + 1) digits
digits_next rest at digits less two within =
    ap (λ back. decimal (rest / 10) ++ back) (drop-set_at digits at at (48 + rest % 10) refl within)
    ∙ sym (append_assoc (decimal (rest / 10)) ((48 + rest % 10) ∷ []) (drop (at + 1) digits))
    ∙ ap (λ front. front ++ drop (at + 1) digits) (sym (decimal_step rest two less))

-- the first digit
pub digits_first : (rest at : ℕ) (digits : List ℕ) → rest < 10 → at < length digits → drop at (set digits at (48 + rest)) ≡ decimal rest ++ drop (at + 1) digits
digits_first rest at digits one within =
    drop-set_at digits at at (48 + rest) refl within ∙ ap (λ front. front ++ drop (at + 1) digits) (sym (decimal_digit rest one))
