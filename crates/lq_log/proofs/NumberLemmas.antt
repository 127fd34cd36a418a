-- Numbers in a line's fields.
use Rattle.std.proofs.Common.{Fits, w32, ℕ, ◌+◌, ◌-◌, ◌*◌, ◌^◌, ◌<◌, ◌≤◌, ◌≡◌, ◌&&◌, Bool, true, false, Some, None, List, [], ◌∷◌, length, fold, refl, ap, arith, nat_lt, nat_le, All, if◌then◌else◌}
use Rattle.std.proofs.lemmas.Bool.Decides.{nat_tests}
use Rattle.std.proofs.lemmas.Bool.{le-leb, lt-ltb}
use Rattle.std.specs.List.{AllByRecursion, list_all}
use Rattle.std.specs.Char.{IsAsciiDigit, is_ascii_digit}
use Rattle.std.proofs.lemmas.List.Elements.{recursion_from_All}
use Rattle.std.proofs.lemmas.List.Sums.{AllPass-from_list_all, list_all-from_AllPass}
use Rattle.std.proofs.Math.Nat.{mul-le-mul_left, pow-suc, pow-le-pow_right}
use Rattle.lq_text.specs.Numbers.{IsNumber, number_of}
use Rattle.lq_log.specs.Fields.{is_attempt}

-- ---- digits

pub digits_hold : (text : List ℕ) → list_all is_ascii_digit text ≡ true → All IsAsciiDigit text
digits_hold text is = λ i d below. let passes = AllPass-from_list_all is_ascii_digit text is i d below in grind (arith, nat_tests, passes)

pub digits_test : (text : List ℕ) → All IsAsciiDigit text → list_all is_ascii_digit text ≡ true
digits_test text digits =
    list_all-from_AllPass is_ascii_digit text (λ i d below. let digit = digits i d below in rw (le-leb 48 _ digit.0, le-leb _ 57 digit.1) refl)

-- ---- how large their number is

next_below : (power n digit rest : ℕ) → digit ≤ 9 → rest < (n * 10 + digit + 1) * power → rest < (n + 1) * (power * 10)
next_below power n digit rest small below =
    let more : power * (n * 10 + digit + 1) ≤ power * (n * 10 + 10) = mul-le-mul_left power (omega arith) in
    grind (arith, more, below)

below_after : (n : ℕ) (digits : List ℕ) → AllByRecursion IsAsciiDigit digits → fold (λ number digit. number * 10 + (digit - 48)) n digits < (n + 1) * 10 ^ length digits
below_after n [] all = grind arith
below_after n (digit ∷ digits) all =
    let small : digit - 48 ≤ 9 = grind (arith, all.0) in
    let next : fold (λ number digit. number * 10 + (digit - 48)) (n * 10 + (digit - 48)) digits < (n + 1) * (10 ^ length digits * 10)
    = next_below (10 ^ length digits) n (digit - 48) _ small (below_after (n * 10 + (digit - 48)) digits all.1) in
    rw (pow-suc 10 (length digits)) next

-- a number of 9 digits at most
pub short_below : (digits : List ℕ) → All IsAsciiDigit digits → length digits ≤ 9 → number_of digits < 10 ^ 9
short_below digits all short =
    let longest : 10 ^ length digits ≤ 10 ^ 9 = pow-le-pow_right {n = 10} (omega arith) short in
    grind (arith, below_after 0 digits (recursion_from_All IsAsciiDigit digits all), longest)

-- ---- attempts

is_number : (text : List ℕ) → list_all is_ascii_digit text ≡ true → 0 < length text → length text ≤ 9 → IsNumber text
is_number text digits some short = record {
  some = some;
  digits = digits_hold text digits;
  fits = grind (arith, short_below text (digits_hold text digits) short);
}

pub attempt_read : (text : List ℕ) (number : ℕ) → length text ≤ 9 → IsNumber text → number ≡ number_of text
    → Some number ≡ (if is_attempt text then Some (number_of text) else None)
attempt_read text number short is value =
    rw (digits_test text is.digits, lt-ltb 0 (length text) is.some, le-leb (length text) 9 short) (ap Some value)

pub attempt_small : (text : List ℕ) (number : ℕ) → length text ≤ 9 → IsNumber text → number ≡ number_of text → Fits w32 number
attempt_small text number short is value = grind (arith, short_below text is.digits short, value)

no_attempt : (text : List ℕ) (digits : Bool) → list_all is_ascii_digit text ≡ digits → length text ≤ 9 → (IsNumber text → ⊥)
    → None ≡ (if digits && nat_lt 0 (length text) && nat_le (length text) 9 then Some (number_of text) else None)
no_attempt text false is short not = refl
no_attempt [] true is short not = refl
no_attempt (digit ∷ digits) true is short not = absurd (not (is_number (digit ∷ digits) is (omega arith) short))

pub attempt_not_read : (text : List ℕ) → length text ≤ 9 → (IsNumber text → ⊥) → None ≡ (if is_attempt text then Some (number_of text) else None)
attempt_not_read text short not = no_attempt text (list_all is_ascii_digit text) refl short not
