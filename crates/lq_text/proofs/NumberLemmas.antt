-- The digits at the front of bytes, and how large their number is.
use Rattle.std.proofs.Common.{ℕ, suc, ◌+◌, ◌-◌, ◌*◌, ◌^◌, ◌<◌, ◌≤◌, ◌≡◌, Bool, true, false, List, [], ◌∷◌, length, take, fold, refl, subst, arith, cond, All}
use Rattle.std.proofs.lemmas.Bool.Decides.{nat_tests}
use Rattle.std.specs.List.{AllByRecursion, prefix_len}
use Rattle.std.specs.Char.{IsAsciiDigit, is_ascii_digit}
use Rattle.std.proofs.lemmas.List.Elements.{recursion_from_All, All-from_recursion}
use Rattle.std.proofs.Math.Nat.{mul-le-mul_left, pow-suc, pow-le-pow_right}
use Rattle.lq_text.specs.Numbers.{number_of}

-- ---- the digits at the front

by_digit : (byte : ℕ) (bytes : List ℕ) (test : Bool) → is_ascii_digit byte ≡ test → AllByRecursion IsAsciiDigit (take (prefix_len is_ascii_digit bytes) bytes)
    → AllByRecursion IsAsciiDigit (take (cond test (1 + prefix_len is_ascii_digit bytes) 0) (byte ∷ bytes))
by_digit byte bytes true is rest =
    let next : suc (prefix_len is_ascii_digit bytes) ≡ 1 + prefix_len is_ascii_digit bytes = omega arith in
    subst (λ count. AllByRecursion IsAsciiDigit (take count (byte ∷ bytes))) next (grind (arith, nat_tests, is), rest)
by_digit byte bytes false is rest = tt

are_digits : (bytes : List ℕ) → AllByRecursion IsAsciiDigit (take (prefix_len is_ascii_digit bytes) bytes)
are_digits [] = tt
are_digits (byte ∷ bytes) = by_digit byte bytes (is_ascii_digit byte) refl (are_digits bytes)

pub front_digits : (bytes : List ℕ) → All IsAsciiDigit (take (prefix_len is_ascii_digit bytes) bytes)
front_digits bytes = All-from_recursion IsAsciiDigit _ (are_digits bytes)

-- ---- their number

next_below : (power n digit rest : ℕ) → digit ≤ 9 → rest < (n * 10 + digit + 1) * power → rest < (n + 1) * (power * 10)
next_below power n digit rest small below =
    let more : power * (n * 10 + digit + 1) ≤ power * (n * 10 + 10) = mul-le-mul_left power (omega arith) in
    grind (arith, more, below)

below_after : (n : ℕ) (digits : List ℕ) → AllByRecursion IsAsciiDigit digits → fold (λ number digit. number * 10 + (digit - 48)) n digits < (n + 1) * 10 ^ length digits
below_after n [] all = grind arith
below_after n (digit ∷ digits) all =
    let small : digit - 48 ≤ 9 = grind (arith, all.0) in
    let next : fold (λ number digit. number * 10 + (digit - 48)) (n * 10 + (digit - 48)) digits < (n + 1) * (10 ^ length digits * 10)
    = next_below (10 ^ length digits) n (digit - 48) _ small (below_after (n * 10 + (digit - 48)) digits all.1) in
    rw (pow-suc 10 (length digits)) next

pub number_below : (digits : List ℕ) → All IsAsciiDigit digits → number_of digits < 10 ^ length digits
number_below digits all = grind (arith, below_after 0 digits (recursion_from_All IsAsciiDigit digits all))

-- a number of 12 digits at most
pub short_below : (digits : List ℕ) → All IsAsciiDigit digits → length digits ≤ 12 → number_of digits < 10 ^ 12
short_below digits all short =
    let longest : 10 ^ length digits ≤ 10 ^ 12 = pow-le-pow_right {n = 10} (omega arith) short in
    grind (arith, number_below digits all, longest)
