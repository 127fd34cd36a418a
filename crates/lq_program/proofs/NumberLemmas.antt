-- The number of a workload, as its digits say it.
use Rattle.std.proofs.Common.{◌≡◌, ℕ, ◌^◌, ◌<◌, ◌≤◌, Bool, true, false, Some, None, List, length, refl, ap, sym, ◌∙◌, arith}
use Rattle.std.specs.Prelude.{◌&&◌, nat_le, nat_lt, if◌then◌else◌}
use Rattle.std.specs.List.{list_all}
use Rattle.std.specs.Char.{is_ascii_digit}
use Rattle.std.proofs.lemmas.Bool.{and_parts, le-leb, leb-true, lt-ltb, ltb-true}
use Rattle.std.proofs.lemmas.List.Sums.{AllPass-from_list_all, list_all-from_AllPass}
use Rattle.lq_text.specs.Numbers.{IsNumber, number_of}
use Rattle.lq_program.specs.CommandLine.{number_up_to}

pub number_some : (most : ℕ) (digits : List ℕ) (n : ℕ) → IsNumber digits → n ≡ number_of digits → n ≤ most → Some n ≡ number_up_to most digits
number_some most digits n number is few =
    let plain : list_all is_ascii_digit digits ≡ true =
    list_all-from_AllPass is_ascii_digit digits (λ i d below. let digit = number.digits i d below in rw (le-leb 48 _ digit.0, le-leb _ 57 digit.1) refl) in
    let small : number_of digits ≤ most = omega (arith, is, few) in
    ap Some is ∙ sym (rw (lt-ltb 0 (length digits) number.some, plain, le-leb (number_of digits) most small) refl)

unless : (test : Bool) (number : ℕ) → (test ≡ true → ⊥) → None ≡ (if test then Some number else None)
unless true number other = absurd (other refl)
unless false number other = refl

-- digits up to a number below 2 ^ 64 are read
pub number_none : (most : ℕ) (digits : List ℕ) → most < 2 ^ 64 → (IsNumber digits → ⊥) → None ≡ number_up_to most digits
number_none most digits small none =
    let some : Bool = nat_lt 0 (length digits) in
    let plain : Bool = list_all is_ascii_digit digits in
    unless ((some && plain) && nat_le (number_of digits) most) (number_of digits) (λ all.
    let both = and_parts (some && plain) (nat_le (number_of digits) most) all in
    let front = and_parts some plain both.0 in
    let fits : number_of digits ≤ most = leb-true (number_of digits) most both.1 in
    none (record {
      some = ltb-true 0 (length digits) front.0;
      digits = λ i d below.
          let digit = and_parts (nat_le 48 _) (nat_le _ 57) (AllPass-from_list_all is_ascii_digit digits front.1 i d below) in
          (leb-true 48 _ digit.0, leb-true _ 57 digit.1);
      fits = omega (arith, fits, small);
    }))
