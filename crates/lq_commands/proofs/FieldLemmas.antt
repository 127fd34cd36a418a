-- Numbers in fields.
use Rattle.std.proofs.Common.{◌≡◌, ℕ, ◌^◌, ◌&&◌, Bool, true, Option, Some, None, List, length, nat_lt, get_or, refl, ap, ◌∙◌}
use Rattle.std.specs.Prelude.{nat_le}
use Rattle.std.specs.Char.{is_ascii_digit}
use Rattle.std.specs.List.{list_all}
use Rattle.std.specs.Option.{SomeIff}
use Rattle.std.proofs.lemmas.Bool.{and_parts, cond_both, leb-true, le-leb, lt-ltb, ltb-true}
use Rattle.std.proofs.lemmas.List.Sums.{AllPass-from_list_all, list_all-from_AllPass}
use Rattle.lq_text.specs.Numbers.{IsNumber, number_of}
use Rattle.lq_commands.specs.Fields.{number}

abbrev is_number : List ℕ → Bool
is_number digits = nat_lt 0 (length digits) && list_all is_ascii_digit digits && nat_lt (number_of digits) (2 ^ 64)

passes : (digits : List ℕ) → IsNumber digits → is_number digits ≡ true
passes digits is =
    let each : list_all is_ascii_digit digits ≡ true =
    list_all-from_AllPass is_ascii_digit digits (λ i d below. let digit = is.digits i d below in rw (le-leb 48 _ digit.0, le-leb _ 57 digit.1) refl) in
    rw (lt-ltb 0 (length digits) is.some, each, lt-ltb (number_of digits) (2 ^ 64) is.fits) refl

from_passes : (digits : List ℕ) → is_number digits ≡ true → IsNumber digits
from_passes digits passes =
    let last = and_parts (nat_lt 0 (length digits) && list_all is_ascii_digit digits) (nat_lt (number_of digits) (2 ^ 64)) passes in
    let first = and_parts (nat_lt 0 (length digits)) (list_all is_ascii_digit digits) last.0 in
    record {
      some = ltb-true 0 (length digits) first.0;
      digits = λ i d below.
          let digit : ℕ = get_or digits i d in
          let both = and_parts (nat_le 48 digit) (nat_le digit 57) (AllPass-from_list_all is_ascii_digit digits first.1 i d below) in
          (leb-true 48 digit both.0, leb-true digit 57 both.1);
      fits = ltb-true (number_of digits) (2 ^ 64) last.1;
    }

-- what `read_u64` gives is the number
pub number_read : (digits : List ℕ) (found : Option ℕ) → SomeIff found (IsNumber digits) (number_of digits) → found ≡ number digits
unfolding number
number_read digits None absent =
    cond_both (is_number digits) (Some (number_of digits)) None (λ found. None ≡ found) (λ is. absurd (absent (from_passes digits is))) (λ _. refl)
number_read digits (Some value) is = ap Some is.1 ∙ rw (passes digits is.0) refl
