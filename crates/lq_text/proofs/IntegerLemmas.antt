-- That a test tells the bytes of an integer, so what is read is a function of the bytes.
use Rattle.std.proofs.Common.{ℕ, ℤ, ◌≡◌, Bool, true, false, Option, Some, None, SomeIff, List, length, refl, ap, arith, Decides, if◌then◌else◌}
use Rattle.std.proofs.lemmas.Bool.{false≢true}
use Rattle.std.proofs.lemmas.Bool.Decides.{nat_tests, Decides-and, Decides-by_and, Decides-like, Decides-ltb}
use Rattle.std.specs.Char.{IsAsciiDigit, is_ascii_digit}
use Rattle.std.specs.List.{list_all}
use Rattle.lq_text.specs.Numbers.{IsInRange, IsInteger, has_minus, integer_of, integer_read, is_in_range, is_integer, number_of, without_minus}

digit_test : (byte : ℕ) → Decides (is_ascii_digit byte) (IsAsciiDigit byte)
digit_test byte = (λ is. grind (arith, nat_tests, is), λ digit. grind (arith, nat_tests, digit))

range_test : (negative : Bool) (number : ℕ) → Decides (is_in_range negative number) (IsInRange negative number)
range_test true number = (λ is. grind (arith, nat_tests, is), λ fits. grind (arith, nat_tests, fits))
range_test false number = (λ is. grind (arith, nat_tests, is), λ fits. grind (arith, nat_tests, fits))

integer_test : (bytes : List ℕ) → Decides (is_integer bytes) (IsInteger bytes)
integer_test bytes =
    let digits = without_minus bytes in
    Decides-like _ (λ parts. record { some = parts.0.0; digits = parts.0.1; fits = parts.1 }) (λ is. ((is.some, is.digits), is.fits))
    (Decides-and _ _
    (Decides-and _ _ (Decides-ltb 0 (length digits)) (Decides-by_and is_ascii_digit IsAsciiDigit (list_all is_ascii_digit) digit_test refl (λ _ _. refl) digits))
    (range_test (has_minus bytes) (number_of digits)))

by_test : (bytes : List ℕ) (test : Bool) (read : Option ℤ) → Decides test (IsInteger bytes) → SomeIff read (IsInteger bytes) (integer_of bytes)
    → read ≡ (if test then Some (integer_of bytes) else None)
by_test bytes true (Some number) decides is = ap Some is.1
by_test bytes false (Some number) decides is = absurd (false≢true (decides.1 is.0))
by_test bytes true None decides not = absurd (not (decides.0 refl))
by_test bytes false None decides not = refl

pub read_is_integer : (bytes : List ℕ) (read : Option ℤ) → SomeIff read (IsInteger bytes) (integer_of bytes) → read ≡ integer_read bytes
unfolding integer_read
read_is_integer bytes read is = by_test bytes (is_integer bytes) read (integer_test bytes) is
