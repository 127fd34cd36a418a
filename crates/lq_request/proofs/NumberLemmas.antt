-- That a test tells the bytes of a number, so what is read is a function of the bytes.
use Rattle.std.proofs.Common.{ℕ, ◌≡◌, ◌^◌, Bool, true, false, Option, Some, None, SomeIff, List, length, refl, ap, arith, Decides, if◌then◌else◌}
use Rattle.std.proofs.lemmas.Bool.{false≢true}
use Rattle.std.proofs.lemmas.Bool.Decides.{nat_tests, Decides-and, Decides-by_and, Decides-like, Decides-ltb}
use Rattle.std.specs.Char.{IsAsciiDigit, is_ascii_digit}
use Rattle.std.specs.List.{list_all}
use Rattle.lq_text.specs.Numbers.{IsNumber, number_of}
use Rattle.lq_request.specs.Numbers.{is_natural, natural_read}

digit_test : (byte : ℕ) → Decides (is_ascii_digit byte) (IsAsciiDigit byte)
digit_test byte = (λ is. grind (arith, nat_tests, is), λ digit. grind (arith, nat_tests, digit))

natural_test : (bytes : List ℕ) → Decides (is_natural bytes) (IsNumber bytes)
natural_test bytes =
    Decides-like _ (λ parts. record { some = parts.0.0; digits = parts.0.1; fits = parts.1 }) (λ is. ((is.some, is.digits), is.fits))
    (Decides-and _ _
    (Decides-and _ _ (Decides-ltb 0 (length bytes)) (Decides-by_and is_ascii_digit IsAsciiDigit (list_all is_ascii_digit) digit_test refl (λ _ _. refl) bytes))
    (Decides-ltb (number_of bytes) (2 ^ 64)))

by_test : (bytes : List ℕ) (test : Bool) (read : Option ℕ) → Decides test (IsNumber bytes) → SomeIff read (IsNumber bytes) (number_of bytes)
    → read ≡ (if test then Some (number_of bytes) else None)
by_test bytes true (Some number) decides is = ap Some is.1
by_test bytes false (Some number) decides is = absurd (false≢true (decides.1 is.0))
by_test bytes true None decides not = absurd (not (decides.0 refl))
by_test bytes false None decides not = refl

pub read_is_natural : (bytes : List ℕ) (read : Option ℕ) → SomeIff read (IsNumber bytes) (number_of bytes) → read ≡ natural_read bytes
unfolding natural_read
read_is_natural bytes read is = by_test bytes (is_natural bytes) read (natural_test bytes) is
