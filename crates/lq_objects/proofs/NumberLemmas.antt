-- Numbers in their ranges.
use Rattle.std.proofs.Common.{◌≡◌, ℕ, ◌≤◌, true, Some, List, length, refl}
use Rattle.std.specs.List.{list_all}
use Rattle.std.specs.Char.{is_ascii_digit}
use Rattle.std.proofs.lemmas.Bool.{le-leb, lt-ltb}
use Rattle.std.proofs.lemmas.List.Sums.{list_all-from_AllPass}
use Rattle.lq_text.specs.Numbers.{IsNumber, number_of}
use Rattle.lq_objects.specs.Faults.{number_between}

pub number_in-number : (least most : ℕ) (value : List ℕ) → IsNumber value → least ≤ number_of value → number_of value ≤ most
    → number_between least most value ≡ Some (number_of value)
number_in-number least most value number low high =
    let digits : list_all is_ascii_digit value ≡ true =
    list_all-from_AllPass is_ascii_digit value (λ i d below. let digit = number.digits i d below in rw (le-leb 48 _ digit.0, le-leb _ 57 digit.1) refl) in
    rw (lt-ltb 0 (length value) number.some, digits, le-leb least _ low, le-leb _ most high) refl
