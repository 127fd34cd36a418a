-- Numbers in decimal digits.
use Rattle.std.specs.Prelude.{ℕ, ℤ, pos, neg_ℤ, ◌+◌, ◌-◌, ◌*◌, ◌^◌, ◌<◌, ◌≤◌, ◌==◌, ◌&&◌, nat_le}
use Rattle.std.specs.Prelude.{nat_lt, Bool, true, false, Option, Some, None, List, length, drop}
use Rattle.std.specs.Prelude.{fold, All, slice_index, if◌then◌else◌}
use Rattle.std.specs.Char.{IsAsciiDigit, is_ascii_digit}
use Rattle.std.specs.List.{list_all}

-- the number that digits say; 48 is the byte of `0`
abbrev pub number_of : List ℕ → ℕ
number_of digits = fold (λ number digit. number * 10 + (digit - 48)) 0 digits

-- one or more digits, whose number is below 2 ^ 64
pub record IsNumber (bytes : List ℕ) : Type 0 where
  pub some : 0 < length bytes
  pub digits : All IsAsciiDigit bytes
  pub fits : number_of bytes < 2 ^ 64

-- ---- with a sign

-- whether the first byte is `-`, which is 45
abbrev pub has_minus : List ℕ → Bool
has_minus bytes = slice_index bytes 0 == 45

-- the bytes after an optional `-`
abbrev pub without_minus : List ℕ → List ℕ
without_minus bytes = if has_minus bytes then drop 1 bytes else bytes

-- a number below 2 ^ 63; with a `-` it may be that
abbrev pub IsInRange : Bool → ℕ → Type 0
IsInRange true number = number ≤ 2 ^ 63
IsInRange false number = number < 2 ^ 63

-- the number that digits after an optional `-` say
abbrev pub integer_of : List ℕ → ℤ
integer_of bytes =
    if has_minus bytes then neg_ℤ (pos (number_of (drop 1 bytes))) else pos (number_of bytes)

-- an optional `-` and one or more digits, whose number is in the range of 64 bits
pub record IsInteger (bytes : List ℕ) : Type 0 where
  pub some : 0 < length (without_minus bytes)
  pub digits : All IsAsciiDigit (without_minus bytes)
  pub fits : IsInRange (has_minus bytes) (number_of (without_minus bytes))

-- ---- the same as a function

abbrev pub is_in_range : Bool → ℕ → Bool
is_in_range true number = nat_le number (2 ^ 63)
is_in_range false number = nat_lt number (2 ^ 63)

abbrev pub is_integer : List ℕ → Bool
is_integer bytes =
    nat_lt 0 (length (without_minus bytes)) && list_all is_ascii_digit (without_minus bytes)
    && is_in_range (has_minus bytes) (number_of (without_minus bytes))

-- the number that digits after an optional `-` say, where it is in the range of 64 bits
unfoldable pub integer_read : List ℕ → Option ℤ
integer_read bytes = if is_integer bytes then Some (integer_of bytes) else None
