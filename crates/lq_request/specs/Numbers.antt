-- Values that are numbers.
use Rattle.std.specs.Prelude.{ℕ, ◌^◌, ◌&&◌, nat_lt, Bool, Option, Some, None, ok_or, Result, List}
use Rattle.std.specs.Prelude.{length, if◌then◌else◌}
use Rattle.std.specs.Char.{is_ascii_digit}
use Rattle.std.specs.List.{list_all}
use Rattle.lq_text.specs.Blanks.{without_blanks}
use Rattle.lq_text.specs.Numbers.{number_of}
use Rattle.lq_request.specs.declared.reason.Reason.{Reason}
use Rattle.lq_request.specs.declared.reason.Reason.TheVariants as reason

-- one or more digits, whose number is below 2 ^ 64
abbrev pub is_natural : List ℕ → Bool
is_natural bytes =
    nat_lt 0 (length bytes) && list_all is_ascii_digit bytes && nat_lt (number_of bytes) (2 ^ 64)

-- the number that digits say, where it is below 2 ^ 64
unfoldable pub natural_read : List ℕ → Option ℕ
natural_read bytes = if is_natural bytes then Some (number_of bytes) else None

-- a number of 64 bits without a sign, with or without blanks around it
abbrev pub number_value : List ℕ → List ℕ → Result ℕ Reason
number_value name value = ok_or (natural_read (without_blanks value)) (reason.BadValue name)
