-- A second in brackets at the front of a line: `[`, 1 to 12 digits, `]`.
use Rattle.std.specs.Prelude.{ℕ, ◌+◌, ◌==◌, ◌&&◌, nat_lt, nat_le, Bool, Option, Some, None, List}
use Rattle.std.specs.Prelude.{length, take, drop, slice_index, if◌then◌else◌}
use Rattle.std.specs.Char.{is_ascii_digit}
use Rattle.std.specs.List.{prefix_len}
use Rattle.lq_text.specs.Blanks.{without_front}
use Rattle.lq_text.specs.Numbers.{number_of}

-- the digits after the first byte of a line
abbrev pub digits_of : List ℕ → List ℕ
digits_of line = take (prefix_len is_ascii_digit (drop 1 line)) (drop 1 line)

-- whether a line begins with a second; 91 is `[`, and 93 is `]`
abbrev pub has_second : List ℕ → Bool
has_second line =
    (slice_index line 0 == 91)
    && nat_lt 0 (length (digits_of line)) && nat_le (length (digits_of line)) 12
    && (slice_index line (length (digits_of line) + 1) == 93)

-- the second that a line begins with
abbrev pub second_of : List ℕ → Option ℕ
second_of line = if has_second line then Some (number_of (digits_of line)) else None

-- what follows the second and its blanks
abbrev pub text_after_second : List ℕ → List ℕ
text_after_second line = without_front (drop (length (digits_of line) + 2) line)
