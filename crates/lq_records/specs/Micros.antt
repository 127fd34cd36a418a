-- Averages, in millionths.
use Rattle.std.specs.Prelude.{ℕ, suc, ◌+◌, ◌*◌, ◌/◌, ◌%◌, ℤ, pos, negsuc, neg_ℤ, List, ◌∷◌, ◌++◌}
use Rattle.std.specs.Fmt.{decimal}

-- the whole number nearest to a quotient, the greater one of two
abbrev pub nearest : ℕ → ℕ → ℕ
nearest number count = (number * 2 + count) / (count * 2)

-- the millionths nearest to a quotient, half of one away from zero
abbrev pub quotient : ℤ → ℕ → ℤ
quotient (pos size) count = pos (nearest (size * 1000000) count)
quotient (negsuc less) count = neg_ℤ (pos (nearest (suc less * 1000000) count))

-- three digits of a number below 1000
abbrev pub three_digits : ℕ → List ℕ
three_digits number =
    decimal (number / 100) ++ (decimal (number / 10 % 10) ++ decimal (number % 10))

-- whole ones, a point, which is 46, and six decimals
abbrev pub size_text : ℕ → List ℕ
size_text millionths =
    decimal (millionths / 1000000)
    ++ 46 ∷ (three_digits (millionths % 1000000 / 1000) ++ three_digits (millionths % 1000))

-- with `-`, which is 45, before it where it is below 0
abbrev pub micro_text : ℤ → List ℕ
micro_text (pos millionths) = size_text millionths
micro_text (negsuc less) = 45 ∷ size_text (suc less)
