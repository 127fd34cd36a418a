-- What a test asks of the value of a cell.
use Rattle.std.specs.Prelude.{ℕ, ℤ, ◌++◌, ◌∷◌, Bool, true, false, not, List, length, map, ◌==◌}
use Rattle.std.specs.Prelude.{bytes_eq, int_lt, if◌then◌else◌}
use Rattle.std.specs.Cmp.Lexicographic.{slice_cmp}
use Rattle.std.specs.Fmt.{decimal}
use Rattle.std.specs.List.{list_any}
use Rattle.std.specs.Ordering.{int_eq, is_gt, is_lt, nat_cmp}
use Rattle.std.specs.Str.{str_eq_ignore_ascii_case}
use Rattle.std.specs.declared.cmp.Ordering.TheVariants.{Equal, Greater, Less}
use Rattle.lq_schema.specs.Value.{Value, Number, Millionths, Words, Texts, Numbers, Pairs}
use Rattle.lq_filter.specs.Patterns.{is_found}
use Rattle.lq_filter.specs.declared.check.Check.{Check}
use Rattle.lq_filter.specs.declared.check.Comparison.{Comparison}
use Rattle.lq_filter.specs.declared.check.Comparison.TheVariants as by
use Rattle.lq_filter.specs.declared.check.Property.{Property}
use Rattle.lq_filter.specs.declared.check.Property.TheVariants.{Compares, Matches}

-- a number
abbrev pub number_compares : Comparison → ℤ → Bool
number_compares (by.Number Equal operand) number = int_eq number operand
number_compares (by.Number Less operand) number = int_lt number operand
number_compares (by.Number Greater operand) number = int_lt operand number
number_compares _ number = false

-- a text
abbrev pub text_compares : Comparison → List ℕ → Bool
text_compares (by.Text Equal operand) text = bytes_eq text operand
text_compares (by.Text Less operand) text = is_lt (slice_cmp nat_cmp text operand)
text_compares (by.Text Greater operand) text = is_gt (slice_cmp nat_cmp text operand)
text_compares (by.EqualNoCase operand) text = str_eq_ignore_ascii_case text operand
text_compares _ text = false

-- a list
abbrev pub list_compares : Comparison → List (List ℕ) → Bool
list_compares (by.EqualNoCase operand) elements =
    list_any (λ element. str_eq_ignore_ascii_case element operand) elements
list_compares (by.Contains operand) elements =
    list_any (λ element. bytes_eq element operand) elements
list_compares by.IsEmpty elements = length elements == 0
list_compares _ elements = false

-- ---- a property, by what the value is

abbrev pub number_has : Property → ℤ → Bool
number_has (Compares comparison) number = number_compares comparison number
number_has (Matches pattern) number = false

abbrev pub text_has : Property → List ℕ → Bool
text_has (Compares comparison) text = text_compares comparison text
text_has (Matches pattern) text = is_found pattern text

abbrev pub list_has : Property → List (List ℕ) → Bool
list_has (Compares comparison) elements = list_compares comparison elements
list_has (Matches pattern) elements = list_any (is_found pattern) elements

-- a service as an element: its host's name and its description with `|`, which is 124, between them
abbrev pub pair_element : List ℕ × List ℕ → List ℕ
pair_element pair = pair.0 ++ 124 ∷ pair.1

-- An element of a list of numbers is its decimal text. No cell has a number in millionths.
abbrev pub has_property : Property → Value → Bool
has_property property (Number number) = number_has property number
has_property property (Millionths number) = false
has_property property (Words text) = text_has property text
has_property property (Texts texts) = list_has property texts
has_property property (Numbers numbers) = list_has property (map decimal numbers)
has_property property (Pairs pairs) = list_has property (map pair_element pairs)

abbrev pub negated_if : Bool → Bool → Bool
negated_if negated test = if negated then not test else test

-- whether a value is as a check asks
abbrev pub is_met : Check → Value → Bool
is_met check value = negated_if check.negated (has_property check.property value)

-- whether a check asks for a number
abbrev pub is_of_number : Property → Bool
is_of_number (Compares (by.Number ordering operand)) = true
is_of_number _ = false

-- whether a check looks for a pattern
abbrev pub asks_for_pattern : Property → Bool
asks_for_pattern (Compares comparison) = false
asks_for_pattern (Matches pattern) = true
