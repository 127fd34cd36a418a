-- What a test says, by its column, its operator and the value after that.
use Rattle.std.specs.Prelude.{◌≡◌, ℕ, ℤ, Bool, true, false, Option, None, Some, Result, Ok, Err}
use Rattle.std.specs.Prelude.{List, [], ◌∷◌, bytes_eq, codes, find}
use Rattle.std.specs.declared.cmp.Ordering.{Ordering}
use Rattle.std.specs.declared.cmp.Ordering.TheVariants.{Equal, Greater, Less}
use Rattle.lq_text.specs.Blanks.{without_end}
use Rattle.lq_text.specs.Numbers.{integer_read}
use Rattle.lq_schema.specs.Kinds.{own_kind}
use Rattle.lq_schema.specs.declared.columns.Col.{Col}
use Rattle.lq_schema.specs.declared.columns.ColKind.{ColKind}
use Rattle.lq_schema.specs.declared.columns.ColKind.TheVariants as kind
use Rattle.lq_filter.specs.Patterns.{PatternText, pattern_of}
use Rattle.lq_filter.specs.declared.check.Check.{Check}
use Rattle.lq_filter.specs.declared.check.Comparison.TheVariants as by
use Rattle.lq_filter.specs.declared.check.Property.{Property}
use Rattle.lq_filter.specs.declared.check.Property.TheVariants.{Compares, Matches}
use Rattle.lq_filter.specs.declared.operator.Operator.{Operator}
use Rattle.lq_filter.specs.declared.operator.Operator.TheVariants as operator
use Rattle.lq_filter.specs.declared.read.Test.{Test}
use Rattle.lq_filter.specs.declared.read.TestErr.{TestErr}
use Rattle.lq_filter.specs.declared.read.TestErr.TheVariants as err

-- ---- operators

abbrev pub operator_text : Operator → List ℕ
operator_text operator.Equal = codes "="
operator_text operator.NotEqual = codes "!="
operator_text operator.Matches = codes "~"
operator_text operator.NotMatches = codes "!~"
operator_text operator.EqualNoCase = codes "=~"
operator_text operator.NotEqualNoCase = codes "!=~"
operator_text operator.MatchesNoCase = codes "~~"
operator_text operator.NotMatchesNoCase = codes "!~~"
operator_text operator.Less = codes "<"
operator_text operator.GreaterOrEqual = codes ">="
operator_text operator.Greater = codes ">"
operator_text operator.LessOrEqual = codes "<="

abbrev pub operators : List Operator
operators =
    operator.Equal ∷ operator.NotEqual ∷ operator.Matches ∷ operator.NotMatches
    ∷ operator.EqualNoCase ∷ operator.NotEqualNoCase ∷ operator.MatchesNoCase
    ∷ operator.NotMatchesNoCase ∷ operator.Less ∷ operator.GreaterOrEqual ∷ operator.Greater
    ∷ operator.LessOrEqual ∷ []

-- the operator that a word writes
abbrev pub operator_of : List ℕ → Option Operator
operator_of word = find (λ operator. bytes_eq word (operator_text operator)) operators

-- ---- the table: what each operator says on a column of each kind

abbrev pub asks : Bool → Property → Result Check TestErr
asks negated property = Ok (record { negated = negated; property = property })

-- the value is a number, without the blanks at its end
abbrev pub number_asked : Bool → Ordering → Option ℤ → Result Check TestErr
number_asked negated ordering None = Err err.NotNumber
number_asked negated ordering (Some number) = asks negated (Compares (by.Number ordering number))

abbrev pub number_comparison : Bool → Ordering → List ℕ → Result Check TestErr
number_comparison negated ordering value =
    number_asked negated ordering (integer_read (without_end value))

abbrev pub text_comparison : Bool → Ordering → List ℕ → Result Check TestErr
text_comparison negated ordering value = asks negated (Compares (by.Text ordering value))

abbrev pub nocase_comparison : Bool → List ℕ → Result Check TestErr
nocase_comparison negated value = asks negated (Compares (by.EqualNoCase value))

abbrev pub containment : Bool → List ℕ → Result Check TestErr
containment negated value = asks negated (Compares (by.Contains value))

abbrev pub pattern_asked : Bool → Option PatternText → Result Check TestErr
pattern_asked negated None = Err err.BadPattern
pattern_asked negated (Some pattern) = asks negated (Matches pattern)

-- the value is a pattern; where `folded`, letters match in either case
abbrev pub pattern_match : Bool → Bool → List ℕ → Result Check TestErr
pattern_match negated folded value = pattern_asked negated (pattern_of folded value)

-- a column of numbers
abbrev pub number_check : Operator → List ℕ → Result Check TestErr
number_check operator.Equal value = number_comparison false Equal value
number_check operator.NotEqual value = number_comparison true Equal value
number_check operator.Less value = number_comparison false Less value
number_check operator.GreaterOrEqual value = number_comparison true Less value
number_check operator.Greater value = number_comparison false Greater value
number_check operator.LessOrEqual value = number_comparison true Greater value
number_check _ value = Err err.NotAllowed

-- a column of texts
abbrev pub text_check : Operator → List ℕ → Result Check TestErr
text_check operator.Equal value = text_comparison false Equal value
text_check operator.NotEqual value = text_comparison true Equal value
text_check operator.Less value = text_comparison false Less value
text_check operator.GreaterOrEqual value = text_comparison true Less value
text_check operator.Greater value = text_comparison false Greater value
text_check operator.LessOrEqual value = text_comparison true Greater value
text_check operator.EqualNoCase value = nocase_comparison false value
text_check operator.NotEqualNoCase value = nocase_comparison true value
text_check operator.Matches value = pattern_match false false value
text_check operator.NotMatches value = pattern_match true false value
text_check operator.MatchesNoCase value = pattern_match false true value
text_check operator.NotMatchesNoCase value = pattern_match true true value

-- on lists `=` and `!=` have no value
abbrev pub emptiness : Bool → List ℕ → Result Check TestErr
emptiness negated [] = asks negated (Compares by.IsEmpty)
emptiness negated (byte ∷ bytes) = Err err.NotAllowed

-- a column of lists, of whatever elements
abbrev pub list_check : Operator → List ℕ → Result Check TestErr
list_check operator.Equal value = emptiness false value
list_check operator.NotEqual value = emptiness true value
list_check operator.GreaterOrEqual value = containment false value
list_check operator.Less value = containment true value
list_check operator.LessOrEqual value = nocase_comparison false value
list_check operator.Greater value = nocase_comparison true value
list_check operator.Matches value = pattern_match false false value
list_check operator.NotMatches value = pattern_match true false value
list_check operator.MatchesNoCase value = pattern_match false true value
list_check operator.NotMatchesNoCase value = pattern_match true true value
list_check _ value = Err err.NotAllowed

abbrev pub kind_check : ColKind → Operator → List ℕ → Result Check TestErr
kind_check kind.Int operator value = number_check operator value
kind_check kind.Str operator value = text_check operator value
kind_check _ operator value = list_check operator value

-- ---- a test

abbrev pub check_read : ColKind → Option Operator → List ℕ → Result Check TestErr
check_read column_kind None value = Err err.Operator
check_read column_kind (Some operator) value = kind_check column_kind operator value

abbrev pub of_column : Col → Result Check TestErr → Result Test TestErr
of_column column (Ok check) = Ok (record { column = column; check = check })
of_column column (Err error) = Err error

-- the test on a column, with an operator's word and the value after it
abbrev pub test_read : Col → List ℕ → List ℕ → Result Test TestErr
test_read column word value =
    of_column column (check_read (own_kind column.own) (operator_of word) value)

-- a result is the one that is expected, or memory ran out
abbrev pub Gives : {X : Type 0} → Result X TestErr → Result X TestErr → Type 0
Gives (Err err.Memory) expected = Unit {0}
Gives result expected = result ≡ expected
