-- What the lines `Filter`, `And`, `Or` and `Negate` add to a query, or why one of them is refused.
use Rattle.std.specs.Prelude.{ℕ, ◌≡◌, ◌+◌, ◌-◌, ◌==◌, ◌&&◌, nat_le, nat_lt, not, Bool, true, false}
use Rattle.std.specs.Prelude.{Option, Some, None, Result, Ok, Err}
use Rattle.std.specs.Prelude.{List, [], ◌∷◌, ◌++◌, bytes_eq, codes, drop, length, reverse, take}
use Rattle.std.specs.Prelude.{if◌then◌else◌}
use Rattle.std.specs.List.{after_first, before_first}
use Rattle.lq_text.specs.Blanks.{is_blank, without_end, without_front}
use Rattle.lq_schema.specs.Schema.{column_of}
use Rattle.lq_schema.specs.declared.columns.Col.{Col}
use Rattle.lq_schema.specs.declared.columns.OwnColumn.{OwnColumn}
use Rattle.lq_schema.specs.declared.columns.OwnColumn.TheVariants as own
use Rattle.lq_schema.specs.declared.columns.Prefix.{Prefix}
use Rattle.lq_schema.specs.declared.columns.Prefix.TheVariants as prefix
use Rattle.lq_schema.specs.declared.columns.Table.{Table}
use Rattle.lq_schema.specs.declared.slice.SliceColumn.TheVariants as slice
use Rattle.lq_filter.specs.Reading.{test_read}
use Rattle.lq_filter.specs.Tests.{asks_for_pattern}
use Rattle.lq_filter.specs.Trees.{height, truths}
use Rattle.lq_filter.specs.declared.header.Header.{Header}
use Rattle.lq_filter.specs.declared.read.Test.{Test}
use Rattle.lq_filter.specs.declared.read.TestErr.{TestErr}
use Rattle.lq_filter.specs.declared.read.TestErr.TheVariants as err
use Rattle.lq_request.specs.declared.reason.Reason.{Reason}
use Rattle.lq_request.specs.declared.reason.Reason.TheVariants as reason
use Rattle.lq_request.specs.Window.{has_history_time, headers_of}

-- ---- the value of a `Filter` line

-- The words of a test: a column's name, an operator and what the cell is compared with. Blanks
-- stand between them; those at the end of the last one belong to it.
pub record TestWords : Type 0 where
  pub column : List ℕ
  pub operator : List ℕ
  pub operand : List ℕ

-- what follows the word at the front and the blanks after it
abbrev pub after_word : List ℕ → List ℕ
after_word text = without_front (after_first is_blank text)

abbrev pub words_from : List ℕ → TestWords
words_from text = record {
  column = before_first is_blank text;
  operator = before_first is_blank (after_word text);
  operand = after_word (after_word text);
}

abbrev pub test_words : List ℕ → TestWords
test_words value = words_from (without_front value)

-- ---- the test

-- why a test isn't read; reading one never gives `Memory`
abbrev pub test_reason : TestWords → TestErr → Reason
test_reason words err.Operator = reason.UnknownOperator words.operator
test_reason words err.NotAllowed = reason.NotAllowed words.column
test_reason words err.NotNumber = reason.NotNumber (without_end words.operand)
test_reason words _ = reason.BadPattern

abbrev pub test_or_reason : TestWords → Result Test TestErr → Result Test Reason
test_or_reason words (Ok test) = Ok test
test_or_reason words (Err error) = Err (test_reason words error)

abbrev pub test_on : TestWords → Option Col → Result Test Reason
test_on words None = Err (reason.UnknownColumn words.column)
test_on words (Some column) =
    test_or_reason words (test_read column words.operator words.operand)

-- the test that a line says on a table; a line without an operator has a bad value
abbrev pub test_of : Table → List ℕ → TestWords → Result Test Reason
test_of table name words =
    if length words.operator == 0 then Err (reason.BadValue name)
    else test_on words (column_of table words.column)

-- ---- the test of a `Filter` line

abbrev pub is_own_slice_time : Prefix → OwnColumn → Bool
is_own_slice_time prefix.Own (own.Slice slice.Time) = true
is_own_slice_time _ _ = false

-- whether a column is the time of a slice of a history
abbrev pub is_slice_time : Option Col → Bool
is_slice_time None = false
is_slice_time (Some column) = is_own_slice_time column.prefix column.own

-- whether a filter wants the time of a history to be another one than a number says
abbrev pub excludes_time : Table → TestWords → Bool
excludes_time table words =
    bytes_eq words.operator (codes "!=") && is_slice_time (column_of table words.column)

-- the test that a `Filter` line says on a table; an interval excludes no time between its bounds
abbrev pub filter_test : Table → List ℕ → TestWords → Result Test Reason
filter_test table name words =
    if excludes_time table words then Err (reason.NotAllowed words.column)
    else test_of table name words

-- ---- patterns

-- the most patterns that a query may have
abbrev pub most_patterns : ℕ
most_patterns = 16

-- How many patterns a query has with one more test. A test that brings one more than a query may
-- have is refused.
abbrev pub patterns_with : ℕ → Test → Result ℕ Reason
patterns_with patterns test =
    if not (asks_for_pattern test.check.property) then Ok patterns
    else if nat_lt patterns most_patterns then Ok (patterns + 1)
    else Err reason.TooManyPatterns

-- ---- the filters that stand, each by its headers

-- headers are so many filters: after any others they add their own truths, and take none
pub record AreWhole (headers : List Header) (count : ℕ) : Type 0 where
  pub trees : height headers ≡ count
  pub after : (truth : Test → Bool) (before : List Header) →
      truths truth (reverse headers ++ before)
      ≡ truths truth (reverse headers) ++ truths truth before

-- headers are one filter
abbrev pub IsFilter : List Header → Type 0
IsFilter headers = AreWhole headers 1

-- what stands before the last so many, and those
abbrev pub earlier : {A : Type 0} → List A → ℕ → List A
earlier all count = take (length all - count) all

abbrev pub latest : {A : Type 0} → List A → ℕ → List A
latest all count = drop (length all - count) all

-- the headers of the last filters, one at least and no more than there are; none of them may be one
-- of the time of a history
abbrev pub last_filters : List ℕ → List (List Header) → ℕ → Result (List Header) Reason
last_filters name filters count =
    if not (nat_lt 0 count && nat_le count (length filters)) then Err (reason.StackTooShort name)
    else if has_history_time (latest filters count) then Err reason.TimeFilterInGroup
    else Ok (headers_of (latest filters count))

-- the last filters become one, which has their headers and after them one more
abbrev pub with_last_as_one : List (List Header) → ℕ → Header → Result (List Header) Reason
    → Result (List (List Header)) Reason
with_last_as_one filters count last (Err fault) = Err fault
with_last_as_one filters count last (Ok headers) =
    Ok (earlier filters count ++ (headers ++ last ∷ []) ∷ [])

-- `And`, `Or` and `Negate` make the last filters one
abbrev pub with_group :
    List ℕ → List (List Header) → ℕ → Header → Result (List (List Header)) Reason
with_group name filters count last =
    with_last_as_one filters count last (last_filters name filters count)
