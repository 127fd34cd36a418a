-- The trees that the headers of a filter are, and whether a row is chosen.
--
-- Headers are read from the last one back to the first. A test is a tree by itself. `And` and `Or`
-- are followed by the trees that they join, and `Negate` by the one that it negates.
use Rattle.std.specs.Prelude.{ℕ, ◌+◌, ◌-◌, ◌<◌, ◌≤◌, Bool, true, false, not, Option, None, Some}
use Rattle.std.specs.Prelude.{List, [], ◌∷◌, drop, filter, length, reverse, take}
use Rattle.std.specs.List.{list_all, list_any}
use Rattle.lq_schema.specs.Value.{Value}
use Rattle.lq_schema.specs.declared.columns.Col.{Col}
use Rattle.lq_filter.specs.Tests.{asks_for_pattern, is_met}
use Rattle.lq_filter.specs.declared.header.Header.{Header}
use Rattle.lq_filter.specs.declared.header.Header.TheVariants as header
use Rattle.lq_filter.specs.declared.header.Join.{Join}
use Rattle.lq_filter.specs.declared.read.Test.{Test}

-- whether some of the truths holds, or all do
abbrev pub some_or_all : Bool → List Bool → Bool
some_or_all true truths = list_any (λ truth. truth) truths
some_or_all false truths = list_all (λ truth. truth) truths

abbrev pub first_negated : List Bool → List Bool
first_negated [] = []
first_negated (truth ∷ truths) = not truth ∷ truths

-- The truths of the trees, by the truths of the tests. The headers are given from the last one
-- back, and so are the trees.
abbrev pub truths : (Test → Bool) → List Header → List Bool
truths truth [] = []
truths truth (header.Test test ∷ earlier) = truth test ∷ truths truth earlier
truths truth (header.Join join ∷ earlier) =
    some_or_all join.any (take join.count (truths truth earlier))
    ∷ drop join.count (truths truth earlier)
truths truth (header.Negate ∷ earlier) = first_negated (truths truth earlier)

-- how many trees there are
abbrev pub tree_count : List Header → ℕ
tree_count [] = 0
tree_count (header.Test test ∷ earlier) = 1 + tree_count earlier
tree_count (header.Join join ∷ earlier) = 1 + (tree_count earlier - join.count)
tree_count (header.Negate ∷ earlier) = tree_count earlier

-- how many trees the headers are, in the order of their lines
abbrev pub height : List Header → ℕ
height headers = tree_count (reverse headers)

-- each header has the trees before it that it wants; the headers are given from the last one back
abbrev pub HaveTrees : List Header → Type 0
HaveTrees [] = Unit {0}
HaveTrees (header.Test test ∷ earlier) = HaveTrees earlier
HaveTrees (header.Join join ∷ earlier) =
    (join.count ≤ tree_count earlier) × HaveTrees earlier
HaveTrees (header.Negate ∷ earlier) = (0 < tree_count earlier) × HaveTrees earlier

-- whether all trees hold; the headers are in the order of their lines
abbrev pub holds : (Test → Bool) → List Header → Bool
holds truth headers = some_or_all false (truths truth (reverse headers))

-- the truth of a test on a row, which has a value for each column
abbrev pub truth_on : (Col → Value) → Test → Bool
truth_on row test = is_met test.check (row test.column)

abbrev pub join_of : Header → Option Join
join_of (header.Join join) = Some join
join_of _ = None

abbrev pub is_negation : Header → Bool
is_negation header.Negate = true
is_negation _ = false

-- the column of a header's test is one of which a fact holds
abbrev pub HasColumn : (Col → Type 0) → Header → Type 0
HasColumn has (header.Test test) = has test.column
HasColumn has (header.Join join) = Unit {0}
HasColumn has header.Negate = Unit {0}

-- whether a header is a test that looks for a pattern
abbrev pub has_pattern : Header → Bool
has_pattern (header.Test test) = asks_for_pattern test.check.property
has_pattern _ = false

-- how many patterns are looked for
abbrev pub pattern_count : List Header → ℕ
pattern_count headers = length (filter has_pattern headers)
