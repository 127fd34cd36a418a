-- The window of a query: its bounds, and that no row which the filter chooses is outside it.
use Rattle.std.proofs.Common.{◌≡◌, ℕ, ◌+◌, ◌<◌, ◌≤◌, min, max, ℤ, pos, negsuc, Bool, true, false, ◌&&◌, Option, Some, None, IfSome, IfOk, Ok, List, [], ◌∷◌, ◌++◌, filter, length, reverse, refl, sym, ap, ◌∙◌, subst, arith, unwrap_or, cond, All}
use Rattle.std.specs.List.{AllByRecursion, cons_option, filter_map, fold, reduce}
use Rattle.std.specs.Option.{option_and_then}
use Rattle.std.specs.declared.cmp.Ordering.{Ordering}
use Rattle.std.specs.declared.cmp.Ordering.TheVariants.{Equal, Greater, Less}
use Rattle.std.proofs.lemmas.Bool.Decides.{Decides-int_eq}
use Rattle.std.proofs.lemmas.Bool.{false≢true}
use Rattle.std.proofs.lemmas.Int.{ints}
use Rattle.std.proofs.lemmas.List.Elements.{recursion_from_All}
use Rattle.std.proofs.lemmas.List.Folds.{list_all-append}
use Rattle.std.proofs.lemmas.Option.{none-some}
use Rattle.lq_schema.specs.Value.{Value, Number}
use Rattle.lq_schema.specs.declared.columns.Col.{Col}
use Rattle.lq_schema.specs.declared.columns.OwnColumn.{OwnColumn}
use Rattle.lq_schema.specs.declared.columns.OwnColumn.TheVariants as own
use Rattle.lq_schema.specs.declared.columns.Prefix.{Prefix}
use Rattle.lq_schema.specs.declared.columns.Prefix.TheVariants as prefix
use Rattle.lq_schema.specs.declared.columns.Table.{Table}
use Rattle.lq_schema.specs.declared.columns.Table.TheVariants as table
use Rattle.lq_schema.specs.declared.line.LineColumn.TheVariants as line
use Rattle.lq_schema.specs.declared.slice.SliceColumn.TheVariants as slice
use Rattle.lq_filter.specs.Tests.{is_met}
use Rattle.lq_filter.specs.Trees.{holds, some_or_all, truth_on, truths}
use Rattle.lq_filter.specs.declared.check.Check.{Check}
use Rattle.lq_filter.specs.declared.check.Comparison.TheVariants as by
use Rattle.lq_filter.specs.declared.check.Property.{Property}
use Rattle.lq_filter.specs.declared.check.Property.TheVariants.{Compares}
use Rattle.lq_filter.specs.declared.header.Header.{Header}
use Rattle.lq_filter.specs.declared.header.Header.TheVariants as header
use Rattle.lq_filter.specs.declared.read.Test.{Test}
use Rattle.lq_request.specs.Filters.{AreWhole, IsFilter}
use Rattle.lq_request.specs.Reading.{line_time}
use Rattle.lq_request.specs.Window.{bounds_of, bounds_on, bounds_said, filter_bounds, filter_time, headers_of, history_interval, interval_of, is_tested, own_time, property_time, second_at, next_bound, row_headers, tests_rows, tightest}
use Rattle.lq_request.specs.declared.time.Interval.{Interval}
use Rattle.lq_request.specs.declared.time.TimeBounds.{TimeBounds}
use Rattle.lq_request.specs.declared.time.TimeTest.{TimeTest}
use Rattle.lq_request.specs.declared.time.TimeTest.TheVariants as time
use Rattle.lq_request.proofs.FilterLemmas.{both_trees, both_whole, no_filters}

-- ---- the tightest bounds have what all have

reduced : (pick : ℕ → ℕ → ℕ) (P : ℕ → Type 0) → ((a b : ℕ) → P a → P b → P (pick a b)) → (first : ℕ) (xs : List ℕ) → P first → AllByRecursion P xs → P (fold pick first xs)
reduced pick P keeps first [] has all = has
reduced pick P keeps first (x ∷ xs) has all = reduced pick P keeps (pick first x) xs (keeps first x has all.0) all.1

picked : (pick : ℕ → ℕ → ℕ) (P : ℕ → Type 0) → ((a b : ℕ) → P a → P b → P (pick a b)) → (xs : List ℕ) → AllByRecursion P xs → IfSome (reduce pick xs) P
picked pick P keeps [] all = tt
picked pick P keeps (x ∷ xs) all = reduced pick P keeps x xs all.0 all.1

some_more : {A : Type 0} (P : A → Type 0) (found : Option A) (xs : List A) → IfSome found P → AllByRecursion P xs → AllByRecursion P (cons_option found xs)
some_more P None xs has all = all
some_more P (Some x) xs has all = (has, all)

some_of : {A B : Type 0} (P : B → Type 0) (part : A → Option B) (all : List A) → AllByRecursion (λ one. IfSome (part one) P) all → AllByRecursion P (filter_map part all)
some_of P part [] has = tt
some_of P part (one ∷ all) has = some_more P (part one) (filter_map part all) has.0 (some_of P part all has.1)

-- a lower bound has one property, an upper bound another one
abbrev Bounded : (ℕ → Type 0) → (ℕ → Type 0) → TimeBounds → Type 0
Bounded From Until bounds = IfSome bounds.from From × IfSome bounds.until Until

lower_parts : (From Until : ℕ → Type 0) (all : List TimeBounds) → AllByRecursion (Bounded From Until) all → AllByRecursion (λ bounds. IfSome bounds.from From) all
lower_parts From Until [] has = tt
lower_parts From Until (bounds ∷ all) has = (has.0.0, lower_parts From Until all has.1)

upper_parts : (From Until : ℕ → Type 0) (all : List TimeBounds) → AllByRecursion (Bounded From Until) all → AllByRecursion (λ bounds. IfSome bounds.until Until) all
upper_parts From Until [] has = tt
upper_parts From Until (bounds ∷ all) has = (has.0.1, upper_parts From Until all has.1)

tightest_bounded : (From Until : ℕ → Type 0) → ((a b : ℕ) → From a → From b → From (max a b)) → ((a b : ℕ) → Until a → Until b → Until (min a b)) → (all : List TimeBounds)
    → AllByRecursion (Bounded From Until) all → Bounded From Until (tightest all)
tightest_bounded From Until latest earliest all has = (
  picked max From latest (filter_map (λ bounds. bounds.from) all) (some_of From (λ bounds. bounds.from) all (lower_parts From Until all has)),
  picked min Until earliest (filter_map (λ bounds. bounds.until) all) (some_of Until (λ bounds. bounds.until) all (upper_parts From Until all has)),
)

-- ---- each bound is a time, or the first second after them all

abbrev AreTimes : TimeBounds → Type 0
AreTimes bounds = Bounded (λ from. from ≤ 1000000000000) (λ until. until ≤ 1000000000000) bounds

second_at_within : (number : ℤ) → second_at number ≤ 1000000000000
second_at_within (pos number) = omega arith
second_at_within (negsuc number) = omega arith

second_after_within : (number : ℤ) → next_bound number ≤ 1000000000000
second_after_within (pos number) = omega arith
second_after_within (negsuc number) = omega arith

said_times : (negated : Bool) (ordering : Ordering) (number : ℤ) → AreTimes (bounds_said negated ordering number)
said_times false Equal number = (second_at_within number, second_after_within number)
said_times true Equal number = (tt, tt)
said_times false Less number = (tt, second_at_within number)
said_times true Less number = (second_at_within number, tt)
said_times false Greater number = (second_after_within number, tt)
said_times true Greater number = (tt, second_after_within number)

line_times : (t : Table) (bounds : TimeBounds) → AreTimes bounds → IfSome (bounds_on t (time.Line bounds)) AreTimes
line_times table.Log bounds are = are
line_times _ bounds are = tt

slice_times : (t : Table) (bounds : TimeBounds) → AreTimes bounds → IfSome (bounds_on t (time.Slice bounds)) AreTimes
slice_times table.StateHist bounds are = are
slice_times _ bounds are = tt

column_times : (t : Table) (front : Prefix) (column : OwnColumn) (bounds : TimeBounds) → AreTimes bounds → IfSome (option_and_then (bounds_on t) (own_time front column bounds)) AreTimes
column_times t prefix.Own (own.Line line.Time) bounds are = line_times t bounds are
column_times t prefix.Own (own.Slice slice.Time) bounds are = slice_times t bounds are
column_times t _ _ bounds are = tt

property_times : (t : Table) (column : Col) (negated : Bool) (property : Property) → IfSome (option_and_then (bounds_on t) (property_time column negated property)) AreTimes
property_times t column negated (Compares (by.Number ordering number)) = column_times t column.prefix column.own (bounds_said negated ordering number) (said_times negated ordering number)
property_times t column negated _ = tt

filter_times : (t : Table) (headers : List Header) → IfSome (filter_bounds t headers) AreTimes
filter_times t (header.Test test ∷ []) = property_times t test.column test.check.negated test.check.property
filter_times t _ = tt

all_times : (t : Table) (filters : List (List Header)) → AllByRecursion (λ headers. IfSome (filter_bounds t headers) AreTimes) filters
all_times t [] = tt
all_times t (headers ∷ filters) = (filter_times t headers, all_times t filters)

bounds_times : (t : Table) (filters : List (List Header)) → AreTimes (bounds_of t filters)
bounds_times t filters =
    tightest_bounded (λ from. from ≤ 1000000000000) (λ until. until ≤ 1000000000000) (λ a b low high. omega arith) (λ a b low high. omega arith)
    (filter_map (filter_bounds t) filters) (some_of AreTimes (filter_bounds t) filters (all_times t filters))

-- ---- the interval

abbrev IsWithin : Interval → Type 0
IsWithin interval = (interval.from ≤ 1000000000000) × IfSome interval.until (λ until. until ≤ 1000000000000)

or_first : (from : Option ℕ) → IfSome from (λ second. second ≤ 1000000000000) → unwrap_or from 0 ≤ 1000000000000
or_first None within = omega arith
or_first (Some from) within = within

or_last : (until : Option ℕ) → IfSome until (λ second. second ≤ 1000000000000) → unwrap_or until 1000000000000 ≤ 1000000000000
or_last None within = omega arith
or_last (Some until) within = within

history_times : (from until : Option ℕ) → IfSome from (λ second. second ≤ 1000000000000) → IfSome until (λ second. second ≤ 1000000000000)
    → IfOk (history_interval from until) IsWithin
history_times None until first last = tt
history_times (Some from) until first last = (first, last)

interval_times : (t : Table) (bounds : TimeBounds) → AreTimes bounds → IfOk (interval_of t bounds) IsWithin
interval_times table.StateHist bounds are = history_times bounds.from bounds.until are.0 are.1
interval_times table.Log bounds are = (or_first bounds.from are.0, or_last bounds.until are.1)
interval_times _ bounds are = (omega arith, omega arith)

pub asked_times : (t : Table) (filters : List (List Header)) (interval : Interval) → interval_of t (bounds_of t filters) ≡ Ok interval → IsWithin interval
asked_times t filters interval is = subst (λ found. IfOk found IsWithin) is (interval_times t (bounds_of t filters) (bounds_times t filters))

-- the interval of a history alone may have no end
history_end : (from until : Option ℕ) → IfOk (history_interval from until) (λ interval. interval.until ≡ None → table.StateHist ≡ table.StateHist)
history_end None until = tt
history_end (Some from) until = λ is. refl

interval_end : (t : Table) (bounds : TimeBounds) → IfOk (interval_of t bounds) (λ interval. interval.until ≡ None → t ≡ table.StateHist)
interval_end table.StateHist bounds = history_end bounds.from bounds.until
interval_end table.Log bounds = λ is. absurd (none-some _ (sym is))
interval_end _ bounds = λ is. absurd (none-some _ (sym is))

pub asked_end : (t : Table) (bounds : TimeBounds) (interval : Interval) → interval_of t bounds ≡ Ok interval → interval.until ≡ None → t ≡ table.StateHist
asked_end t bounds interval is = subst (λ found. IfOk found (λ interval. interval.until ≡ None → t ≡ table.StateHist)) is (interval_end t bounds)

-- ---- what a filter that holds says of a row's time

abbrev Allows : ℕ → TimeBounds → Type 0
Allows second bounds = Bounded (λ from. from ≤ second) (λ until. second < until) bounds

abbrev compares : Bool → Ordering → ℤ → Check
compares negated ordering number = record { negated = negated; property = Compares (by.Number ordering number) }

said_allows : (negated : Bool) (ordering : Ordering) (number : ℤ) (second : ℕ) → second < 1000000000000 → is_met (compares negated ordering number) (Number (pos second)) ≡ true
    → Allows second (bounds_said negated ordering number)
said_allows false Equal number second early met =
    let here : Allows second (bounds_said false Equal (pos second)) = (omega arith, omega arith) in
    subst (λ n. Allows second (bounds_said false Equal n)) ((Decides-int_eq (pos second) number).0 met) here
said_allows true Equal number second early met = (tt, tt)
said_allows false Less (pos number) second early met = (tt, grind (arith, ints, met, early))
said_allows false Less (negsuc number) second early met = absurd (false≢true met)
said_allows true Less (pos number) second early met = (grind (arith, ints, met, early), tt)
said_allows true Less (negsuc number) second early met = (omega arith, tt)
said_allows false Greater (pos number) second early met = (grind (arith, ints, met, early), tt)
said_allows false Greater (negsuc number) second early met = (omega arith, tt)
said_allows true Greater (pos number) second early met = (tt, grind (arith, ints, met, early))
said_allows true Greater (negsuc number) second early met = absurd (false≢true met)

both_true : (a b : Bool) → (a && b) ≡ true → (a ≡ true) × (b ≡ true)
both_true true b is = (refl, is)
both_true false b is = absurd (false≢true is)

-- two filters one after the other hold where each does
both_hold : (truth : Test → Bool) (first second : List Header) (n m : ℕ) → AreWhole first n → AreWhole second m → holds truth (first ++ second) ≡ true
    → (holds truth first ≡ true) × (holds truth second ≡ true)
both_hold truth first second n m one two met =
    let parted : holds truth (first ++ second) ≡ (holds truth second && holds truth first)
    = ap (some_or_all false) (both_trees first second n m one two truth) ∙ list_all-append (λ truth. truth) (truths truth (reverse second)) (truths truth (reverse first)) in
    let both : (holds truth second ≡ true) × (holds truth first ≡ true) = both_true (holds truth second) (holds truth first) (sym parted ∙ met) in
    (both.1, both.0)

all_whole : (filters : List (List Header)) → AllByRecursion IsFilter filters → AreWhole (headers_of filters) (length filters)
all_whole [] whole = no_filters
all_whole (headers ∷ filters) whole =
    let count : 1 + length filters ≡ length (headers ∷ filters) = omega arith in
    subst (AreWhole (headers_of (headers ∷ filters))) count (both_whole headers (headers_of filters) 1 (length filters) whole.0 (all_whole filters whole.1))

first_kept : (headers : List Header) (kept : List (List Header)) (test : Bool) → IsFilter headers → AllByRecursion IsFilter kept → AllByRecursion IsFilter (cond test (headers ∷ kept) kept)
first_kept headers kept true whole all = (whole, all)
first_kept headers kept false whole all = all

whole_kept : (filters : List (List Header)) → AllByRecursion IsFilter filters → AllByRecursion IsFilter (filter is_tested filters)
whole_kept [] whole = tt
whole_kept (headers ∷ filters) whole = first_kept headers (filter is_tested filters) (is_tested headers) whole.0 (whole_kept filters whole.1)

module _ (row : Col → Value) (second : ℕ) (early : second < 1000000000000) (is_time : row line_time ≡ Number (pos second)) where
  column_allows : (front : Prefix) (column : OwnColumn) (negated : Bool) (ordering : Ordering) (number : ℤ)
      → is_met (compares negated ordering number) (row (record { prefix = front; own = column })) ≡ true
      → IfSome (option_and_then (bounds_on table.Log) (own_time front column (bounds_said negated ordering number))) (Allows second)
  column_allows prefix.Own (own.Line line.Time) negated ordering number met =
      said_allows negated ordering number second early (ap (is_met (compares negated ordering number)) (sym is_time) ∙ met)
  column_allows prefix.Own (own.Slice slice.Time) negated ordering number met = tt
  column_allows _ _ negated ordering number met = tt

  property_allows : (column : Col) (negated : Bool) (property : Property) → is_met (record { negated = negated; property = property }) (row column) ≡ true
      → IfSome (option_and_then (bounds_on table.Log) (property_time column negated property)) (Allows second)
  property_allows column negated (Compares (by.Number ordering number)) met = column_allows column.prefix column.own negated ordering number met
  property_allows column negated _ met = tt

  filter_allows : (headers : List Header) → holds (truth_on row) headers ≡ true → IfSome (filter_bounds table.Log headers) (Allows second)
  filter_allows (header.Test test ∷ []) met = property_allows test.column test.check.negated test.check.property (both_true (truth_on row test) true met).0
  filter_allows _ met = tt

  -- ---- filters that all hold

  untested_allows : (headers : List Header) (what : Option TimeTest) → filter_time headers ≡ what → tests_rows what ≡ false → IfSome (filter_bounds table.Log headers) (Allows second)
  untested_allows headers (Some (time.Slice bounds)) is off = rw is tt
  untested_allows headers (Some (time.Line bounds)) is off = absurd (false≢true (sym off))
  untested_allows headers None is off = absurd (false≢true (sym off))

  each_allows : (filters : List (List Header)) → AllByRecursion IsFilter filters → holds (truth_on row) (headers_of filters) ≡ true
      → AllByRecursion (λ headers. IfSome (filter_bounds table.Log headers) (Allows second)) filters
  each_allows [] whole met = tt
  each_allows (headers ∷ filters) whole met =
      let both : (holds (truth_on row) headers ≡ true) × (holds (truth_on row) (headers_of filters) ≡ true) = both_hold (truth_on row) headers (headers_of filters) 1 (length filters) whole.0 (all_whole filters whole.1) met in
      (filter_allows headers both.0, each_allows filters whole.1 both.1)

  first_allows : (headers : List Header) (kept : List (List Header)) (test : Bool) → is_tested headers ≡ test
      → AllByRecursion (λ each. IfSome (filter_bounds table.Log each) (Allows second)) (cond test (headers ∷ kept) kept)
      → IfSome (filter_bounds table.Log headers) (Allows second) × AllByRecursion (λ each. IfSome (filter_bounds table.Log each) (Allows second)) kept
  first_allows headers kept true is all = all
  first_allows headers kept false is all = (untested_allows headers (filter_time headers) refl is, all)

  kept_allows : (filters : List (List Header)) → AllByRecursion (λ headers. IfSome (filter_bounds table.Log headers) (Allows second)) (filter is_tested filters)
      → AllByRecursion (λ headers. IfSome (filter_bounds table.Log headers) (Allows second)) filters
  kept_allows [] all = tt
  kept_allows (headers ∷ filters) all =
      let first = first_allows headers (filter is_tested filters) (is_tested headers) refl all in
      (first.0, kept_allows filters first.1)

  filters_allow : (filters : List (List Header)) → AllByRecursion IsFilter filters → holds (truth_on row) (row_headers filters) ≡ true → Allows second (bounds_of table.Log filters)
  filters_allow filters whole met =
      tightest_bounded (λ from. from ≤ second) (λ until. second < until) (λ a b low high. omega arith) (λ a b low high. omega arith)
      (filter_map (filter_bounds table.Log) filters)
      (some_of (Allows second) (filter_bounds table.Log) filters (kept_allows filters (each_allows (filter is_tested filters) (whole_kept filters whole) met)))

or_from : (second : ℕ) (from : Option ℕ) → IfSome from (λ first. first ≤ second) → unwrap_or from 0 ≤ second
or_from second None allows = omega arith
or_from second (Some from) allows = allows

or_until : (second : ℕ) (until : Option ℕ) → second < 1000000000000 → IfSome until (λ last. second < last) → second < unwrap_or until 1000000000000
or_until second None early allows = early
or_until second (Some until) early allows = allows

pub asked_lines : (t : Table) (filters : List (List Header)) (interval : Interval) → All IsFilter filters → interval_of t (bounds_of t filters) ≡ Ok interval
    → (row : Col → Value) (second : ℕ) → t ≡ table.Log → row line_time ≡ Number (pos second) → second < 1000000000000 → holds (truth_on row) (row_headers filters) ≡ true
    → (interval.from ≤ second) × IfSome interval.until (λ until. second < until)
asked_lines t filters interval whole is row second log at early met =
    let bounds : TimeBounds = bounds_of table.Log filters in
    let allowed : Allows second bounds = filters_allow row second early at filters (recursion_from_All IsFilter filters whole) met in
    subst (λ found. IfOk found (λ interval. (interval.from ≤ second) × IfSome interval.until (λ until. second < until)))
    (subst (λ t. interval_of t (bounds_of t filters) ≡ Ok interval) log is)
    (or_from second bounds.from allowed.0, or_until second bounds.until early allowed.1)
