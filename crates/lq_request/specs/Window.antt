-- The window of time that a query asks for: what its filters say of the time of rows. Times are
-- seconds since 1970 with at most 12 digits, so all are below 1,000,000,000,000.
use Rattle.std.specs.Prelude.{ℕ, ◌+◌, min, max, ℤ, pos, negsuc, Bool, true, false, not, Option}
use Rattle.std.specs.Prelude.{Some, None, option_and_then, unwrap_or}
use Rattle.std.specs.Prelude.{Result, Ok, Err, List, [], ◌∷◌, filter}
use Rattle.std.specs.List.{filter_map, flat_map, list_any, reduce}
use Rattle.std.specs.declared.cmp.Ordering.{Ordering}
use Rattle.std.specs.declared.cmp.Ordering.TheVariants.{Equal, Greater, Less}
use Rattle.lq_schema.specs.declared.columns.Col.{Col}
use Rattle.lq_schema.specs.declared.columns.OwnColumn.{OwnColumn}
use Rattle.lq_schema.specs.declared.columns.OwnColumn.TheVariants as own
use Rattle.lq_schema.specs.declared.columns.Prefix.{Prefix}
use Rattle.lq_schema.specs.declared.columns.Prefix.TheVariants as prefix
use Rattle.lq_schema.specs.declared.columns.Table.{Table}
use Rattle.lq_schema.specs.declared.columns.Table.TheVariants as table
use Rattle.lq_schema.specs.declared.line.LineColumn.TheVariants as line
use Rattle.lq_schema.specs.declared.slice.SliceColumn.TheVariants as slice
use Rattle.lq_filter.specs.declared.check.Comparison.TheVariants as by
use Rattle.lq_filter.specs.declared.check.Property.{Property}
use Rattle.lq_filter.specs.declared.check.Property.TheVariants.{Compares}
use Rattle.lq_filter.specs.declared.header.Header.{Header}
use Rattle.lq_filter.specs.declared.header.Header.TheVariants as header
use Rattle.lq_filter.specs.declared.read.Test.{Test}
use Rattle.lq_request.specs.declared.reason.Reason.{Reason}
use Rattle.lq_request.specs.declared.reason.Reason.TheVariants as reason
use Rattle.lq_request.specs.declared.time.Interval.{Interval}
use Rattle.lq_request.specs.declared.time.TimeBounds.{TimeBounds}
use Rattle.lq_request.specs.declared.time.TimeTest.{TimeTest}
use Rattle.lq_request.specs.declared.time.TimeTest.TheVariants as time

-- ---- the bounds that a test says

-- the second that a number says, or the nearest one that may be a bound
abbrev pub second_at : ℤ → ℕ
second_at (pos number) = min 1000000000000 number
second_at (negsuc less) = 0

-- the second after it, or the nearest one that may be a bound
abbrev pub next_bound : ℤ → ℕ
next_bound (pos number) = min 1000000000000 (number + 1)
next_bound (negsuc less) = 0

abbrev pub bounds : Option ℕ → Option ℕ → TimeBounds
bounds from until = record { from = from; until = until }

-- What each comparison with a number says: in order `=`, `!=`, `<`, `>=`, `>` and `<=`. The upper
-- bound is the first second that isn't allowed.
abbrev pub bounds_said : Bool → Ordering → ℤ → TimeBounds
bounds_said false Equal number = bounds (Some (second_at number)) (Some (next_bound number))
bounds_said true Equal number = bounds None None
bounds_said false Less number = bounds None (Some (second_at number))
bounds_said true Less number = bounds (Some (second_at number)) None
bounds_said false Greater number = bounds (Some (next_bound number)) None
bounds_said true Greater number = bounds None (Some (next_bound number))

-- the time of a line of the log, or of a slice of a history
abbrev pub own_time : Prefix → OwnColumn → TimeBounds → Option TimeTest
own_time prefix.Own (own.Line line.Time) bounds = Some (time.Line bounds)
own_time prefix.Own (own.Slice slice.Time) bounds = Some (time.Slice bounds)
own_time _ _ bounds = None

abbrev pub property_time : Col → Bool → Property → Option TimeTest
property_time column negated (Compares (by.Number ordering number)) =
    own_time column.prefix column.own (bounds_said negated ordering number)
property_time column negated _ = None

-- the time that a test is of, and the bounds that it says
abbrev pub time_test : Test → Option TimeTest
time_test test = property_time test.column test.check.negated test.check.property

-- A filter says what its one test does. What `And`, `Or` or `Negate` made of filters says nothing.
abbrev pub filter_time : List Header → Option TimeTest
filter_time (header.Test test ∷ []) = time_test test
filter_time _ = None

-- ---- what rows are tested by

-- whether rows are tested by a filter: the interval of a history stands for those of its time
abbrev pub tests_rows : Option TimeTest → Bool
tests_rows (Some (time.Slice bounds)) = false
tests_rows _ = true

abbrev pub is_tested : List Header → Bool
is_tested headers = tests_rows (filter_time headers)

-- the headers of filters, one after the other
abbrev pub headers_of : List (List Header) → List Header
headers_of filters = flat_map (λ headers. headers) filters

-- the headers that rows are tested by
abbrev pub row_headers : List (List Header) → List Header
row_headers filters = headers_of (filter is_tested filters)

-- whether one of the filters is of the time of a history
abbrev pub has_history_time : List (List Header) → Bool
has_history_time filters = list_any (λ headers. not (is_tested headers)) filters

-- ---- the bounds that filters say together

-- what a test of a time says of the rows of a table
abbrev pub bounds_on : Table → TimeTest → Option TimeBounds
bounds_on table.Log (time.Line bounds) = Some bounds
bounds_on table.StateHist (time.Slice bounds) = Some bounds
bounds_on _ _ = None

-- what a filter says of the time of the rows of a table
abbrev pub filter_bounds : Table → List Header → Option TimeBounds
filter_bounds table headers = option_and_then (bounds_on table) (filter_time headers)

-- the tightest: the latest lower bound and the earliest upper one
abbrev pub tightest : List TimeBounds → TimeBounds
tightest all = record {
  from = reduce max (filter_map (λ bounds. bounds.from) all);
  until = reduce min (filter_map (λ bounds. bounds.until) all);
}

-- what the filters that stand by themselves say together
abbrev pub bounds_of : Table → List (List Header) → TimeBounds
bounds_of table filters = tightest (filter_map (filter_bounds table) filters)

-- ---- the interval

abbrev pub interval : ℕ → Option ℕ → Interval
interval from until = record { from = from; until = until }

-- all time
abbrev pub whole_interval : Interval
whole_interval = interval 0 (Some 1000000000000)

-- a history has to have a lower bound; without an upper one it ends at the present second
abbrev pub history_interval : Option ℕ → Option ℕ → Result Interval Reason
history_interval None until = Err reason.TimeFilterMissing
history_interval (Some from) until = Ok (interval from until)

-- The interval of a query on a table, by what its filters say together. On tables without a time it
-- is all time.
abbrev pub interval_of : Table → TimeBounds → Result Interval Reason
interval_of table.StateHist bounds = history_interval bounds.from bounds.until
interval_of table.Log bounds =
    Ok (interval (unwrap_or bounds.from 0) (Some (unwrap_or bounds.until 1000000000000)))
interval_of _ bounds = Ok whole_interval
