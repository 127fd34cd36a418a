-- What the lines `Stats`, `StatsAnd`, `StatsOr` and `StatsNegate` add to a query, or why one of
-- them is refused.
use Rattle.std.specs.Prelude.{ℕ, ◌≡◌, ◌≢◌, ◌&&◌, nat_le, nat_lt, Bool, Option, Some, None, ok_or}
use Rattle.std.specs.Prelude.{option_map, Result, Ok, Err}
use Rattle.std.specs.Prelude.{List, [], ◌∷◌, ◌++◌, length, bytes_eq, codes, if◌then◌else◌}
use Rattle.lq_filter.specs.Trees.{height}
use Rattle.lq_filter.specs.declared.header.Header.{Header}
use Rattle.lq_filter.specs.declared.header.Header.TheVariants as header
use Rattle.lq_schema.specs.Kinds.{own_kind}
use Rattle.lq_schema.specs.Schema.{column_of}
use Rattle.lq_schema.specs.declared.columns.Col.{Col}
use Rattle.lq_schema.specs.declared.columns.ColKind.{ColKind}
use Rattle.lq_schema.specs.declared.columns.ColKind.TheVariants as col_kind
use Rattle.lq_schema.specs.declared.columns.Table.{Table}
use Rattle.lq_stats.specs.declared.kind.StatKind.{StatKind}
use Rattle.lq_stats.specs.declared.kind.StatKind.TheVariants as stat_kind
use Rattle.lq_request.specs.declared.aggregate.Aggregate.{Aggregate}
use Rattle.lq_request.specs.declared.aggregate.Aggregate.TheVariants as aggregate
use Rattle.lq_request.specs.declared.entry.StatDraft.{StatDraft}
use Rattle.lq_request.specs.declared.entry.StatDraft.TheVariants as draft
use Rattle.lq_request.specs.declared.entry.StatEntry.{StatEntry}
use Rattle.lq_request.specs.declared.entry.StatEntry.TheVariants as entry
use Rattle.lq_request.specs.declared.reason.Reason.{Reason}
use Rattle.lq_request.specs.declared.reason.Reason.TheVariants as reason
use Rattle.lq_request.specs.Filters.{earlier, latest}

-- ---- entries

-- the entry of a query that is read whole: the headers are those of its filter
abbrev pub entry_of_draft : StatDraft → StatEntry
entry_of_draft (draft.Count headers) = entry.Count headers
entry_of_draft (draft.Over kind column) = entry.Over kind column

-- what is asked of a column is no count, and the column has numbers
abbrev pub IsAggregate : StatKind → Col → Type 0
IsAggregate kind column = (kind ≢ stat_kind.Count) × (own_kind column.own ≡ col_kind.Int)

-- an entry counts by the headers of one tree, or is an aggregate of a column of numbers
abbrev pub IsStat : StatEntry → Type 0
IsStat (entry.Count filter) = height filter ≡ 1
IsStat (entry.Over kind column) = IsAggregate kind column

abbrev pub IsEntry : StatDraft → Type 0
IsEntry entry = IsStat (entry_of_draft entry)

-- ---- the value of a `Stats` line

-- the aggregate that a word names
abbrev pub aggregate_of : List ℕ → Option Aggregate
aggregate_of word =
    if bytes_eq word (codes "sum") then Some aggregate.Sum
    else if bytes_eq word (codes "min") then Some aggregate.Min
    else if bytes_eq word (codes "max") then Some aggregate.Max
    else if bytes_eq word (codes "avg") then Some aggregate.Avg
    else if bytes_eq word (codes "std") then Some aggregate.Std
    else if bytes_eq word (codes "suminv") then Some aggregate.SumInv
    else if bytes_eq word (codes "avginv") then Some aggregate.AvgInv
    else None

-- the statistics that give an aggregate, None for those that aren't supported
abbrev pub stat_kind_of : Aggregate → Option StatKind
stat_kind_of aggregate.Sum = Some stat_kind.Sum
stat_kind_of aggregate.Min = Some stat_kind.Min
stat_kind_of aggregate.Max = Some stat_kind.Max
stat_kind_of aggregate.Avg = Some stat_kind.Avg
stat_kind_of aggregate.Std = None
stat_kind_of aggregate.SumInv = None
stat_kind_of aggregate.AvgInv = None

abbrev pub first_aggregate : List (List ℕ) → Option Aggregate
first_aggregate [] = None
first_aggregate (word ∷ words) = aggregate_of word

-- an aggregate wants a column of numbers
abbrev pub number_kind : List ℕ → Col → ColKind → Result Col Reason
number_kind name column col_kind.Int = Ok column
number_kind name column _ = Err (reason.NotAllowed name)

abbrev pub number_column : List ℕ → Option Col → Result Col Reason
number_column name None = Err (reason.UnknownColumn name)
number_column name (Some column) = number_kind name column (own_kind column.own)

abbrev pub over_column : StatKind → Result Col Reason → Result StatDraft Reason
over_column kind (Err fault) = Err fault
over_column kind (Ok column) = Ok (draft.Over kind column)

-- what the word of an aggregate says of the column with a name
abbrev pub aggregate_over :
    Table → Option StatKind → List ℕ → List ℕ → Result StatDraft Reason
aggregate_over table None word name = Err (reason.AggregateUnsupported word)
aggregate_over table (Some kind) word name =
    over_column kind (number_column name (column_of table name))

-- an aggregate's word is followed by exactly one more, the name of a column
abbrev pub aggregate_entry :
    Table → List ℕ → Aggregate → List (List ℕ) → Result StatDraft Reason
aggregate_entry table header aggregate (word ∷ name ∷ []) =
    aggregate_over table (stat_kind_of aggregate) word name
aggregate_entry table header aggregate _ = Err (reason.BadValue header)

-- ---- entries that are joined

-- the headers of entries, one after the other; None where one of them is an aggregate
abbrev pub headers_of_counts : List StatDraft → Option (List Header)
headers_of_counts [] = Some []
headers_of_counts (draft.Count headers ∷ entries) =
    option_map (λ later. headers ++ later) (headers_of_counts entries)
headers_of_counts (draft.Over kind column ∷ entries) = None

-- the headers of the last entries, one at least and no more than there are, where each counts
abbrev pub last_counted : List ℕ → List StatDraft → ℕ → Result (List Header) Reason
last_counted name entries count =
    if nat_lt 0 count && nat_le count (length entries)
    then ok_or (headers_of_counts (latest entries count)) (reason.AggregateIn name)
    else Err (reason.StackTooShort name)

-- the last entries become one, whose filter has the headers of theirs and after them one more
abbrev pub with_last :
    List StatDraft → ℕ → Header → Result (List Header) Reason → Result (List StatDraft) Reason
with_last entries count last (Err fault) = Err fault
with_last entries count last (Ok headers) =
    Ok (earlier entries count ++ draft.Count (headers ++ last ∷ []) ∷ [])

-- `StatsAnd` and `StatsOr` join the last entries
abbrev pub with_joined :
    List ℕ → Bool → List StatDraft → ℕ → Result (List StatDraft) Reason
with_joined name any entries count =
    with_last entries count (header.Join (record { count = count; any = any }))
    (last_counted name entries count)

-- `StatsNegate` turns the last entry
abbrev pub with_negated : List ℕ → List StatDraft → Result (List StatDraft) Reason
with_negated name entries = with_last entries 1 header.Negate (last_counted name entries 1)
