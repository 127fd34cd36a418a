-- What the header lines of a query say, or why one of them is refused.
use Rattle.std.specs.Prelude.{ℕ, ◌+◌, ◌==◌, nat_lt, length, Bool, true, false, not, Option, Some}
use Rattle.std.specs.Prelude.{None, is_none, ok_or}
use Rattle.std.specs.Prelude.{Result, Ok, Err, List, [], ◌∷◌, ◌++◌, take, drop, find, bytes_eq}
use Rattle.std.specs.Prelude.{codes, position, if◌then◌else◌}
use Rattle.std.specs.List.{filter_map}
use Rattle.std.specs.Str.{is_utf8}
use Rattle.lq_text.specs.Blanks.{without_blanks, words_of}
use Rattle.lq_schema.specs.Schema.{column_of}
use Rattle.lq_schema.specs.declared.columns.Col.{Col}
use Rattle.lq_schema.specs.declared.columns.Table.{Table}
use Rattle.lq_filter.specs.declared.header.Header.{Header}
use Rattle.lq_filter.specs.declared.header.Header.TheVariants as filter_header
use Rattle.lq_filter.specs.declared.read.Test.{Test}
use Rattle.lq_request.specs.Filters.{filter_test, patterns_with, test_of, test_words, with_group}
use Rattle.lq_request.specs.Formats.{format_value, separators_value}
use Rattle.lq_request.specs.Numbers.{number_value}
use Rattle.lq_request.specs.Stats.{aggregate_entry, first_aggregate, with_joined, with_negated}
use Rattle.lq_request.specs.declared.aggregate.Aggregate.{Aggregate}
use Rattle.lq_request.specs.declared.entry.StatDraft.{StatDraft}
use Rattle.lq_request.specs.declared.entry.StatDraft.TheVariants as stat_draft
use Rattle.lq_request.specs.declared.header.Draft.{Draft}
use Rattle.lq_request.specs.declared.reason.Reason.{Reason}
use Rattle.lq_request.specs.declared.reason.Reason.TheVariants as reason
use Rattle.lq_request.specs.Style.{is_colon, switch_value}

-- ---- values

-- a switch is the word that turns it on, or `off`
abbrev pub switch : List ℕ → List ℕ → List ℕ → Result Bool Reason
switch on name value = ok_or (switch_value on value) (reason.BadValue name)

abbrev pub names_none : Table → List ℕ → Bool
names_none table word = is_none (column_of table word)

abbrev pub named_columns :
    Table → List (List ℕ) → Option (List ℕ) → Result (List Col) Reason
named_columns table words (Some word) = Err (reason.UnknownColumn word)
named_columns table words None = Ok (filter_map (column_of table) words)

-- the columns that words name; the first word that names none decides
abbrev pub columns_of_words : Table → List (List ℕ) → Result (List Col) Reason
columns_of_words table words = named_columns table words (find (names_none table) words)

abbrev pub some_columns : Table → List ℕ → List (List ℕ) → Result (List Col) Reason
some_columns table name [] = Err (reason.BadValue name)
some_columns table name (word ∷ words) = columns_of_words table (word ∷ words)

-- a value that names columns has one word at least
abbrev pub columns_value : Table → List ℕ → List ℕ → Result (List Col) Reason
columns_value table name value = some_columns table name (words_of value)

-- ---- a header

-- the most header lines that a query may have
abbrev pub most_headers : ℕ
most_headers = 256

-- the draft that a well-formed value leaves
abbrev pub draft_by : {V : Type 0} → Result V Reason → (V → Draft) → Result Draft Reason
draft_by (Err fault) left = Err fault
draft_by (Ok value) left = Ok (left value)

-- what follows from a part that is well formed
abbrev pub if_read : {V W : Type 0} → Result V Reason → (V → Result W Reason) → Result W Reason
if_read (Err fault) later = Err fault
if_read (Ok value) later = later value

-- the draft with other filters
abbrev pub with_filters : Draft → Result (List (List Header)) Reason → Result Draft Reason
with_filters draft all = draft_by all (λ filters. record draft { filters = filters })

-- columns are added to those that earlier lines name
abbrev pub with_columns : List ℕ → List ℕ → Draft → Result Draft Reason
with_columns name value draft =
    draft_by (columns_value draft.request.table name value)
    (λ more. record draft {
      request = record draft.request { columns = draft.request.columns ++ more };
    })

-- a test is added to the filters
abbrev pub with_test : Draft → Test → Result Draft Reason
with_test draft test =
    draft_by (patterns_with draft.patterns test) (λ patterns. record draft {
      filters = draft.filters ++ (filter_header.Test test ∷ []) ∷ [];
      patterns = patterns;
    })

abbrev pub with_test_value : List ℕ → List ℕ → Draft → Result Draft Reason
with_test_value name value draft =
    if_read (filter_test draft.request.table name (test_words value)) (with_test draft)

-- the last filters are joined
abbrev pub with_join_value : List ℕ → Bool → List ℕ → Draft → Result Draft Reason
with_join_value name any value draft =
    with_filters draft (if_read (number_value name value) (λ count.
    with_group name draft.filters count
    (filter_header.Join (record { count = count; any = any }))))

-- the last filter is turned
abbrev pub with_negation : List ℕ → Draft → Result Draft Reason
with_negation name draft =
    with_filters draft (with_group name draft.filters 1 filter_header.Negate)

-- an entry is added to the statistics
abbrev pub with_entry : Draft → Result StatDraft Reason → Result Draft Reason
with_entry draft entry =
    draft_by entry (λ more. record draft { stats = draft.stats ++ more ∷ [] })

-- the rows of a test are counted
abbrev pub with_count : Draft → Test → Result Draft Reason
with_count draft test =
    draft_by (patterns_with draft.patterns test) (λ patterns. record draft {
      stats = draft.stats ++ stat_draft.Count (filter_header.Test test ∷ []) ∷ [];
      patterns = patterns;
    })

abbrev pub with_stats_by : List ℕ → List ℕ → Option Aggregate → Draft → Result Draft Reason
with_stats_by name value (Some aggregate) draft =
    with_entry draft (aggregate_entry draft.request.table name aggregate (words_of value))
with_stats_by name value None draft =
    if_read (test_of draft.request.table name (test_words value)) (with_count draft)

-- a value whose first word is an aggregate's is one; any other is a filter, which counts
abbrev pub with_stats_value : List ℕ → List ℕ → Draft → Result Draft Reason
with_stats_value name value draft =
    with_stats_by name value (first_aggregate (words_of value)) draft

-- the draft with other entries of its statistics
abbrev pub with_stats : Draft → Result (List StatDraft) Reason → Result Draft Reason
with_stats draft entries = draft_by entries (λ stats. record draft { stats = stats })

-- the last entries are joined
abbrev pub with_stats_join : List ℕ → Bool → List ℕ → Draft → Result Draft Reason
with_stats_join name any value draft =
    with_stats draft (if_read (number_value name value) (with_joined name any draft.stats))

-- What a query says with one more header, of which this is the name and the value. Columns, filters
-- and entries are added; of other headers the last decides. `Negate` and `StatsNegate` have no
-- value, of `KeepAlive` and `ResponseHeader` the style speaks, and `Localtime` and `Timelimit` say
-- nothing.
unfoldable pub with_header : List ℕ → List ℕ → Draft → Result Draft Reason
with_header name value draft =
    if bytes_eq name (codes "Columns") then with_columns name value draft
    else if bytes_eq name (codes "ColumnHeaders")
    then draft_by (switch (codes "on") name value) (λ on. record draft { names = Some on })
    else if bytes_eq name (codes "Filter") then with_test_value name value draft
    else if bytes_eq name (codes "And") then with_join_value name false value draft
    else if bytes_eq name (codes "Or") then with_join_value name true value draft
    else if bytes_eq name (codes "Negate") then with_negation name draft
    else if bytes_eq name (codes "Stats") then with_stats_value name value draft
    else if bytes_eq name (codes "StatsAnd") then with_stats_join name false value draft
    else if bytes_eq name (codes "StatsOr") then with_stats_join name true value draft
    else if bytes_eq name (codes "StatsNegate")
    then with_stats draft (with_negated name draft.stats)
    else if bytes_eq name (codes "Limit")
    then draft_by (number_value name value) (λ limit. record draft {
      request = record draft.request { limit = Some limit };
    })
    else if bytes_eq name (codes "OutputFormat")
    then draft_by (format_value name value) (λ format. record draft {
      request = record draft.request { format = format };
    })
    else if bytes_eq name (codes "Separators")
    then draft_by (separators_value name value) (λ separators. record draft {
      request = record draft.request { separators = separators };
    })
    else if bytes_eq name (codes "AuthUser")
    then Ok (record draft { request = record draft.request { user = Some (without_blanks value) } })
    else if bytes_eq name (codes "ResponseHeader")
    then draft_by (switch (codes "fixed16") name value) (λ on. draft)
    else if bytes_eq name (codes "KeepAlive")
    then draft_by (switch (codes "on") name value) (λ on. draft)
    else if bytes_eq name (codes "Localtime")
    then draft_by (number_value name value) (λ number. draft)
    else if bytes_eq name (codes "Timelimit")
    then draft_by (number_value name value) (λ number. draft)
    else Err (reason.UnknownHeader name)

-- ---- header lines

-- a name goes up to the first colon, the value follows it
abbrev pub with_header_at : List ℕ → Option ℕ → Draft → Result Draft Reason
with_header_at line None draft = Err reason.NoColon
with_header_at line (Some colon) draft =
    with_header (take colon line) (drop (colon + 1) line) draft

-- What a query says with a line more, by the line's number from 1. Of several faults the first in
-- this order decides.
abbrev pub with_line : ℕ → List ℕ → Draft → Result Draft Reason
with_line number line draft =
    if not (is_utf8 line) then Err reason.NotUtf8
    else if nat_lt most_headers number then Err reason.TooManyHeaders
    else with_header_at line (position is_colon line) draft

-- What a query says with header lines from a number on, after those before. The first empty line
-- ends them; before it the first line with a fault decides.
abbrev pub header_lines : ℕ → List (List ℕ) → Draft → Result Draft Reason
header_lines number [] draft = Ok draft
header_lines number (line ∷ lines) draft =
    if length line == 0 then Ok draft
    else if_read (with_line number line draft)
    (λ next. header_lines (number + 1) lines next)
