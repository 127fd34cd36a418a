-- The reply to a query at a state.
use Rattle.std.specs.Prelude.{ℕ, zero, suc, ◌+◌, ◌==◌, ◌&&◌, nat_lt, Bool, true, false, Option}
use Rattle.std.specs.Prelude.{None, Some, List, [], ◌∷◌, ◌++◌, codes, length, map, take, unwrap_or}
use Rattle.std.specs.Prelude.{if◌then◌else◌}
use Rattle.std.specs.Fmt.{decimal}
use Rattle.lq_records.specs.declared.refusal.Refusal.{Refusal}
use Rattle.lq_schema.specs.declared.columns.Col.{Col}
use Rattle.lq_schema.specs.declared.columns.Table.{Table}
use Rattle.lq_schema.specs.Names.{full_name}
use Rattle.lq_schema.specs.Value.{Value, Words}
use Rattle.lq_auth.specs.Rights.{view_of}
use Rattle.lq_live.specs.State.{State}
use Rattle.lq_output.specs.Body.{body_limit, body_text}
use Rattle.lq_output.specs.Header.{header_text, refusal_text}
use Rattle.lq_output.specs.declared.layout.Layout.{Layout}
use Rattle.lq_request.specs.declared.request.Request.{Request}
use Rattle.lq_tables.specs.Rows.{is_history}
use Rattle.lq_tables.specs.declared.window.Window.{Window}
use Rattle.lq_query.specs.Groups.{group_lines}
use Rattle.lq_query.specs.Rows.{chosen_rows, row_cells, seen_rows}
use Rattle.lq_query.specs.declared.reply.Reply.{Reply}

-- ---- rows

-- what a query says of its rows: where it names no end, the interval ends at the present second
abbrev pub window_of : Request → State → Window
window_of request s = record {
  from = request.from;
  until = unwrap_or request.until s.now;
  names = request.names;
}

-- the rows of the query's table that its user sees
abbrev pub asked_rows : Request → State → List (Col → Value)
asked_rows request s =
    seen_rows s (view_of s.base request.user) (window_of request s) request.table

-- more than 1,000,000 slices of histories are too many, however few of them the filter chooses
abbrev pub rows_are_too_many : Table → List (Col → Value) → Bool
rows_are_too_many table rows = is_history table && nat_lt 1000000 (length rows)

-- ---- lines

-- the first of the lines, as many as a limit says
abbrev pub first_lines : Option ℕ → List (List Value) → List (List Value)
first_lines None lines = lines
first_lines (Some limit) lines = take limit lines

-- ---- names

-- the names of the columns
abbrev pub column_names : List Col → List Value
column_names columns = map (λ column. Words (full_name column)) columns

abbrev pub stat_name : ℕ → List ℕ
stat_name number = codes "stats_" ++ decimal number

-- the names of so many statistics: `stats_1`, `stats_2` and so on, from a number on
abbrev pub stat_names : ℕ → ℕ → List Value
stat_names number zero = []
stat_names number (suc count) = Words (stat_name number) ∷ stat_names (number + 1) count

abbrev pub line_of_names : Request → List Value
line_of_names request =
    column_names request.columns ++ stat_names 1 (length request.stats)

abbrev pub with_names : Bool → List Value → List (List Value) → List (List Value)
with_names true names lines = names ∷ lines
with_names false names lines = lines

-- ---- all lines

-- a line for each row, or with statistics one for each group of rows
abbrev pub shown_lines : Request → List (Col → Value) → List (List Value)
shown_lines request rows =
    if length request.stats == 0 then map (row_cells request.columns) rows
    else group_lines request.columns request.stats rows

-- The line of names where it is asked for, then the lines of the rows that the filter chooses, as
-- many as the limit says. The names aren't counted.
abbrev pub reply_lines : Request → List (Col → Value) → List (List Value)
reply_lines request rows =
    with_names request.head (line_of_names request)
    (first_lines request.limit (shown_lines request (chosen_rows request.filter rows)))

-- ---- text

-- the format and the separators that a query asks for
abbrev pub layout_of : Request → Layout
layout_of request = record { format = request.format; separators = request.separators }

-- the text of the lines
abbrev pub reply_body : Request → List (Col → Value) → List ℕ
reply_body request rows = body_text (layout_of request) (reply_lines request rows)

-- with the line of 16 bytes before it where that is asked for
abbrev pub with_fixed_header : Bool → List ℕ → List ℕ
with_fixed_header true body = header_text 200 (length body) ++ body
with_fixed_header false body = body

-- what replaces a reply that is too large
abbrev pub too_large : Refusal
too_large = record { code = 413; text = codes "reply too large" }

abbrev pub large_reply : Bool → Reply
large_reply fixed16 = record { code = 413; bytes = refusal_text too_large fixed16 }

-- a body of more than 8,388,608 bytes is replaced by the refusal 413; any other has the code 200
abbrev pub reply_of_body : Bool → List ℕ → Reply
reply_of_body fixed16 body =
    if nat_lt body_limit (length body) then large_reply fixed16
    else record { code = 200; bytes = with_fixed_header fixed16 body }

-- the reply that the rows make which the user sees; the refusal 413 also replaces that of too many
abbrev pub reply_with : Request → List (Col → Value) → Reply
reply_with request rows =
    if rows_are_too_many request.table rows then large_reply request.fixed16
    else reply_of_body request.fixed16 (reply_body request rows)

abbrev pub answer_of : Request → State → Reply
answer_of request s = reply_with request (asked_rows request s)
