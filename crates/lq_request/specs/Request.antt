-- What a message asks, or why it is refused.
use Rattle.std.specs.Prelude.{ℕ, ◌==◌, ◌&&◌, Bool, false, length, map, Option, Some, None}
use Rattle.std.specs.Prelude.{unwrap_or, Result, Ok, Err, List, [], ◌∷◌, bytes_eq, codes}
use Rattle.std.specs.Prelude.{if◌then◌else◌}
use Rattle.std.specs.Str.{is_utf8}
use Rattle.lq_text.specs.Lines.{lines_of}
use Rattle.lq_text.specs.Blanks.{words_of}
use Rattle.lq_schema.specs.Schema.{table_of, columns_of}
use Rattle.lq_schema.specs.declared.columns.Table.{Table}
use Rattle.lq_schema.specs.declared.names.Names.{Names}
use Rattle.lq_records.specs.Formats.{usual_separators}
use Rattle.lq_records.specs.declared.format.Format.TheVariants as format
use Rattle.lq_records.specs.declared.refusal.Refusal.{Refusal}
use Rattle.lq_request.specs.declared.request.Request.{Request}
use Rattle.lq_request.specs.declared.style.Style.{Style}
use Rattle.lq_request.specs.declared.header.Draft.{Draft}
use Rattle.lq_request.specs.declared.reason.Reason.{Reason}
use Rattle.lq_request.specs.declared.reason.Reason.TheVariants as reason
use Rattle.lq_request.specs.Headers.{header_lines}
use Rattle.lq_request.specs.Reasons.{refusal_of}
use Rattle.lq_request.specs.Stats.{entry_of_draft}
use Rattle.lq_request.specs.Style.{style_of}
use Rattle.lq_request.specs.Window.{bounds_of, interval_of, row_headers, whole_interval}
use Rattle.lq_request.specs.declared.time.Interval.{Interval}

-- ---- the first line

abbrev pub known_table : List ℕ → List (List ℕ) → Option Table → Result Table Reason
known_table word more None = Err (reason.UnknownTable word)
known_table word [] (Some table) = Ok table
known_table word (third ∷ more) (Some table) = Err reason.ExtraWords

abbrev pub table_of_words : List (List ℕ) → Result Table Reason
table_of_words [] = Err reason.MissingTable
table_of_words (word ∷ more) = known_table word more (table_of word)

-- the first word is `GET`, the second one the table's name, and no third follows
abbrev pub first_words : List (List ℕ) → Result Table Reason
first_words [] = Err reason.InvalidRequest
first_words (get ∷ words) =
    if bytes_eq get (codes "GET") then table_of_words words else Err reason.InvalidRequest

abbrev pub first_line : List ℕ → Result Table Reason
first_line line = if is_utf8 line then first_words (words_of line) else Err reason.NotUtf8

-- ---- a message

-- no name is fixed
abbrev pub no_names : Names
no_names = record { own = []; host = []; service = [] }

-- a query of a table without header lines
abbrev pub plain : Style → Table → Draft
plain style table = record {
  request = record {
    table = table;
    columns = [];
    head = false;
    filter = [];
    stats = [];
    limit = None;
    format = format.Csv;
    separators = usual_separators;
    fixed16 = style.fixed16;
    keep = style.keep;
    user = None;
    from = whole_interval.from;
    until = whole_interval.until;
    names = no_names;
  };
  names = None;
  filters = [];
  stats = [];
  patterns = 0;
}

-- whether no line names columns or statistics
abbrev pub shows_all : Draft → Bool
shows_all draft = length draft.request.columns == 0 && length draft.stats == 0

-- The request of a query that is read whole and asks for an interval of time. Where no line names
-- columns or statistics, all columns are shown, and the names are written unless a switch says
-- otherwise; where one does, they are written where a switch says so.
abbrev pub finished_in : Draft → Interval → Request
finished_in draft interval = record draft.request {
  columns = if shows_all draft then columns_of draft.request.table else draft.request.columns;
  head = unwrap_or draft.names (shows_all draft);
  filter = row_headers draft.filters;
  stats = map entry_of_draft draft.stats;
  from = interval.from;
  until = interval.until;
  names = no_names;
}

abbrev pub finished_by : Draft → Result Interval Reason → Result Request Reason
finished_by draft (Err fault) = Err fault
finished_by draft (Ok interval) = Ok (finished_in draft interval)

-- the request of a query that is read whole, or why it is refused after all
abbrev pub request_of_draft : Draft → Result Request Reason
request_of_draft draft =
    finished_by draft
    (interval_of draft.request.table (bounds_of draft.request.table draft.filters))

abbrev pub asked_headers : Result Draft Reason → Result Request Reason
asked_headers (Err fault) = Err fault
asked_headers (Ok draft) = request_of_draft draft

abbrev pub asked_table : Style → List (List ℕ) → Result Table Reason → Result Request Reason
asked_table style headers (Err fault) = Err fault
asked_table style headers (Ok table) =
    asked_headers (header_lines 1 headers (plain style table))

abbrev pub asked_lines : Style → List (List ℕ) → Result Request Reason
asked_lines style [] = Err reason.InvalidRequest
asked_lines style (first ∷ headers) = asked_table style headers (first_line first)

-- what a message asks, replied to in a style
unfoldable pub asked_in : Style → List ℕ → Result Request Reason
asked_in style message = asked_lines style (lines_of message)

-- A refusal, and the style of the reply that tells it.
pub record Refused : Type 0 where
  pub refusal : Refusal
  pub style : Style

abbrev pub with_style : Style → Result Request Reason → Result Request Refused
with_style style (Ok request) = Ok request
with_style style (Err fault) = Err (record { refusal = refusal_of fault; style = style })

-- what a message asks, or its refusal; both have the message's style
unfoldable pub request_in : List ℕ → Result Request Refused
request_in message = with_style (style_of message) (asked_in (style_of message) message)
