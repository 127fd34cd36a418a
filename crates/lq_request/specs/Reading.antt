-- What reading a message gives.
use Rattle.std.specs.Prelude.{◌≡◌, ◌<◌, ◌≤◌, ◌+◌, ℕ, pos, true, None, IfSome, Result, Ok, Err, []}
use Rattle.std.specs.Prelude.{length}
use Rattle.lq_schema.specs.Value.{Value, Number}
use Rattle.lq_schema.specs.declared.columns.Col.{Col}
use Rattle.lq_schema.specs.declared.columns.OwnColumn.TheVariants as own
use Rattle.lq_schema.specs.declared.columns.Prefix.TheVariants as prefix
use Rattle.lq_schema.specs.declared.columns.Table.TheVariants as table
use Rattle.lq_schema.specs.declared.line.LineColumn.TheVariants as line
use Rattle.lq_filter.specs.Trees.{holds, truth_on}
use Rattle.lq_request.specs.Request.{Refused}
use Rattle.lq_request.specs.declared.reason.Reason.{Reason}
use Rattle.lq_request.specs.declared.header_err.HeaderErr.{HeaderErr}
use Rattle.lq_request.specs.declared.header_err.HeaderErr.TheVariants as header_err
use Rattle.lq_request.specs.declared.request.Request.{Request}
use Rattle.lq_request.specs.declared.request.ReadErr.{ReadErr}
use Rattle.lq_request.specs.declared.request.ReadErr.TheVariants as error

-- what was read, or the refusal and its style, is what the definition says; out of memory is free
abbrev pub ReadsRequest : Result Request ReadErr → Result Request Refused → Type 0
ReadsRequest (Ok request) asked = asked ≡ Ok request
ReadsRequest (Err (error.Refused refusal fixed16 keep)) asked =
    asked ≡ Err (record { refusal = refusal; style = record { fixed16 = fixed16; keep = keep } })
ReadsRequest (Err error.Memory) asked = Unit {0}

-- a refusal's code has three digits
abbrev pub HasCode : ReadErr → Type 0
HasCode (error.Refused refusal fixed16 keep) = (100 ≤ refusal.code) × (refusal.code ≤ 999)
HasCode error.Memory = Unit {0}

-- a request shows a column or a statistic
abbrev pub ShowsCells : Request → Type 0
ShowsCells request = 0 < length request.columns + length request.stats

-- the bounds of a request's window are times, or the first second after them all
abbrev pub HasTimes : Request → Type 0
HasTimes request = (request.from ≤ 1000000000000)
    × IfSome request.until (λ until. until ≤ 1000000000000)

-- the window of a history alone may end at the present second
abbrev pub HasEnd : Request → Type 0
HasEnd request = request.until ≡ None → request.table ≡ table.StateHist

-- the time of a line of the log
abbrev pub line_time : Col
line_time = record { prefix = prefix.Own; own = own.Line line.Time }

-- The window of a query on the log has the time of each row that the query's filter chooses.
abbrev pub HasChosenLines : Request → Type 0
HasChosenLines request = (row : Col → Value) (second : ℕ) → request.table ≡ table.Log
    → row line_time ≡ Number (pos second) → second < 1000000000000
    → holds (truth_on row) request.filter ≡ true
    → (request.from ≤ second) × IfSome request.until (λ until. second < until)

-- no name is fixed
abbrev pub FixesNoName : Request → Type 0
FixesNoName request = (request.names.own ≡ [])
    × (request.names.host ≡ []) × (request.names.service ≡ [])

-- the same of a part of a message, which tells the reason alone
abbrev pub Finds : {X : Type 0} → Result X HeaderErr → Result X Reason → Type 0
Finds (Ok found) part = part ≡ Ok found
Finds (Err (header_err.Refused reason)) part = part ≡ Err reason
Finds (Err header_err.Memory) part = Unit {0}

-- the same of a change: where it went well, it leaves what the definition says
abbrev pub Leaves : {X : Type 0} → Result Unit HeaderErr → X → Result X Reason → Type 0
Leaves (Ok done) left part = part ≡ Ok left
Leaves (Err (header_err.Refused reason)) left part = part ≡ Err reason
Leaves (Err header_err.Memory) left part = Unit {0}
