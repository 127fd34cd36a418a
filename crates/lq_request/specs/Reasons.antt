-- The refusals: of each reason the code and the text.
use Rattle.std.specs.Prelude.{ℕ, List, ◌++◌, codes}
use Rattle.lq_records.specs.declared.refusal.Refusal.{Refusal}
use Rattle.lq_request.specs.declared.reason.Reason.{Reason}
use Rattle.lq_request.specs.declared.reason.Reason.TheVariants as reason

abbrev pub refusal_with : ℕ → List ℕ → Refusal
refusal_with code text = record { code = code; text = text }

abbrev pub refusal_of : Reason → Refusal
refusal_of reason.InvalidRequest = refusal_with 452 (codes "invalid request")
refusal_of reason.MissingTable = refusal_with 451 (codes "missing table name")
refusal_of (reason.UnknownTable word) = refusal_with 404 (codes "unknown table: " ++ word)
refusal_of reason.ExtraWords = refusal_with 400 (codes "extra words after the table name")
refusal_of reason.NotUtf8 = refusal_with 400 (codes "not UTF-8")
refusal_of reason.TooManyHeaders = refusal_with 400 (codes "too many headers")
refusal_of reason.NoColon = refusal_with 400 (codes "line without a colon")
refusal_of (reason.UnknownHeader name) = refusal_with 400 (codes "unknown header: " ++ name)
refusal_of (reason.BadValue name) = refusal_with 400 (codes "bad value for " ++ name)
refusal_of (reason.AggregateUnsupported word) =
    refusal_with 400 (codes "aggregate not supported: " ++ word)
refusal_of (reason.UnknownColumn word) = refusal_with 450 (codes "unknown column: " ++ word)
refusal_of (reason.UnknownOperator word) = refusal_with 400 (codes "unknown operator: " ++ word)
refusal_of (reason.NotAllowed column) =
    refusal_with 400 (codes "operator not allowed for " ++ column)
refusal_of (reason.NotNumber value) = refusal_with 400 (codes "not a number: " ++ value)
refusal_of reason.BadPattern = refusal_with 400 (codes "bad pattern")
refusal_of reason.TooManyPatterns = refusal_with 400 (codes "too many patterns")
refusal_of (reason.StackTooShort name) = refusal_with 400 (codes "stack too short for " ++ name)
refusal_of (reason.AggregateIn name) = refusal_with 400 (codes "aggregate in " ++ name)
refusal_of reason.TimeFilterInGroup = refusal_with 400 (codes "time filter inside a group")
refusal_of reason.TimeFilterMissing = refusal_with 400 (codes "time filter missing")
