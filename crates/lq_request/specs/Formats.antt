-- What the lines `OutputFormat` and `Separators` say of the body of a reply.
use Rattle.std.specs.Prelude.{ℕ, nat_lt, Option, Some, None, ok_or, Result, List, [], ◌∷◌, bytes_eq}
use Rattle.std.specs.Prelude.{codes, map, if◌then◌else◌}
use Rattle.lq_text.specs.Blanks.{without_blanks, words_of}
use Rattle.lq_records.specs.declared.format.Format.{Format}
use Rattle.lq_records.specs.declared.format.Format.TheVariants as format
use Rattle.lq_records.specs.declared.format.Separators.{Separators}
use Rattle.lq_request.specs.Numbers.{natural_read}
use Rattle.lq_request.specs.declared.reason.Reason.{Reason}
use Rattle.lq_request.specs.declared.reason.Reason.TheVariants as reason

-- ---- `OutputFormat`

abbrev pub format_of : List ℕ → Option Format
format_of word =
    if bytes_eq word (codes "csv") then Some format.Csv
    else if bytes_eq word (codes "CSV") then Some format.Quoted
    else if bytes_eq word (codes "json") then Some format.Json
    else None

-- a format is one of three words, with or without blanks around it
abbrev pub format_value : List ℕ → List ℕ → Result Format Reason
format_value name value = ok_or (format_of (without_blanks value)) (reason.BadValue name)

-- ---- `Separators`

abbrev pub byte_within : Option ℕ → Option ℕ
byte_within None = None
byte_within (Some number) = if nat_lt number 256 then Some number else None

-- the number of 0 to 255 that a word says
abbrev pub byte_read : List ℕ → Option ℕ
byte_read word = byte_within (natural_read word)

-- exactly four numbers: what ends a line, what stands between cells, between the items of a list,
-- and between a host and its service
abbrev pub separators_of : List (Option ℕ) → Option Separators
separators_of (Some row ∷ Some column ∷ Some items ∷ Some pair ∷ []) =
    Some (record { row = row; column = column; list = items; pair = pair })
separators_of _ = None

-- separators are four numbers of 0 to 255, with blanks between them
abbrev pub separators_value : List ℕ → List ℕ → Result Separators Reason
separators_value name value =
    ok_or (separators_of (map byte_read (words_of value))) (reason.BadValue name)
