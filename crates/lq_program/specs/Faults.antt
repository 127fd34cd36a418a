-- The ends of the program, their statuses and their texts.
use Rattle.std.specs.Prelude.{ℕ, ◌≤◌, nat_lt, Option, Some, None, Result, Ok, Err, List, [], ◌∷◌}
use Rattle.std.specs.Prelude.{◌++◌, length, codes, if◌then◌else◌}
use Rattle.std.specs.Fmt.{decimal}
use Rattle.lq_records.specs.declared.base.Base.{Base}
use Rattle.lq_records.specs.declared.base.Rules.{Rules}
use Rattle.lq_objects.specs.Objects.{base_of}
use Rattle.lq_objects.specs.Reading.{what_text}
use Rattle.lq_objects.specs.declared.fault.FaultyLine.{FaultyLine}
use Rattle.lq_log.specs.Log.{Log, log_of}
use Rattle.lq_log.specs.declared.whole.LogErr.{LogErr}
use Rattle.lq_log.specs.declared.whole.LogErr.TheVariants as err
use Rattle.lq_program.specs.declared.fault.LogFault.{LogFault}
use Rattle.lq_program.specs.declared.fault.LogFault.TheVariants as log
use Rattle.lq_program.specs.declared.fault.ObjectsFault.{ObjectsFault}
use Rattle.lq_program.specs.declared.fault.ObjectsFault.TheVariants.{At, TooLarge}
use Rattle.lq_program.specs.declared.fault.Fault.{Fault as End}
use Rattle.lq_program.specs.declared.fault.Fault.TheVariants as end

-- ---- how long a file may be

-- the most bytes of an object file, and of a log
abbrev pub file_limit : ℕ
file_limit = 67108864

-- ---- what is wrong with an object file

abbrev pub fault_of_base : Result Base FaultyLine → Option ObjectsFault
fault_of_base (Ok base) = None
fault_of_base (Err fault) = Some (At fault.line fault.what)

-- the fault of an object file, where it has one
unfoldable pub objects_fault : List ℕ → Rules → Option ObjectsFault
objects_fault bytes rules =
    if nat_lt file_limit (length bytes) then Some TooLarge
    else fault_of_base (base_of bytes rules)

-- ---- what is wrong with a log

abbrev pub fault_of_log : Result Log LogErr → Option LogFault
fault_of_log (Ok read) = None
fault_of_log (Err (err.TooManyLines line)) = Some (log.TooManyLines line)
fault_of_log (Err (err.LineTooLong line)) = Some (log.LineTooLong line)
fault_of_log (Err (err.Memory error)) = None

-- the fault of a log, where it has one: it has more than 67,108,864 bytes, or a line passes a limit
unfoldable pub log_fault : List ℕ → Option LogFault
log_fault bytes =
    if nat_lt file_limit (length bytes) then Some log.TooLarge else fault_of_log (log_of bytes)

-- ---- statuses

-- 0 to 7
abbrev pub IsStatus : ℕ → Type 0
IsStatus status = status ≤ 7

abbrev pub status_of : End → ℕ
status_of end.Usage = 1
status_of (end.Objects fault) = 2
status_of (end.Log fault) = 3
status_of (end.FileMissing path) = 4
status_of (end.FileUnreadable path) = 4
status_of end.Read = 5
status_of end.Write = 6
status_of end.Memory = 7

-- ---- texts

abbrev pub line : List ℕ → List ℕ
line text = text ++ 10 ∷ []

abbrev pub usage_text : List ℕ
usage_text = line (codes "usage: lqd ask|replay|serve|load")

-- the number of a line and what is wrong there
abbrev pub at_line : ℕ → List ℕ → List ℕ
at_line number what = line (decimal number ++ (codes ": " ++ what))

abbrev pub objects_fault_text : ObjectsFault → List ℕ
objects_fault_text TooLarge = line (codes "objects: too large")
objects_fault_text (At number what) = codes "objects: line " ++ at_line number (what_text what)

abbrev pub log_fault_text : LogFault → List ℕ
log_fault_text (log.TooManyLines number) =
    codes "log: line " ++ at_line number (codes "too many lines")
log_fault_text (log.LineTooLong number) =
    codes "log: line " ++ at_line number (codes "line too long")
log_fault_text log.TooLarge = line (codes "log: too large")

abbrev pub missing_text : List ℕ → List ℕ
missing_text path = line (codes "file: " ++ (path ++ codes ": missing"))

abbrev pub unreadable_text : List ℕ → List ℕ
unreadable_text path = line (codes "file: " ++ (path ++ codes ": cannot be read"))

abbrev pub read_text : List ℕ
read_text = line (codes "read fault")

abbrev pub write_text : List ℕ
write_text = line (codes "write fault")

abbrev pub memory_text : List ℕ
memory_text = line (codes "out of memory")

abbrev pub end_text : End → List ℕ
end_text end.Usage = usage_text
end_text (end.Objects fault) = objects_fault_text fault
end_text (end.Log fault) = log_fault_text fault
end_text (end.FileMissing path) = missing_text path.now
end_text (end.FileUnreadable path) = unreadable_text path.now
end_text end.Read = read_text
end_text end.Write = write_text
end_text end.Memory = memory_text
