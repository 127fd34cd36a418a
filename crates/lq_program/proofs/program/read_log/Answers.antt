use Rattle.std.proofs.Common.{◌≡◌, Ok, Err, ap, refl, sym, ◌∙◌}
use Rattle.lq_log.specs.Log.{log_in, log_of}
use Rattle.lq_log.specs.declared.whole.LogErr.TheVariants.{TooManyLines, LineTooLong}
use Rattle.lq_program.proofs.LoadLemmas.{log_at_fault, log_too_large, said_log}
use Rattle.lq_program.proofs.program.read_log.Goals as goal

pub returns-in-Err-TooLarge-clause-err : goal.returns-in-Err-TooLarge-clause-err
returns-in-Err-TooLarge-clause-err g c = log_too_large _ (rw c.in-Err-TooLarge.field-0-is at c.in-Err-TooLarge.ensures.loads)

pub returns-in-Ok-read-clause-ok : goal.returns-in-Ok-read-clause-ok
returns-in-Ok-read-clause-ok g c =
    let loads = c.in-Ok.ensures.loads in
    let read : log_of c.in-Ok.bytes.items ≡ Ok (log_in c.in-Ok-read.log) = ap log_of (sym c.deref.ensures.value) ∙ c.in-Ok-read.ensures in
    said_log _ c.in-Ok.bytes.items _ loads.0 loads.1 read

pub returns-in-Err-TooManyLines-clause-err : goal.returns-in-Err-TooManyLines-clause-err
returns-in-Err-TooManyLines-clause-err g c =
    let loads = c.in-Ok.ensures.loads in
    let read : log_of c.in-Ok.bytes.items ≡ Err (TooManyLines c.in-Err-TooManyLines.line) =
    ap log_of (sym c.deref.ensures.value) ∙ (rw c.in-Err-TooManyLines.field-0-is at c.in-Err-TooManyLines.ensures) in
    log_at_fault _ c.in-Ok.bytes.items _ _ loads.0 loads.1 read refl

pub returns-in-Err-LineTooLong-clause-err : goal.returns-in-Err-LineTooLong-clause-err
returns-in-Err-LineTooLong-clause-err g c =
    let loads = c.in-Ok.ensures.loads in
    let read : log_of c.in-Ok.bytes.items ≡ Err (LineTooLong c.in-Err-LineTooLong.line) =
    ap log_of (sym c.deref.ensures.value) ∙ (rw c.in-Err-LineTooLong.field-0-is at c.in-Err-LineTooLong.ensures) in
    log_at_fault _ c.in-Ok.bytes.items _ _ loads.0 loads.1 read refl
