use Rattle.std.proofs.Common.{◌≡◌, Some, None, subst, ◌∙◌, arith}
use Rattle.lq_program.specs.CommandLine.{number_up_to}
use Rattle.lq_program.proofs.NumberLemmas.{number_none, number_some}
use Rattle.lq_program.proofs.command_line.load_number.Goals as goal

pub returns-in_err-number : goal.returns-in_err-number
returns-in_err-number c =
    c.from_residual.ensures
    ∙ subst (λ bytes. None ≡ number_up_to 1000000 bytes) c.as_bytes.ensures.value (number_none 1000000 c.as_bytes.result.now (omega arith) c.in_err-number.ensures)

pub returns-then-number-le-MOST_LOAD : goal.returns-then-number-le-MOST_LOAD
returns-then-number-le-MOST_LOAD c =
    subst (λ bytes. Some c.in_ok-number.number ≡ number_up_to 1000000 bytes) c.as_bytes.ensures.value
    (number_some 1000000 c.as_bytes.result.now c.in_ok-number.number c.in_ok-number.ensures.0 c.in_ok-number.ensures.1 c.if-number-le-MOST_LOAD.true)
