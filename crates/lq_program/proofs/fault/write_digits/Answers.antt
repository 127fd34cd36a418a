use Rattle.std.proofs.Common.{◌≡◌, ◌+◌, ◌-◌, ◌/◌, ◌%◌, ◌++◌, drop, arith, ap, ◌∙◌}
use Rattle.std.proofs.Math.ListN.{set}
use Rattle.std.specs.Fmt.{decimal}
use Rattle.lq_program.proofs.DigitLemmas.{digits_room, digits_next, digits_first}
use Rattle.lq_program.proofs.fault.write_digits.Goals as goal

pub overflow_sub-at-in-digits : goal.overflow_sub-at-in-digits
overflow_sub-at-in-digits c =
    let room = digits_room c.args.number c.digits.rest c.digits.at c.digits.digits (omega arith) (omega arith) (omega arith) c.digits.invariant.within c.digits.invariant.digits c.digits-test.true in
    omega (arith, room)

pub digits-preserved : goal.digits-preserved
digits-preserved c =
    let room = digits_room c.args.number c.digits.rest c.digits.at c.digits.digits (omega arith) (omega arith) (omega arith) c.digits.invariant.within c.digits.invariant.digits c.digits-test.true in
    let place : c.digits.at - 1 + 1 ≡ c.digits.at = omega (arith, room) in
    record {
      within = omega (arith, c.digits.invariant.within);
      digits = ap (λ n. decimal (c.digits.rest / 10) ++ drop n (set c.digits.digits c.digits.at (48 + c.digits.rest % 10))) place
          ∙ digits_next c.digits.rest c.digits.at c.digits.digits (omega arith) c.digits-test.true (omega (arith, c.digits.invariant.within)) ∙ c.digits.invariant.digits;
    }

pub returns-clause-digits : goal.returns-clause-digits
returns-clause-digits c = digits_first c.digits.rest c.digits.at c.digits.digits (omega (arith, c.digits-test.false)) (omega (arith, c.digits.invariant.within)) ∙ c.digits.invariant.digits
