use Rattle.std.proofs.Common.{Some, sym, ap, ◌∙◌, arith}
use Rattle.lq_objects.proofs.NumberLemmas.{number_in-number}
use Rattle.lq_objects.proofs.directive.number_between.Goals as goal

pub returns-in-Some : goal.returns-in-Some
returns-in-Some c =
    let read = c.in-Some.ensures {u = tt} in
    ap Some read.1
    ∙ sym (number_in-number _ _ _ read.0
    (omega (arith, read.1, c.if-from-number.true, c.from.ensures))
    (omega (arith, read.1, c.if-number-from.true, c.from-then-from-number.ensures)))
