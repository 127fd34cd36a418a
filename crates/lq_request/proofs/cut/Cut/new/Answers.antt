use Rattle.std.proofs.Common.{arith, []}
use Rattle.lq_request.proofs.SearchLemmas.{known_nothing}
use Rattle.lq_request.proofs.cut.Cut.new.Goals as goal

pub invariant_of-result : goal.invariant_of-result
invariant_of-result c =
    let none = c.nothing.ensures in
    (omega arith, omega arith, c.in_ok-vec.ensures.len, omega (arith, none.next), rw (none.text, none.next, none.seen) (known_nothing []))
