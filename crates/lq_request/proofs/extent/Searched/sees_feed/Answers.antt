use Rattle.std.proofs.Common.{arith, refl}
use Rattle.lq_request.proofs.SearchLemmas.{fed_contains, known_all, known_line, unfed_line}
use Rattle.lq_request.proofs.extent.Searched.sees_feed.Goals as goal

pub returns-in_default-clause-none : goal.returns-in_default-clause-none
returns-in_default-clause-none c = known_all _ _ _ _ c.requires (c.in_default.ensures.none.0 refl)

pub returns-clause-none : goal.returns-clause-none
returns-clause-none c =
    let line = c.in-Some.ensures.some in
    unfed_line _ _ _ _ _ _ c.requires line (omega (arith, c.if-end-next.false, line.order))

pub returns-clause-known : goal.returns-clause-known
returns-clause-known c =
    let line = c.in-Some.ensures.some in
    known_line _ _ _ _ _ _ c.requires line (omega (arith, c.if-end-next.false, line.order))

pub returns-then-end-next-clause-some : goal.returns-then-end-next-clause-some
returns-then-end-next-clause-some c = fed_contains _ _ _ _ c.in-Some.ensures.some c.if-end-next.true
