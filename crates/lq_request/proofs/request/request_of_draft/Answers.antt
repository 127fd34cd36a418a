use Rattle.std.proofs.Common.{ap, sym, ◌∙◌}
use Rattle.lq_request.specs.Window.{interval_of}
use Rattle.lq_request.proofs.WindowLemmas.{asked_lines, asked_times}
use Rattle.lq_request.proofs.request.request_of_draft.Goals as goal
use Rattle.lq_request.proofs.request.request_of_draft.Goals.{then-shows_all+in_ok-request-3, else-shows_all}

pub returns-clause-times : goal.returns-clause-times
returns-clause-times c =
    let asked = ap (interval_of c.args.draft.request.table) (sym c.bounds.ensures) ∙ c.in_ok-interval.ensures in
    let times = asked_times c.args.draft.request.table c.args.draft.filters c.in_ok-interval.interval asked in
    elim c.if-shows_all.branch [ then-shows_all+in_ok-request-3 w ↦ rw w.request-is times | else-shows_all w ↦ rw w.request-is times ]

pub returns-clause-lines : goal.returns-clause-lines
returns-clause-lines c =
    let asked = ap (interval_of c.args.draft.request.table) (sym c.bounds.ensures) ∙ c.in_ok-interval.ensures in
    let lines = asked_lines c.args.draft.request.table c.args.draft.filters c.in_ok-interval.interval c.finish.ensures.each asked in
    elim c.if-shows_all.branch [ then-shows_all+in_ok-request-3 w ↦ rw (w.request-is, c.in_ok-request.ensures.same) lines | else-shows_all w ↦ rw (w.request-is, c.in_ok-request.ensures.same) lines ]
