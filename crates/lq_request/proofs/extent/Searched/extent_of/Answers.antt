use Rattle.std.proofs.Common.{arith}
use Rattle.lq_request.proofs.ExtentLemmas.{command_extent}
use Rattle.lq_request.proofs.SearchLemmas.{last_query, searched_first}
use Rattle.lq_request.proofs.extent.Searched.extent_of.Goals as goal

pub returns-in-Some-command_length-clause-extent : goal.returns-in-Some-command_length-clause-extent
returns-in-Some-command_length-clause-extent c =
    let command = c.in-Some-command_length.ensures in
    command_extent c.args.bytes.now c.empty_lines_end-start.result c.in-Some.end c.in-Some.next c.in-Some-command_length.length
    c.empty_lines_end-start.ensures.front c.empty_lines_end-start.ensures.within c.in-Some.ensures.some command.some command.text command.within

pub returns-then-end-next-clause-extent : goal.returns-then-end-next-clause-extent
returns-then-end-next-clause-extent c =
    let start = c.empty_lines_end-start.ensures in
    last_query c.args.bytes.now _ _ _ start.front start.lines c.in-Some.ensures.some c.if-end-next.true c.in_default-command_length.ensures.none

pub query-requires-2-clause-searched : goal.query-requires-2-clause-searched
query-requires-2-clause-searched c =
    let start = c.empty_lines_end-start.ensures in
    let line = c.in-Some.ensures.some in
    searched_first c.args.bytes.now _ _ _ line (omega (arith, c.if-end-next.false, line.order)) start.lines start.front c.in_default-command_length.ensures.none
