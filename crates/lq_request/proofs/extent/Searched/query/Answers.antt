use Rattle.std.proofs.Common.{◌≡◌, ◌+◌, arith, ap, length, subst, take, length-drop}
use Rattle.lq_request.specs.Messages.{front_lines, one_empty_line}
use Rattle.lq_request.specs.Search.{AreLines}
use Rattle.lq_request.specs.declared.extent.LineKind.TheVariants as kind
use Rattle.lq_request.proofs.ListLemmas.{slice_from}
use Rattle.lq_request.proofs.SearchLemmas.{searched_more, searched_query}
use Rattle.lq_request.proofs.extent.Searched.query.Goals as goal

pub returns-clause-extent : goal.returns-clause-extent
returns-clause-extent c =
    let next = c.args.self.now.next in
    let all = c.front_length-front.result.all in
    let bytes = c.args.bytes.now in
    let closing = c.empty_line_length.ensures in
    let same = slice_from next bytes in
    let last = slice_from (next + all) bytes in
    searched_query c.args.self.now.text next all c.empty_line_length.result bytes c.requires.searched c.requires.some
    (omega (arith, c.front_length-front.ensures.within, ap length same, length-drop next bytes, c.requires.searched.within))
    (subst (λ b. front_lines kind.Text b ≡ take all b) same c.front_length-front.ensures.front)
    (subst (λ b. one_empty_line b ≡ take c.empty_line_length.result b) last closing.front)
    (omega (arith, closing.within, ap length last))

pub returns-clause-searched : goal.returns-clause-searched
returns-clause-searched c =
    let next = c.args.self.now.next in
    let whole = c.front_length-front.result.whole in
    let bytes = c.args.bytes.now in
    let same = slice_from next bytes in
    searched_more c.args.self.now.text next whole bytes c.requires.searched c.requires.some
    (omega (arith, c.front_length-front.ensures.order, c.front_length-front.ensures.within, ap length same, length-drop next bytes, c.requires.searched.within))
    (subst (λ b. AreLines kind.Text (take whole b)) same c.front_length-front.ensures.whole)
