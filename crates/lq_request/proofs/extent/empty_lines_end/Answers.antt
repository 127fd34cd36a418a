use Rattle.std.proofs.Common.{◌≡◌, arith, ap, length, refl, subst, take, drop, length-drop}
use Rattle.lq_request.specs.Messages.{front_lines}
use Rattle.lq_request.specs.Search.{AreLines}
use Rattle.lq_request.specs.declared.extent.LineKind.TheVariants as kind
use Rattle.lq_request.proofs.ListLemmas.{slice_from}
use Rattle.lq_request.proofs.SearchLemmas.{empty_front_on, empty_lines_on}
use Rattle.lq_request.proofs.extent.empty_lines_end.Goals as goal

pub returns-clause-lines : goal.returns-clause-lines
returns-clause-lines c =
    let from = c.args.from in
    let bytes = c.args.bytes.now in
    let same = slice_from from bytes in
    let whole = subst (λ b. AreLines kind.Empty (take c.front_length.result.whole b)) same c.front_length.ensures.whole in
    empty_lines_on bytes from c.front_length.result.all
    (omega (arith, c.front_length.ensures.within, ap length same, length-drop from bytes, c.requires.within))
    c.requires.lines (subst (λ n. AreLines kind.Empty (take n (drop from bytes))) (c.front_length.ensures.empty refl) whole)

pub returns-clause-front : goal.returns-clause-front
returns-clause-front c =
    empty_front_on c.args.bytes.now c.args.from c.front_length.result.all c.requires.lines
    (subst (λ b. front_lines kind.Empty b ≡ take c.front_length.result.all b) (slice_from c.args.from c.args.bytes.now) c.front_length.ensures.front)
