use Rattle.std.proofs.Common.{refl, sym, ◌∙◌, arith}
use Rattle.lq_request.proofs.FrontLemmas.{text_length_at}
use Rattle.lq_request.proofs.SearchLemmas.{all_lines, last_has_text, lines_last, lines_next, lines_stop}
use Rattle.lq_request.proofs.extent.front_length.Goals as goal

pub returns-then-not-is_of_kind-clause-front : goal.returns-then-not-is_of_kind-clause-front
returns-then-not-is_of_kind-clause-front c =
    let line = c.in-Some.ensures.some in
    lines_stop _ _ _ _ _ line (sym (c.is_of_kind.ensures _ (text_length_at _ _ _ _ line)) ∙ c.if-not-is_of_kind.true) c.lines.invariant.lines

pub returns-then-end-next-clause-front : goal.returns-then-end-next-clause-front
returns-then-end-next-clause-front c =
    let line = c.in-Some.ensures.some in
    lines_last _ _ _ _ _ line c.if-end-next.true (sym (c.is_of_kind.ensures _ (text_length_at _ _ _ _ line)) ∙ c.if-not-is_of_kind.false) c.lines.invariant.lines

pub returns-then-end-next-clause-empty : goal.returns-then-end-next-clause-empty
returns-then-end-next-clause-empty c = λ empty.
    let line = c.in-Some.ensures.some in
    absurd (last_has_text _ _ _ _ _ line c.if-end-next.true (sym (c.is_of_kind.ensures _ (text_length_at _ _ _ _ line)) ∙ c.if-not-is_of_kind.false) empty)

pub lines-preserved : goal.lines-preserved
lines-preserved c =
    let line = c.in-Some.ensures.some in
    record {
      within = line.within;
      lines = lines_next _ _ _ _ _ line (omega (arith, c.if-end-next.false, line.order)) (sym (c.is_of_kind.ensures _ (text_length_at _ _ _ _ line)) ∙ c.if-not-is_of_kind.false) c.lines.invariant.lines;
    }

pub returns-clause-front : goal.returns-clause-front
returns-clause-front c = all_lines _ _ _ (c.in_default.ensures.none.0 refl) c.lines.invariant.lines
