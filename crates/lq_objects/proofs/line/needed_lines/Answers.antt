use Rattle.std.proofs.Common.{◌≡◌, ◌+◌, ◌++◌, ◌∷◌, [], drop, length, refl, subst, sym, ap, ◌∙◌, arith, true, false, not, append-nil}
use Rattle.std.proofs.lemmas.List.{drop_all}
use Rattle.lq_text.specs.Lines.{lines_of}
use Rattle.lq_objects.specs.Blocks.{Line, is_telling, telling_after, telling_lines}
use Rattle.lq_objects.specs.Needed.{is_needed}
use Rattle.lq_objects.specs.Objects.{base_of}
use Rattle.lq_objects.proofs.ThinLemmas.{ends_within, ends_within-push, same_base, thin_kept, thin_left, thin_parts, thin_silent}
use Rattle.lq_objects.proofs.line.needed_lines.Goals as goal

pub lines-preserved-in_ok-push : goal.lines-preserved-in_ok-push
lines-preserved-in_ok-push c =
    let line = c.in-Some.ensures.some in
    let telling = subst (λ text. is_telling (record { number = c.lines.number + 1; text = text }) ≡ true) c.trim-text.ensures
    (sym (c.if-is_telling.ensures {u = tt} (c.lines.number + 1))) in
    let new = c.new-line.ensures ∙ ap (λ text. record { number = c.lines.number + 1; text = text }) c.trim-text.ensures in
    let items = (c.in_ok-push.ensures {u = tt}).items in
    let kept = thin_kept c.lines.number _ _ _ c.lines.lines.items (telling_lines c.args.b.now) line.lines telling c.lines.invariant.same in
    record {
      at = line.within;
      counted = omega (arith, line.more, c.lines.invariant.counted);
      within = ap not c.is_closing-within.ensures ∙ sym (ends_within-push c.lines.lines.items c.new-line.result) ∙ ap ends_within (sym items);
      same = ap (λ items. thin_parts (items ++ telling_after (c.lines.number + 1) (lines_of (drop c.in-Some.next c.args.b.now))))
          (items ∙ ap (λ (line : Line). c.lines.lines.items ++ line ∷ []) new)
          ∙ kept;
    }

pub lines-preserved-else-is_needed : goal.lines-preserved-else-is_needed
lines-preserved-else-is_needed c =
    let line = c.in-Some.ensures.some in
    let telling = subst (λ text. is_telling (record { number = c.lines.number + 1; text = text }) ≡ true) c.trim-text.ensures
    (sym (c.if-is_telling.ensures {u = tt} (c.lines.number + 1))) in
    let new = c.new-line.ensures ∙ ap (λ text. record { number = c.lines.number + 1; text = text }) c.trim-text.ensures in
    let unneeded = sym (c.is_needed.ensures ∙ ap is_needed new) ∙ c.if-is_needed.false in
    let within = sym c.lines.invariant.within ∙ c.if-not-within.false in
    record {
      at = line.within;
      counted = omega (arith, line.more, c.lines.invariant.counted);
      within = c.lines.invariant.within;
      same = thin_left c.lines.number _ _ _ c.lines.lines.items (telling_lines c.args.b.now) line.lines telling within unneeded c.lines.invariant.same;
    }

pub lines-preserved : goal.lines-preserved
lines-preserved c =
    let line = c.in-Some.ensures.some in
    let silent = subst (λ text. is_telling (record { number = c.lines.number + 1; text = text }) ≡ false) c.trim-text.ensures
    (sym (c.if-is_telling.ensures {u = tt} (c.lines.number + 1))) in
    record {
      at = line.within;
      counted = omega (arith, line.more, c.lines.invariant.counted);
      within = c.lines.invariant.within;
      same = thin_silent c.lines.number _ _ _ c.lines.lines.items (telling_lines c.args.b.now) line.lines silent c.lines.invariant.same;
    }

pub returns : goal.returns
unfolding base_of
returns c =
    let end : c.lines.at ≡ length c.args.b.now = (c.in_default.ensures {u = tt}).none.0 refl in
    let rest : drop c.lines.at c.args.b.now ≡ [] = drop_all c.lines.at c.args.b.now (omega (arith, end)) in
    let all = ap (λ rest. c.lines.lines.items ++ telling_after c.lines.number (lines_of rest)) rest ∙ append-nil c.lines.lines.items in
    λ rules. same_base rules c.lines.lines.items (telling_lines c.args.b.now) (ap thin_parts (sym all) ∙ c.lines.invariant.same)
