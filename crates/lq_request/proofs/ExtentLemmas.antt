-- Where a command stands.
use Rattle.std.proofs.Common.{◌≡◌, ℕ, ◌+◌, ◌-◌, ◌≤◌, nat_lt, true, false, List, [], ◌∷◌, length, take, drop, refl, sym, ap, ◌∙◌, subst, arith, length-take, length-drop}
use Rattle.std.proofs.lemmas.Bool.{cases_Bool}
use Rattle.std.proofs.lemmas.List.{drop-take, drop-drop}
use Rattle.std.proofs.Math.Logic.{⊎_elim}
use Rattle.std.proofs.lemmas.Grind.{common_steps}
use Rattle.lq_text.specs.Lines.{IsLineAt, line_text, whole_lines}
use Rattle.lq_request.specs.Extent.{IsExtentOf}
use Rattle.lq_request.specs.Messages.{command_from, command_text, front_lines, has_feed, is_command, message_at, message_of}
use Rattle.lq_request.specs.declared.extent.LineKind.TheVariants as kind
use Rattle.lq_request.specs.declared.extent.MessageKind.TheVariants as message
use Rattle.lq_request.proofs.FrontLemmas.{text_at}
use Rattle.lq_request.proofs.MessageLemmas.{message_command}

-- a line has its line feed where its text is shorter
pub feed_shorter : (line : List ℕ) → has_feed line ≡ nat_lt (length (line_text line)) (length line)
feed_shorter [] = refl
feed_shorter (byte ∷ bytes) =
    let line : List ℕ = byte ∷ bytes in
    ⊎_elim (λ (has : has_feed line ≡ true). grind (arith, common_steps, has)) (λ (lacks : has_feed line ≡ false). grind (arith, common_steps, lacks)) (cases_Bool (has_feed line))

same_order : (start end next : ℕ) → start ≤ end → end ≤ next → nat_lt (end - start) (next - start) ≡ nat_lt end next
same_order start end next low high = grind arith

pub command_extent : (bytes : List ℕ) (start end next size : ℕ) → front_lines kind.Empty bytes ≡ take start bytes → start ≤ length bytes → IsLineAt bytes start end next
    → is_command (take (end - start) (drop start bytes)) ≡ true → command_text (take (end - start) (drop start bytes)) ≡ drop size (take (end - start) (drop start bytes))
    → size ≤ length (take (end - start) (drop start bytes))
    → IsExtentOf (message_of bytes) bytes (record { kind = message.Command; start = start + size; end = end; next = next })
unfolding message_of
command_extent bytes start end next size front within at command text low =
    let line : List ℕ = take (next - start) (drop start bytes) in
    let before : length (front_lines kind.Empty bytes) ≡ start = ap length front ∙ omega (arith, length-take start bytes) in
    let own : line_text line ≡ take (end - start) (drop start bytes) = text_at bytes start end next at in
    let size_own : length (line_text line) ≡ end - start = ap length own ∙ omega (arith, length-take (end - start) (drop start bytes), length-drop start bytes, at.text, at.order, at.within) in
    let size_line : length line ≡ next - start = omega (arith, length-take (next - start) (drop start bytes), length-drop start bytes, at.within, at.more) in
    let is : message_of bytes ≡ command_from start line =
    ap (λ n. message_at n (whole_lines (drop n bytes)) bytes) before ∙ ap (λ lines. message_at start lines bytes) at.whole
    ∙ message_command start line (whole_lines (drop next bytes)) bytes (ap is_command own ∙ command) in
    let inside : size ≤ end - start = omega (arith, low, length-take (end - start) (drop start bytes)) in
    let whole : size + (end - (start + size)) ≡ end - start = omega (arith, inside) in
    let part : drop size (take (end - start) (drop start bytes)) ≡ take (end - (start + size)) (drop (start + size) bytes) =
    ap (λ n. drop size (take n (drop start bytes))) (sym whole) ∙ drop-take size (end - (start + size)) (drop start bytes)
    ∙ ap (take (end - (start + size))) (drop-drop size start bytes) in
    subst (λ m. IsExtentOf m bytes (record { kind = message.Command; start = start + size; end = end; next = next })) (sym is) (record {
      kind = refl;
      text = ap command_text own ∙ text ∙ part;
      size = omega (arith, size_line, at.more, at.text);
      ended = feed_shorter line ∙ ap (λ n. nat_lt n (length line)) size_own ∙ ap (nat_lt (end - start)) size_line ∙ same_order start end next at.text at.order;
      order = omega (arith, inside, at.text);
      next = at.order;
      within = at.within;
    })
