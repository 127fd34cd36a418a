-- Texts that stand in a JSON string as they are.
use Rattle.std.proofs.Common.{◌≡◌, ℕ, true, List, [], ◌∷◌, ◌++◌, refl, sym, ap, ◌∙◌, arith}
use Rattle.std.proofs.lemmas.Bool.{and_parts}
use Rattle.std.proofs.lemmas.Bool.Decides.{nat_tests}
use Rattle.std.specs.List.{list_all}
use Rattle.json.specs.Print.{escape, escape_byte, quoted}
use Rattle.lq_output.specs.Escapes.{is_plain_byte}

plain_byte : (byte : ℕ) → is_plain_byte byte ≡ true → escape_byte byte ≡ byte ∷ []
unfolding escape_byte
plain_byte byte plain = grind (arith, nat_tests)

plain_text : (text : List ℕ) → list_all is_plain_byte text ≡ true → escape text ≡ text
plain_text [] plain = refl
plain_text (byte ∷ text) plain =
    let parts = and_parts (is_plain_byte byte) (list_all is_plain_byte text) plain in
    ap (λ front. front ++ escape text) (plain_byte byte parts.0) ∙ ap (λ rest. byte ∷ rest) (plain_text text parts.1)

pub quoted_plain : (text : List ℕ) → list_all is_plain_byte text ≡ true → 34 ∷ (text ++ 34 ∷ []) ≡ quoted text
quoted_plain text plain = ap (λ inner. 34 ∷ (inner ++ 34 ∷ [])) (sym (plain_text text plain))
