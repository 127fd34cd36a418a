-- The lines of a text, the first one first.
use Rattle.std.proofs.Common.{◌≡◌, ℕ, zero, suc, ◌-◌, true, false, List, [], ◌∷◌, ◌++◌, map, take, length, slice_index, refl, ap, ◌∙◌, arith, append_assoc}
use Rattle.std.specs.Prelude.{◌==◌, not}
use Rattle.std.specs.List.{concat, list_all, onto_first}
use Rattle.std.specs.Str.Lines.{strip_carriage_return}
use Rattle.std.proofs.lemmas.Bool.{and_parts, eq-eqb, not-true}
use Rattle.std.proofs.lemmas.Grind.{common_steps}
use Rattle.lq_text.specs.Lines.{line_text, lines_of, whole_lines}
use Rattle.lq_workload.proofs.ByteLemmas.{is_inner}

begun : (byte : ℕ) (bytes : List ℕ) → (byte == 10) ≡ false → whole_lines (byte ∷ bytes) ≡ onto_first byte (whole_lines bytes)
begun byte bytes other = rw other refl

whole_first : (text rest : List ℕ) → list_all is_inner text ≡ true → whole_lines (text ++ 10 ∷ rest) ≡ (text ++ 10 ∷ []) ∷ whole_lines rest
whole_first [] rest inner = refl
whole_first (byte ∷ text) rest inner =
    let both = and_parts (is_inner byte) (list_all is_inner text) inner in
    let other = not-true (byte == 10) (and_parts (not (byte == 10)) (not (byte == 13)) both.0).0 in
    begun byte (text ++ 10 ∷ rest) other ∙ ap (onto_first byte) (whole_first text rest both.1)

no_return : (text : List ℕ) (place : ℕ) → list_all is_inner text ≡ true → (slice_index text place == 13) ≡ false
no_return [] place inner = refl
no_return (byte ∷ text) zero inner =
    let both = and_parts (is_inner byte) (list_all is_inner text) inner in
    not-true (byte == 13) (and_parts (not (byte == 10)) (not (byte == 13)) both.0).1
no_return (byte ∷ text) (suc place) inner = no_return text place (and_parts (is_inner byte) (list_all is_inner text) inner).1

kept_whole : (text : List ℕ) → list_all is_inner text ≡ true → strip_carriage_return text ≡ text
kept_whole text inner = rw (no_return text (length text - 1) inner) refl

text_first : (text : List ℕ) → list_all is_inner text ≡ true → line_text (text ++ 10 ∷ []) ≡ text
text_first text inner =
    let last : slice_index (text ++ 10 ∷ []) (length (text ++ 10 ∷ []) - 1) ≡ 10 = grind (arith, common_steps) in
    let before : take (length (text ++ 10 ∷ []) - 1) (text ++ 10 ∷ []) ≡ text = grind (arith, common_steps) in
    rw (eq-eqb _ _ last) (ap strip_carriage_return before ∙ kept_whole text inner)

pub line_first : (text rest : List ℕ) → list_all is_inner text ≡ true → lines_of (text ++ 10 ∷ rest) ≡ text ∷ lines_of rest
line_first text rest inner = ap (map line_text) (whole_first text rest inner) ∙ ap (λ line. line ∷ lines_of rest) (text_first text inner)

-- ---- texts in pieces

-- pieces before a text
abbrev pub onto : List (List ℕ) → List ℕ → List ℕ
onto [] rest = rest
onto (piece ∷ pieces) rest = piece ++ onto pieces rest

pub concat_onto : (pieces : List (List ℕ)) (rest : List ℕ) → concat pieces ++ rest ≡ onto pieces rest
concat_onto [] rest = refl
concat_onto (piece ∷ pieces) rest = append_assoc piece (concat pieces) rest ∙ ap (λ back. piece ++ back) (concat_onto pieces rest)
