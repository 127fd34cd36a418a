-- The first colon with a blank after it, and the first `;`.
use Rattle.std.proofs.Common.{IsTrue, subst, ◌≡◌, ℕ, suc, ◌+◌, ◌<◌, ◌≤◌, ◌==◌, ◌&&◌, Bool, true, false, Option, Some, None, List, [], ◌∷◌, ◌++◌, length, get_or, take, drop, refl, sym, ap, ◌∙◌, arith, append_assoc, append-nil, length-drop}
use Rattle.std.proofs.lemmas.List.{take_more}
use Rattle.std.specs.Option.{option_map}
use Rattle.std.specs.Str.{IsCharBoundary, IsUtf8}
use Rattle.std.proofs.lemmas.Str.{IsCharBoundary-after_ascii}
use Rattle.std.proofs.lemmas.Bool.Decides.{nat_tests}
use Rattle.std.proofs.Math.Seq.{drop-cons}
use Rattle.lq_text.specs.Blanks.{is_blank}
use Rattle.lq_log.specs.Entries.{parts_at_colon}

-- the parts of a text that has a front before what was parted
abbrev pub grown : List ℕ → Option (List ℕ × List ℕ) → Option (List ℕ × List ℕ)
grown front parts = option_map (λ pair. (front ++ pair.0, pair.1)) parts

grown_by_nothing : (parts : Option (List ℕ × List ℕ)) → grown [] parts ≡ parts
grown_by_nothing None = refl
grown_by_nothing (Some pair) = refl

grown_by_one : (front : List ℕ) (byte : ℕ) (parts : Option (List ℕ × List ℕ))
    → grown front (option_map (λ pair. (byte ∷ pair.0, pair.1)) parts) ≡ grown (front ++ byte ∷ []) parts
grown_by_one front byte None = refl
grown_by_one front byte (Some pair) = ap (λ grown_front. Some (grown_front, pair.1)) (sym (append_assoc front (byte ∷ []) pair.0))

-- whether a colon with a blank after it stands at a place
abbrev pub is_colon : List ℕ → ℕ → Bool
is_colon text at = (get_or text at 0 == 58) && is_blank (get_or text (at + 1) 0)

at_colon : (byte next : ℕ) (rest : List ℕ) → ((byte == 58) && is_blank next) ≡ true → parts_at_colon (byte ∷ next ∷ rest) ≡ Some ([], rest)
unfolding parts_at_colon
at_colon byte next rest is = rw is refl

past_byte : (byte next : ℕ) (rest : List ℕ) → ((byte == 58) && is_blank next) ≡ false
    → parts_at_colon (byte ∷ next ∷ rest) ≡ option_map (λ pair. (byte ∷ pair.0, pair.1)) (parts_at_colon (next ∷ rest))
unfolding parts_at_colon
past_byte byte next rest is = rw is refl

too_short : (text : List ℕ) → length text ≤ 1 → parts_at_colon text ≡ None
unfolding parts_at_colon
too_short [] short = refl
too_short (byte ∷ []) short = refl
too_short (byte ∷ next ∷ rest) short = absurd (omega (arith, short))

-- the text from a place on, its first two bytes apart
two_bytes : (text : List ℕ) (at : ℕ) → at + 1 < length text → drop at text ≡ get_or text at 0 ∷ get_or text (at + 1) 0 ∷ drop (at + 2) text
two_bytes text at within =
    let one : suc at ≡ at + 1 = omega arith in
    let two : suc (at + 1) ≡ at + 2 = omega arith in
    drop-cons text at 0 (omega (arith, within))
    ∙ ap (λ rest. get_or text at 0 ∷ rest) (ap (λ place. drop place text) one ∙ drop-cons text (at + 1) 0 within ∙ ap (λ place. get_or text (at + 1) 0 ∷ drop place text) two)

pub parts_at_front : (text : List ℕ) → grown (take 0 text) (parts_at_colon (drop 0 text)) ≡ parts_at_colon text
parts_at_front text = grown_by_nothing (parts_at_colon text)

pub parts_found : (text : List ℕ) (at : ℕ) → at + 1 < length text → is_colon text at ≡ true
    → grown (take at text) (parts_at_colon (drop at text)) ≡ parts_at_colon text → Some (take at text, drop (at + 2) text) ≡ parts_at_colon text
parts_found text at within colon so =
    let found : parts_at_colon (drop at text) ≡ Some ([], drop (at + 2) text)
    = ap parts_at_colon (two_bytes text at within) ∙ at_colon (get_or text at 0) (get_or text (at + 1) 0) (drop (at + 2) text) colon in
    ap (λ front. Some (front, drop (at + 2) text)) (sym (append-nil (take at text))) ∙ ap (grown (take at text)) (sym found) ∙ so

pub parts_further : (text : List ℕ) (at : ℕ) → at + 1 < length text → is_colon text at ≡ false
    → grown (take at text) (parts_at_colon (drop at text)) ≡ parts_at_colon text → grown (take (at + 1) text) (parts_at_colon (drop (at + 1) text)) ≡ parts_at_colon text
parts_further text at within other so =
    let byte : ℕ = get_or text at 0 in
    let next : ℕ = get_or text (at + 1) 0 in
    let rest : List ℕ = drop (at + 2) text in
    let two : suc (at + 1) ≡ at + 2 = omega arith in
    let longer : take (at + 1) text ≡ take at text ++ byte ∷ [] = take_more text at 0 (omega (arith, within)) in
    let beyond : drop (at + 1) text ≡ next ∷ rest = drop-cons text (at + 1) 0 within ∙ ap (λ place. next ∷ drop place text) two in
    let here : parts_at_colon (drop at text) ≡ option_map (λ pair. (byte ∷ pair.0, pair.1)) (parts_at_colon (next ∷ rest))
    = ap parts_at_colon (two_bytes text at within) ∙ past_byte byte next rest other in
    ap (λ front. grown front (parts_at_colon (drop (at + 1) text))) longer
    ∙ ap (λ back. grown (take at text ++ byte ∷ []) (parts_at_colon back)) beyond
    ∙ sym (grown_by_one (take at text) byte (parts_at_colon (next ∷ rest)))
    ∙ ap (grown (take at text)) (sym here)
    ∙ so

pub parts_none : (text : List ℕ) (at : ℕ) → length text ≤ at + 1
    → grown (take at text) (parts_at_colon (drop at text)) ≡ parts_at_colon text → None ≡ parts_at_colon text
parts_none text at past so = sym (ap (grown (take at text)) (too_short (drop at text) (simp length-drop (omega (arith, past))))) ∙ so

-- what follows the blank is text
pub after_colon : (text : List ℕ) (at : ℕ) → IsUtf8 text → at + 1 < length text → IsTrue (is_blank (get_or text (at + 1) 0)) → IsCharBoundary text (at + 2)
after_colon text at utf8 within blank =
    let small : get_or text (at + 1) 0 < 128 = grind (arith, nat_tests, blank) in
    let two : at + 1 + 1 ≡ at + 2 = omega arith in
    subst (IsCharBoundary text) two (IsCharBoundary-after_ascii text (at + 1) utf8 within small)
