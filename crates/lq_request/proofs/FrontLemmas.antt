-- The lines of a kind at the front of bytes, line by line.
use Rattle.std.proofs.Common.{◌≡◌, ℕ, ◌+◌, ◌-◌, ◌≤◌, true, false, cond, List, [], ◌∷◌, ◌++◌, length, take, drop, map, sym, ap, ◌∙◌, arith, append_assoc}
use Rattle.std.specs.List.{concat, take_while}
use Rattle.std.proofs.lemmas.List.Sums.{take_while-cons}
use Rattle.std.proofs.lemmas.List.{drop-take, take-append-drop}
use Rattle.std.proofs.lemmas.Grind.{common_steps}
use Rattle.lq_text.specs.Lines.{line_text, lines_of, IsLineAt}
use Rattle.lq_request.specs.Messages.{front_lines, is_line_of}
use Rattle.lq_request.specs.declared.extent.LineKind.{LineKind}

-- the lines in front, by the first line
pub passes_first : (kind : LineKind) (line : List ℕ) (lines : List (List ℕ)) → is_line_of kind line ≡ true
    → concat (take_while (is_line_of kind) (line ∷ lines)) ≡ line ++ concat (take_while (is_line_of kind) lines)
passes_first kind line lines pass = ap concat (take_while-cons (is_line_of kind) line lines ∙ ap (λ b. cond b (line ∷ take_while (is_line_of kind) lines) []) pass)

pub fails_first : (kind : LineKind) (line : List ℕ) (lines : List (List ℕ)) → is_line_of kind line ≡ false → concat (take_while (is_line_of kind) (line ∷ lines)) ≡ []
fails_first kind line lines fail = ap concat (take_while-cons (is_line_of kind) line lines ∙ ap (λ b. cond b (line ∷ take_while (is_line_of kind) lines) []) fail)

-- the first line's text is what the places say
pub text_at : (bytes : List ℕ) (at end next : ℕ) → IsLineAt bytes at end next → line_text (take (next - at) (drop at bytes)) ≡ take (end - at) (drop at bytes)
text_at bytes at end next line =
    let texts : line_text (take (next - at) (drop at bytes)) ∷ lines_of (drop next bytes) ≡ take (end - at) (drop at bytes) ∷ lines_of (drop next bytes) =
    sym (ap (map line_text) line.whole) ∙ line.lines in
    cc

-- and is as long
pub text_length_at : (bytes : List ℕ) (at end next : ℕ) → IsLineAt bytes at end next → length (line_text (take (next - at) (drop at bytes))) ≡ end - at
text_length_at bytes at end next line =
    ap length (text_at bytes at end next line) ∙ grind (arith, common_steps, line.order, line.within, line.text)

-- up to a place, and from there to a later one
pub take_parts : (bytes : List ℕ) (i j : ℕ) → i ≤ j → take j bytes ≡ take i bytes ++ take (j - i) (drop i bytes)
take_parts bytes i j low =
    let whole : i + (j - i) ≡ j = omega arith in
    let back : drop i (take j bytes) ≡ take (j - i) (drop i bytes) = ap (λ n. drop i (take n bytes)) (sym whole) ∙ drop-take i (j - i) bytes in
    let front : take i (take j bytes) ≡ take i bytes = grind (arith, common_steps) in
    sym (take-append-drop i (take j bytes)) ∙ ap (λ rest. take i (take j bytes) ++ rest) back ∙ ap (λ first. first ++ take (j - i) (drop i bytes)) front

-- a line of the kind goes on with the lines after it
pub front_next : (kind : LineKind) (bytes : List ℕ) (at end next : ℕ) → IsLineAt bytes at end next → is_line_of kind (take (next - at) (drop at bytes)) ≡ true
    → take at bytes ++ front_lines kind (drop at bytes) ≡ take next bytes ++ front_lines kind (drop next bytes)
front_next kind bytes at end next line pass =
    let first : front_lines kind (drop at bytes) ≡ take (next - at) (drop at bytes) ++ front_lines kind (drop next bytes) =
    ap (λ lines. concat (take_while (is_line_of kind) lines)) line.whole ∙ passes_first kind _ _ pass in
    let whole : take next bytes ≡ take at bytes ++ take (next - at) (drop at bytes) = take_parts bytes at next (omega (arith, line.more)) in
    ap (λ front. take at bytes ++ front) first ∙ sym (append_assoc (take at bytes) (take (next - at) (drop at bytes)) (front_lines kind (drop next bytes))) ∙ ap (λ front. front ++ front_lines kind (drop next bytes)) (sym whole)

-- another line ends them
pub front_stop : (kind : LineKind) (bytes : List ℕ) (at end next : ℕ) → IsLineAt bytes at end next → is_line_of kind (take (next - at) (drop at bytes)) ≡ false
    → front_lines kind (drop at bytes) ≡ []
front_stop kind bytes at end next line fail = ap (λ lines. concat (take_while (is_line_of kind) lines)) line.whole ∙ fails_first kind _ _ fail
