-- The first line of bytes, by the place of the first line feed.
use Rattle.std.proofs.Common.{◌≡◌, ℕ, zero, suc, ◌+◌, ◌-◌, ◌<◌, ◌≤◌, List, [], ◌∷◌, ◌++◌, length, take, drop, slice_index, map, sym, ap, append-nil, ◌∙◌, arith, add-one, eq-eqb}
use Rattle.std.specs.List.{onto_first}
use Rattle.std.specs.Str.Lines.{strip_carriage_return}
use Rattle.std.proofs.lemmas.Grind.{common_steps}
use Rattle.lq_text.specs.Lines.{whole_lines, line_text, lines_of, IsFirstLine}

-- a first byte that is no line feed goes onto the first line
begun : (byte : ℕ) (bytes : List ℕ) → (byte ≡ 10 → ⊥) → whole_lines (byte ∷ bytes) ≡ onto_first byte (whole_lines bytes)
begun byte bytes other = grind (arith, common_steps, other)

-- where the first line feed stands, the first line ends, whatever follows
pub whole_lines-append : (bytes more : List ℕ) (feed : ℕ) → feed < length bytes → ((k : ℕ) → k < feed → slice_index bytes k ≡ 10 → ⊥)
    → slice_index bytes feed ≡ 10 → whole_lines (bytes ++ more) ≡ take (feed + 1) bytes ∷ whole_lines (drop (feed + 1) bytes ++ more)
whole_lines-append [] more feed within none here = absurd (omega arith)
whole_lines-append (byte ∷ bytes) more zero within none here = grind (arith, common_steps)
whole_lines-append (byte ∷ bytes) more (suc feed) within none here =
    let rest = whole_lines-append bytes more feed (omega (arith, within)) (λ k low is. none (suc k) (omega (arith, low)) is) here in
    let later : whole_lines (bytes ++ more) ≡ take (suc feed) bytes ∷ whole_lines (drop (suc feed) bytes ++ more) = rw add-one at rest in
    rw add-one (begun byte (bytes ++ more) (λ is. none zero (omega arith) is) ∙ ap (onto_first byte) later)

whole_to_feed : (bytes : List ℕ) (feed : ℕ) → feed < length bytes → ((k : ℕ) → k < feed → slice_index bytes k ≡ 10 → ⊥)
    → slice_index bytes feed ≡ 10 → whole_lines bytes ≡ take (feed + 1) bytes ∷ whole_lines (drop (feed + 1) bytes)
whole_to_feed bytes feed within none here =
    ap whole_lines (sym (append-nil bytes)) ∙ whole_lines-append bytes [] feed within none here
    ∙ ap (λ rest. take (feed + 1) bytes ∷ whole_lines rest) (append-nil (drop (feed + 1) bytes))

-- without a line feed all is one line
pub whole_to_end : (bytes : List ℕ) → 0 < length bytes → ((k : ℕ) → k < length bytes → slice_index bytes k ≡ 10 → ⊥) → whole_lines bytes ≡ bytes ∷ []
whole_to_end [] some none = absurd (omega arith)
whole_to_end (byte ∷ []) some none = grind (arith, common_steps, none 0)
whole_to_end (byte ∷ next ∷ bytes) some none =
    let rest = whole_to_end (next ∷ bytes) (omega arith) (λ k low is. none (suc k) (omega (arith, low)) is) in
    begun byte (next ∷ bytes) (λ is. none zero (omega arith) is) ∙ ap (onto_first byte) rest

-- the text of a line that ends at its line feed
text_before_feed : (front : List ℕ) → line_text (front ++ 10 ∷ []) ≡ strip_carriage_return front
text_before_feed front =
    let last : slice_index (front ++ 10 ∷ []) (length (front ++ 10 ∷ []) - 1) ≡ 10 = grind (arith, common_steps) in
    let before : take (length (front ++ 10 ∷ []) - 1) (front ++ 10 ∷ []) ≡ front = grind (arith, common_steps) in
    rw (eq-eqb _ _ last) (ap strip_carriage_return before)

pub text_to_feed : (bytes : List ℕ) (feed : ℕ) → feed < length bytes → slice_index bytes feed ≡ 10 → line_text (take (feed + 1) bytes) ≡ strip_carriage_return (take feed bytes)
text_to_feed bytes feed within here =
    let last : take (feed + 1) bytes ≡ take feed bytes ++ 10 ∷ [] = grind (arith, common_steps, here) in
    ap line_text last ∙ text_before_feed (take feed bytes)

-- A line that ends at its line feed.
pub line_to_feed : (bytes : List ℕ) (feed end : ℕ) → feed < length bytes → ((k : ℕ) → k < feed → slice_index bytes k ≡ 10 → ⊥)
    → slice_index bytes feed ≡ 10 → end ≤ feed → strip_carriage_return (take feed bytes) ≡ take end bytes → IsFirstLine bytes end (feed + 1)
line_to_feed bytes feed end within none here low text =
    let whole : whole_lines bytes ≡ take (feed + 1) bytes ∷ whole_lines (drop (feed + 1) bytes) = whole_to_feed bytes feed within none here in
    record {
      order = omega arith;
      some = omega arith;
      within = omega arith;
      whole = whole;
      lines = ap (map line_text) whole ∙ ap (λ line. line ∷ lines_of (drop (feed + 1) bytes)) (text_to_feed bytes feed within here ∙ text);
    }

-- a last line is its own text
pub text_to_end : (bytes : List ℕ) → 0 < length bytes → ((k : ℕ) → k < length bytes → slice_index bytes k ≡ 10 → ⊥) → line_text bytes ≡ bytes
text_to_end bytes some none =
    let other : slice_index bytes (length bytes - 1) ≡ 10 → ⊥ = none (length bytes - 1) (omega arith) in grind (arith, other)

-- A last line, which has no line feed.
pub line_to_end : (bytes : List ℕ) → 0 < length bytes → ((k : ℕ) → k < length bytes → slice_index bytes k ≡ 10 → ⊥) → IsFirstLine bytes (length bytes) (length bytes)
line_to_end bytes some none =
    let whole : whole_lines bytes ≡ bytes ∷ [] = whole_to_end bytes some none in
    let all : take (length bytes) bytes ≡ bytes = grind (arith, common_steps) in
    let rest : drop (length bytes) bytes ≡ [] = grind (arith, common_steps) in
    record {
      order = omega arith;
      some = some;
      within = omega arith;
      whole = rw (all, rest) whole;
      lines = rw (all, rest) (ap (map line_text) whole ∙ ap (λ line. line ∷ []) (text_to_end bytes some none));
    }
