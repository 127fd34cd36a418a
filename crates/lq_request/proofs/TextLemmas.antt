-- The words of a text are texts.
use Rattle.std.proofs.Common.{◌≡◌, ℕ, zero, suc, ◌+◌, ◌-◌, ◌<◌, ◌≤◌, ◌==◌, Bool, true, false, not, List, [], ◌∷◌, length, take, drop, get_or, map, filter, reverse, refl, sym, ap, ◌∙◌, subst, arith, length-drop}
use Rattle.std.specs.List.{AllByRecursion, prefix_len, slice_split, suffix_len, position_or_len}
use Rattle.std.specs.Str.{IsUtf8}
use Rattle.std.specs.Borrow.{Bor}
use Rattle.lq_request.proofs.ListLemmas.{take_whole}
use Rattle.std.proofs.Math.Logic.{⊎_elim}
use Rattle.std.proofs.lemmas.Bool.{cases_lt, cases_Bool}
use Rattle.std.proofs.lemmas.List.Splits.{slice_split_first, slice_split_none}
use Rattle.std.proofs.lemmas.List.Sums.{passes_at_first, fails_before_first, prefix_len-le-length, prefix_len_passes, suffix_len-le-length}
use Rattle.std.proofs.lemmas.List.{get_or-reverse}
use Rattle.std.proofs.lemmas.Str.{IsUtf8-take, IsUtf8-drop, IsCharBoundary-after_ascii}
use Rattle.lq_text.specs.Blanks.{is_blank, without_end, without_front, words_of}

-- ---- parts between ASCII bytes

module _ (p : ℕ → Bool) (ascii : (b : ℕ) → p b ≡ true → b < 128) where
  pub parts_utf8 : (n : ℕ) (bs : List ℕ) → length bs ≤ n → IsUtf8 bs → AllByRecursion IsUtf8 (slice_split p bs)
  parts_utf8 n [] h u = (u, tt)
  parts_utf8 zero (b ∷ bs) h u = absurd (omega (arith, h))
  parts_utf8 (suc n) (b ∷ bs) h u =
      let all : List ℕ = b ∷ bs in
      let i : ℕ = position_or_len p all in
      ⊎_elim (λ found.
      let small : get_or all i 0 < 128 = ascii (get_or all i 0) (passes_at_first p all 0 found) in
      let front : IsUtf8 (take i all) = IsUtf8-take all i u (omega (arith, found), λ below high. absurd (omega (arith, small, high))) in
      let back : IsUtf8 (drop (i + 1) all) = IsUtf8-drop all (i + 1) u (IsCharBoundary-after_ascii all i u found small) in
      rw (slice_split_first p all 0 found) (front, parts_utf8 n (drop (i + 1) all) (simp length-drop (omega (arith, h))) back))
      (λ none. rw (slice_split_none p all (λ k d below. fails_before_first p all k d (omega (arith, none, below)))) (u, tt))
      (cases_lt i (length all))

kept_utf8 : (p : List ℕ → Bool) (words : List (List ℕ)) → AllByRecursion IsUtf8 words → AllByRecursion IsUtf8 (filter p words)
kept_utf8 p [] all = tt
kept_utf8 p (word ∷ words) all = ⊎_elim
    (λ (holds : p word ≡ true). rw holds (all.0, kept_utf8 p words all.1))
    (λ (fails : p word ≡ false). rw fails (kept_utf8 p words all.1))
    (cases_Bool (p word))

blank_ascii : (b : ℕ) → is_blank b ≡ true → b < 128
blank_ascii b is = grind (arith, is)

pub words_utf8 : (line : List ℕ) → IsUtf8 line → AllByRecursion IsUtf8 (words_of line)
words_utf8 line text = kept_utf8 (λ word. not (length word == 0)) (slice_split is_blank line) (parts_utf8 is_blank blank_ascii (length line) line (omega arith) text)

-- ---- parts of a line

-- a byte below 128 is a character of its own
pub front_utf8 : (bytes : List ℕ) (i : ℕ) → IsUtf8 bytes → i < length bytes → get_or bytes i 0 < 128 → IsUtf8 (take i bytes)
front_utf8 bytes i text within small = IsUtf8-take bytes i text (omega arith, λ below high. absurd (omega (arith, small, high)))

-- what follows a byte below 128 is text
pub back_utf8 : (bytes : List ℕ) (i : ℕ) → IsUtf8 bytes → i < length bytes → get_or bytes i 0 < 128 → IsUtf8 (take (length bytes - (i + 1)) (drop (i + 1) bytes))
back_utf8 bytes i text within small =
    subst IsUtf8 (sym (take_whole (length bytes - (i + 1)) (drop (i + 1) bytes) (omega (arith, length-drop (i + 1) bytes))))
    (IsUtf8-drop bytes (i + 1) text (IsCharBoundary-after_ascii bytes i text within small))

-- the words of a text that are borrowed, and those after the first, are texts
pub borrowed_utf8 : (words : List (Bor (List ℕ))) (line : List ℕ) → map (λ word. word.now) words ≡ words_of line → IsUtf8 line
    → AllByRecursion IsUtf8 (map (λ word. word.now) words)
borrowed_utf8 words line is text = subst (AllByRecursion IsUtf8) (sym is) (words_utf8 line text)

pub later_utf8 : (words : List (Bor (List ℕ))) (word : Bor (List ℕ)) (more : List (Bor (List ℕ))) → words ≡ word ∷ more
    → AllByRecursion IsUtf8 (map (λ w. w.now) words) → AllByRecursion IsUtf8 (map (λ w. w.now) more)
later_utf8 words word more is all = (subst (λ list. AllByRecursion IsUtf8 (map (λ w. w.now) list)) is all).1

-- ---- without the blanks at an end

pub without_front_utf8 : (bytes : List ℕ) → IsUtf8 bytes → IsUtf8 (without_front bytes)
without_front_utf8 bytes text = by (prefix_len is_blank bytes) refl where
  by : (n : ℕ) → prefix_len is_blank bytes ≡ n → IsUtf8 (drop n bytes)
  by zero is = text
  by (suc n) is =
      let within : n < length bytes = omega (arith, prefix_len-le-length is_blank bytes, is) in
      let small : get_or bytes n 0 < 128 = blank_ascii (get_or bytes n 0) (prefix_len_passes is_blank bytes n 0 (omega (arith, is))) in
      let next : n + 1 ≡ suc n = omega arith in
      subst (λ k. IsUtf8 (drop k bytes)) next (IsUtf8-drop bytes (n + 1) text (IsCharBoundary-after_ascii bytes n text within small))

pub without_end_utf8 : (bytes : List ℕ) → IsUtf8 bytes → IsUtf8 (without_end bytes)
without_end_utf8 bytes text = by (suffix_len is_blank bytes) refl where
  by : (n : ℕ) → suffix_len is_blank bytes ≡ n → IsUtf8 (take (length bytes - n) bytes)
  by zero is =
      let all : length bytes ≤ length bytes - zero = omega arith in
      subst IsUtf8 (sym (take_whole (length bytes - zero) bytes all)) text
  by (suc n) is =
      let all : suc n ≤ length bytes = omega (arith, suffix_len-le-length is_blank bytes, is) in
      let last : is_blank (get_or (reverse bytes) n 0) ≡ true = prefix_len_passes is_blank (reverse bytes) n 0 (omega (arith, is)) in
      let place : length bytes - 1 - n ≡ length bytes - suc n = omega arith in
      let blank : is_blank (get_or bytes (length bytes - suc n) 0) ≡ true = ap (λ k. is_blank (get_or bytes k 0)) (sym place) ∙ ap is_blank (sym (get_or-reverse bytes n 0 (omega (arith, all)))) ∙ last in
      let small : get_or bytes (length bytes - suc n) 0 < 128 = blank_ascii (get_or bytes (length bytes - suc n) 0) blank in
      IsUtf8-take bytes (length bytes - suc n) text (omega arith, λ below high. absurd (omega (arith, small, high)))

-- the word at the front, and what follows its blank
module _ (bytes : List ℕ) (n : ℕ) (is : n ≡ position_or_len is_blank bytes) (within : n < length bytes) (text : IsUtf8 bytes) where
  blank_after : get_or bytes n 0 < 128
  blank_after = rw is (blank_ascii (get_or bytes (position_or_len is_blank bytes) 0) (passes_at_first is_blank bytes 0 (rw is at within)))

  pub word_utf8 : IsUtf8 (take n bytes)
  word_utf8 = front_utf8 bytes n text within blank_after

  pub after_word_utf8 : IsUtf8 (take (length bytes - (n + 1)) (drop (n + 1) bytes))
  after_word_utf8 = back_utf8 bytes n text within blank_after

-- what follows the blanks at the front, as a part of the text
pub cut_front_utf8 : (bytes : List ℕ) (n : ℕ) → n ≡ prefix_len is_blank bytes → IsUtf8 bytes → IsUtf8 (take (length bytes - n) (drop n bytes))
cut_front_utf8 bytes n is text =
    subst IsUtf8 (sym (take_whole (length bytes - n) (drop n bytes) (omega (arith, length-drop n bytes))))
    (subst (λ k. IsUtf8 (drop k bytes)) (sym is) (without_front_utf8 bytes text))
