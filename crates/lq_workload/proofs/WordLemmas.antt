-- Words of letters and digits, in the lines of an object file.
use Rattle.std.proofs.Common.{inl, inr, ◌≡◌, ℕ, zero, suc, ◌-◌, ◌^◌, ◌<◌, ◌≤◌, Bool, true, false, List, [], ◌∷◌, ◌++◌, map, take, drop, length, get_or, slice_index, refl, ap, ◌∙◌, arith}
use Rattle.std.specs.Prelude.{◌==◌, ◌&&◌, ◌||◌, not, nat_le, nat_eq, filter}
use Rattle.std.specs.Fmt.{decimal}
use Rattle.std.specs.Cmp.Lexicographic.{pointwise}
use Rattle.std.specs.List.{list_all, list_any, onto_first, prefix_len, slice_split, suffix_len}
use Rattle.std.specs.Str.{IsAscii}
use Rattle.std.proofs.Math.Seq.{drop-append_seam, take-append_seam}
use Rattle.std.proofs.lemmas.Slice.Eq.{bytes_eq-Decides}
use Rattle.std.proofs.lemmas.Bool.{and_from, and_parts, le-leb, leb-true, ne_eqb, not_from_false, or_cases, or_from, or_left, or_right}
use Rattle.std.proofs.lemmas.Fmt.{decimal_nonempty}
use Rattle.std.proofs.lemmas.Grind.{common_steps}
use Rattle.std.proofs.lemmas.List.Sums.{suffix_len_is}
use Rattle.std.proofs.lemmas.Str.{IsUtf8-from_ascii, is_utf8-from_IsUtf8}
use Rattle.lq_text.specs.Blanks.{is_blank, without_blanks, without_end}
use Rattle.lq_records.specs.Clean.{text_of_bytes}
use Rattle.lq_records.proofs.CleanLemmas.{cleaned-utf8}
use Rattle.lq_objects.specs.Blocks.{is_named, value_of}
use Rattle.lq_objects.specs.Names.{elements}
use Rattle.lq_workload.proofs.ByteLemmas.{decimal_digits, is_digit, is_inner, list_all-weaker}

-- ---- bytes

-- a small letter or a digit
abbrev pub is_letter : ℕ → Bool
is_letter byte = is_digit byte || (nat_le 97 byte && nat_le byte 122)

-- a visible byte
abbrev pub is_solid : ℕ → Bool
is_solid byte = nat_le 33 byte && nat_le byte 126

solid_from : (byte : ℕ) → 33 ≤ byte → byte ≤ 126 → is_solid byte ≡ true
solid_from byte low high = and_from (nat_le 33 byte) (nat_le byte 126) (le-leb 33 byte low) (le-leb byte 126 high)

digit_bounds : (byte : ℕ) → is_digit byte ≡ true → (48 ≤ byte) × (byte ≤ 57)
digit_bounds byte digit =
    let both = and_parts (nat_le 48 byte) (nat_le byte 57) digit in (leb-true 48 byte both.0, leb-true byte 57 both.1)

-- what holds of digits and of small letters
letter_cases : (byte : ℕ) (P : Type 0) → is_letter byte ≡ true → (48 ≤ byte → byte ≤ 57 → P) → (97 ≤ byte → byte ≤ 122 → P) → P
letter_cases byte P letter digit small =
    elim (or_cases (is_digit byte) (nat_le 97 byte && nat_le byte 122) letter) [
      | inl is ↦ digit (digit_bounds byte is).0 (digit_bounds byte is).1
      | inr is ↦ let both = and_parts (nat_le 97 byte) (nat_le byte 122) is in small (leb-true 97 byte both.0) (leb-true byte 122 both.1)
    ]

letter_solid : (byte : ℕ) → is_letter byte ≡ true → is_solid byte ≡ true
letter_solid byte letter =
    letter_cases byte (is_solid byte ≡ true) letter (λ low high. solid_from byte (omega arith) (omega arith))
    (λ low high. solid_from byte (omega arith) (omega arith))

letter_other : (byte other : ℕ) → other < 48 → is_letter byte ≡ true → (byte == other) ≡ false
letter_other byte other less letter =
    letter_cases byte ((byte == other) ≡ false) letter (λ low high. ne_eqb byte other (λ is. omega (arith, is)))
    (λ low high. ne_eqb byte other (λ is. omega (arith, is)))

-- the character `;`
letter_no_separator : (byte : ℕ) → is_letter byte ≡ true → (byte == 59) ≡ false
letter_no_separator byte letter =
    letter_cases byte ((byte == 59) ≡ false) letter (λ low high. ne_eqb byte 59 (λ is. omega (arith, is)))
    (λ low high. ne_eqb byte 59 (λ is. omega (arith, is)))

solid_blank : (byte : ℕ) → is_solid byte ≡ true → is_blank byte ≡ false
solid_blank byte solid =
    let least : 33 ≤ byte = leb-true 33 byte (and_parts (nat_le 33 byte) (nat_le byte 126) solid).0 in
    or_from (byte == 32) (byte == 9) (ne_eqb byte 32 (λ is. omega (arith, is, least))) (ne_eqb byte 9 (λ is. omega (arith, is, least)))

pub solid_inner : (byte : ℕ) → is_solid byte ≡ true → is_inner byte ≡ true
solid_inner byte solid =
    let least : 33 ≤ byte = leb-true 33 byte (and_parts (nat_le 33 byte) (nat_le byte 126) solid).0 in
    and_from (not (byte == 10)) (not (byte == 13)) (not_from_false (byte == 10) (ne_eqb byte 10 (λ is. omega (arith, is, least))))
    (not_from_false (byte == 13) (ne_eqb byte 13 (λ is. omega (arith, is, least))))

-- ---- words

-- one or more letters and digits
pub record IsWord (word : List ℕ) : Type 0 where
  pub some : 0 < length word
  pub letters : list_all is_letter word ≡ true

pub decimal_word : (n : ℕ) → n < 2 ^ 64 → IsWord (decimal n)
decimal_word n small = record {
  some = decimal_nonempty n small;
  letters = list_all-weaker is_digit is_letter (λ byte digit. or_left (is_digit byte) (nat_le 97 byte && nat_le byte 122) digit) (decimal n) (decimal_digits n small);
}

pub letter_before : (letter : ℕ) (word : List ℕ) → is_letter letter ≡ true → IsWord word → IsWord (letter ∷ word)
letter_before letter word is words = record {
  some = omega arith;
  letters = and_from (is_letter letter) (list_all is_letter word) is words.letters;
}

pub word_solid : (word : List ℕ) → list_all is_letter word ≡ true → list_all is_solid word ≡ true
word_solid word letters = list_all-weaker is_letter is_solid letter_solid word letters

-- ---- blanks round texts

solid_at : (text : List ℕ) (place : ℕ) → list_all is_solid text ≡ true → place < length text → is_blank (get_or text place 0) ≡ false
solid_at [] place solid within = absurd (omega arith)
solid_at (byte ∷ text) zero solid within = solid_blank byte (and_parts (is_solid byte) (list_all is_solid text) solid).0
solid_at (byte ∷ text) (suc place) solid within =
    solid_at text place (and_parts (is_solid byte) (list_all is_solid text) solid).1 (omega arith)

-- a text that ends in visible bytes has no blank at its end
pub end_kept : (front back : List ℕ) → list_all is_solid back ≡ true → 0 < length back → without_end (front ++ back) ≡ front ++ back
end_kept front back solid some =
    let text : List ℕ = front ++ back in
    let here : get_or text (length text - 1) 0 ≡ get_or back (length back - 1) 0 = grind (arith, common_steps) in
    let last : is_blank (get_or text (length text - 1) 0) ≡ false = ap is_blank here ∙ solid_at back (length back - 1) solid (omega arith) in
    let none : suffix_len is_blank text ≡ length text - length text =
    suffix_len_is is_blank text (length text) 0 (omega arith) (λ k low high. absurd (omega arith)) (λ few. last) in
    ap (λ n. take (length text - n) text) none ∙ grind (arith, common_steps)

pub trim_kept : (first : ℕ) (front back : List ℕ) → is_blank first ≡ false → list_all is_solid back ≡ true → 0 < length back
    → without_blanks ((first ∷ front) ++ back) ≡ (first ∷ front) ++ back
trim_kept first front back solid ends some =
    let text : List ℕ = (first ∷ front) ++ back in
    let none : prefix_len is_blank text ≡ 0 = rw solid refl in
    ap (λ n. without_end (drop n text)) none ∙ end_kept (first ∷ front) back ends some

pub trim_word : (word : List ℕ) → IsWord word → without_blanks word ≡ word
trim_word [] is = absurd (omega (arith, is.some))
trim_word (first ∷ word) is =
    let solid = word_solid (first ∷ word) is.letters in
    let none : prefix_len is_blank (first ∷ word) ≡ 0 = rw (solid_blank first (and_parts (is_solid first) (list_all is_solid word) solid).0) refl in
    ap (λ n. without_end (drop n (first ∷ word))) none ∙ end_kept [] (first ∷ word) solid (omega arith)

-- the value after a blank
trim_value : (text : List ℕ) → list_all is_solid text ≡ true → 0 < length text → without_blanks (32 ∷ text) ≡ text
trim_value [] solid some = absurd (omega (arith, some))
trim_value (first ∷ text) solid some =
    let one : prefix_len is_blank (32 ∷ first ∷ text) ≡ 1 = rw (solid_blank first (and_parts (is_solid first) (list_all is_solid text) solid).0) refl in
    ap (λ n. without_end (drop n (32 ∷ first ∷ text))) one ∙ end_kept [] (first ∷ text) solid (omega arith)

-- ---- texts of words

solid_ascii : (text : List ℕ) → list_all is_solid text ≡ true → IsAscii text
solid_ascii [] solid place = omega arith
solid_ascii (byte ∷ text) solid zero =
    let most : byte ≤ 126 = leb-true byte 126 (and_parts (nat_le 33 byte) (nat_le byte 126) (and_parts (is_solid byte) (list_all is_solid text) solid).0).1 in
    omega (arith, most)
solid_ascii (byte ∷ text) solid (suc place) = solid_ascii text (and_parts (is_solid byte) (list_all is_solid text) solid).1 place

pub cleaned_word : (word : List ℕ) → IsWord word → text_of_bytes word ≡ word
cleaned_word word is = cleaned-utf8 word (is_utf8-from_IsUtf8 word (IsUtf8-from_ascii word (solid_ascii word (word_solid word is.letters))))

pub no_separator : (word : List ℕ) → list_all is_letter word ≡ true → list_any (λ byte. byte == 59) word ≡ false
no_separator [] letters = refl
no_separator (byte ∷ word) letters =
    let both = and_parts (is_letter byte) (list_all is_letter word) letters in
    or_from (byte == 59) (list_any (λ other. other == 59) word) (letter_no_separator byte both.0) (no_separator word both.1)

abbrev is_comma : ℕ → Bool
is_comma byte = byte == 44

split_word : (word : List ℕ) → list_all is_letter word ≡ true → slice_split is_comma word ≡ word ∷ []
split_word [] letters = refl
split_word (byte ∷ word) letters =
    let both = and_parts (is_letter byte) (list_all is_letter word) letters in
    rw (letter_other byte 44 (omega arith) both.0) (ap (onto_first byte) (split_word word both.1))

split_more : (word rest : List ℕ) → list_all is_letter word ≡ true → slice_split is_comma (word ++ 44 ∷ rest) ≡ word ∷ slice_split is_comma rest
split_more [] rest letters = refl
split_more (byte ∷ word) rest letters =
    let both = and_parts (is_letter byte) (list_all is_letter word) letters in
    rw (letter_other byte 44 (omega arith) both.0) (ap (onto_first byte) (split_more word rest both.1))

abbrev is_piece : List ℕ → Bool
is_piece piece = not (length piece == 0)

piece_kept : (word : List ℕ) (pieces : List (List ℕ)) → IsWord word → filter is_piece (without_blanks word ∷ pieces) ≡ word ∷ filter is_piece pieces
piece_kept word pieces is =
    let long : (length word == 0) ≡ false = ne_eqb (length word) 0 (λ none. omega (arith, none, is.some)) in
    ap (λ piece. filter is_piece (piece ∷ pieces)) (trim_word word is) ∙ rw long refl

pub elements_word : (word : List ℕ) → IsWord word → elements word ≡ word ∷ []
elements_word word is =
    ap (λ parts. map text_of_bytes (filter is_piece (map without_blanks parts))) (split_word word is.letters) ∙ ap (map text_of_bytes) (piece_kept word [] is)
    ∙ ap (λ text. text ∷ []) (cleaned_word word is)

pub elements_more : (word rest : List ℕ) → IsWord word → elements (word ++ 44 ∷ rest) ≡ word ∷ elements rest
elements_more word rest is =
    ap (λ parts. map text_of_bytes (filter is_piece (map without_blanks parts))) (split_more word rest is.letters)
    ∙ ap (map text_of_bytes) (piece_kept word (map without_blanks (slice_split is_comma rest)) is) ∙ ap (λ text. text ∷ elements rest) (cleaned_word word is)

-- ---- a directive with its value

pub named_text : (name value : List ℕ) → is_named name (name ++ 32 ∷ value) ≡ true
named_text name value =
    let text : List ℕ = name ++ 32 ∷ value in
    let starts : pointwise nat_eq name (take (length name) text) ≡ true =
    ap (pointwise nat_eq name) (take-append_seam name (32 ∷ value)) ∙ (bytes_eq-Decides name name).1 refl in
    let after : slice_index text (length name) ≡ 32 = grind (arith, common_steps) in
    let blank : is_blank (slice_index text (length name)) ≡ true = ap is_blank after in
    and_from _ _ starts (or_right (length text == length name) _ blank)

pub value_solid : (name text : List ℕ) → list_all is_solid text ≡ true → 0 < length text → value_of name (name ++ 32 ∷ text) ≡ text
value_solid name text solid some = ap without_blanks (drop-append_seam name (32 ∷ text)) ∙ trim_value text solid some

pub value_named : (name word : List ℕ) → IsWord word → value_of name (name ++ 32 ∷ word) ≡ word
value_named name word is = value_solid name word (word_solid word is.letters) is.some
