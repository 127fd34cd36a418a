-- A line is the directive with a name where the name stands at its front; what follows the name may be looked at first. It is
-- that of one name alone.
use Rattle.std.proofs.Common.{◌≡◌, ℕ, ◌+◌, ◌≤◌, Bool, true, false, not, ◌&&◌, ◌||◌, cond, List, [], ◌∷◌, length, suc, take, refl, sym, ap, ◌∙◌, arith, one-add, ⊎_elim}
use Rattle.std.specs.Prelude.{◌==◌, nat_eq, slice_index}
use Rattle.std.specs.List.{list_any, starts_with}
use Rattle.std.proofs.lemmas.Bool.{and_parts, cases_Bool, eq-eqb, eqb-false, eqb-true, ne_eqb, or_parts}
use Rattle.std.proofs.lemmas.Slice.Eq.{bytes_eq-Decides}
use Rattle.lq_text.specs.Blanks.{is_blank}
use Rattle.lq_objects.specs.Blocks.{is_named}
use Rattle.lq_objects.specs.Words.{word_length}

and-true : (test : Bool) → (test && true) ≡ test
and-true true = refl
and-true false = refl

pub and-false : (test : Bool) → (test && false) ≡ false
and-false true = refl
and-false false = refl

-- a text that begins with a name is no shorter
no_shorter : (name text : List ℕ) → starts_with nat_eq text name ≡ true → length name ≤ length text
no_shorter [] text begins = omega arith
no_shorter (n ∷ name) [] begins = absurd (cc)
no_shorter (n ∷ name) (b ∷ text) begins =
    let both = and_parts (nat_eq n b) (starts_with nat_eq text name) begins in
    omega (arith, no_shorter name text both.1)

either_first : (first last begins : Bool) → (begins ≡ true → first ≡ last) → (first && begins) ≡ (begins && last)
either_first first last true same = and-true first ∙ same refl
either_first first last false same = and-false first

pub is_named-by_end : (name text : List ℕ) (ends : Bool)
    → (length name ≤ length text → ends ≡ ((length text == length name) || is_blank (slice_index text (length name))))
    → (ends && starts_with nat_eq text name) ≡ is_named name text
is_named-by_end name text ends same =
    either_first ends ((length text == length name) || is_blank (slice_index text (length name)))
    (starts_with nat_eq text name) (λ begins. same (no_shorter name text begins))

-- ---- one name alone

-- the word at the front has no bytes where a blank stands there
no_word : (blank : Bool) (rest : ℕ) → (cond (not blank) (1 + rest) 0 == 0) ≡ blank
no_word true rest = refl
no_word false rest = ne_eqb (1 + rest) 0 (omega arith)

suc_eq : (a b : ℕ) → (suc a == suc b) ≡ (a == b)
suc_eq a b = ⊎_elim
    (λ same. eq-eqb (suc a) (suc b) (ap suc (eqb-true a b same)) ∙ sym same)
    (λ other. ne_eqb (suc a) (suc b) (λ same. eqb-false a b other (omega (arith, same))) ∙ sym other)
    (cases_Bool (a == b))

one_more : (blank : Bool) (rest n : ℕ) → blank ≡ false → (cond (not blank) (1 + rest) 0 == suc n) ≡ (rest == n)
one_more blank rest n word = rw (word, one-add rest) (suc_eq rest n)

-- one byte more, which is the same in both or isn't
both_more : (same starts ends long rest : Bool) → (same ≡ true → long ≡ rest) → (rest && starts) ≡ (starts && ends)
    → (long && (same && starts)) ≡ ((same && starts) && ends)
both_more true starts ends long rest more so_far = rw (more refl) so_far
both_more false starts ends long rest more so_far = and-false long

-- a name without blanks is the word at the front
named : (name text : List ℕ) → list_any is_blank name ≡ false
    → ((word_length text == length name) && starts_with nat_eq text name) ≡ is_named name text
named [] [] word = refl
named [] (b ∷ text) word =
    and-true _ ∙ no_word (is_blank b) (word_length text)
    ∙ sym (ap (λ none. none || is_blank b) (ne_eqb (suc (length text)) 0 (omega arith)))
named (n ∷ name) [] word = and-false (0 == length (n ∷ name))
named (n ∷ name) (b ∷ text) word =
    let both = or_parts (is_blank n) (list_any is_blank name) word in
    let blank : Bool = is_blank (slice_index text (length name)) in
    both_more (nat_eq n b) (starts_with nat_eq text name) ((length text == length name) || blank)
    (cond (not (is_blank b)) (1 + word_length text) 0 == suc (length name)) (word_length text == length name)
    (λ same. one_more (is_blank b) (word_length text) (length name) (ap is_blank (sym (eqb-true n b same)) ∙ both.0))
    (named name text both.1)
    ∙ ap (λ long. (nat_eq n b && starts_with nat_eq text name) && (long || blank)) (sym (suc_eq (length text) (length name)))

pub same_name : (a b text : List ℕ) → list_any is_blank a ≡ false → list_any is_blank b ≡ false
    → is_named a text ≡ true → is_named b text ≡ true → a ≡ b
same_name a b text plain plain' is is' =
    let first = and_parts (word_length text == length a) (starts_with nat_eq text a) (named a text plain ∙ is) in
    let second = and_parts (word_length text == length b) (starts_with nat_eq text b) (named b text plain' ∙ is') in
    let long : length a ≡ length b = sym (eqb-true (word_length text) (length a) first.0) ∙ eqb-true (word_length text) (length b) second.0 in
    (bytes_eq-Decides a (take (length a) text)).0 first.1
    ∙ ap (λ n. take n text) long
    ∙ sym ((bytes_eq-Decides b (take (length b) text)).0 second.1)
