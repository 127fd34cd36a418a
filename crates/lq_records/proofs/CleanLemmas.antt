-- A text of any bytes, character by character.
use Rattle.std.proofs.Common.{◌≡◌, ℕ, zero, suc, ◌<◌, ◌≤◌, Bool, true, false, Some, None, IfSome, List, [], ◌∷◌, ◌++◌, length, take, drop, refl, sym, ap, ◌∙◌, subst, arith, append_assoc}
use Rattle.std.specs.Prelude.{find}
use Rattle.std.specs.Char.{encode_utf8, len_utf8, IsScalar}
use Rattle.std.specs.Str.{is_utf8, IsUtf8, all_scalars, encode_utf8_all}
use Rattle.std.proofs.Math.Logic.{⊎_elim}
use Rattle.std.proofs.lemmas.Bool.{cases_Bool, and_parts, false_from_ne_true}
use Rattle.std.proofs.lemmas.List.{length-append, length-take, take-append-drop, take_at, drop_at}
use Rattle.std.proofs.lemmas.Str.{encode_same, length-encode, len_utf8_bounds, is_utf8-from_IsUtf8, IsUtf8-from_is_utf8, IsUtf8-encode}
use Rattle.lq_records.specs.Clean.{bytes_left, text_of_bytes, cleaned_after, cleaned_byte, first_char, replacement}

take_own : (n : ℕ) (bytes : List ℕ) → take (length (take n bytes)) bytes ≡ take n bytes
take_own zero bytes = refl
take_own (suc n) [] = refl
take_own (suc n) (byte ∷ bytes) = ap (λ more. byte ∷ more) (take_own n bytes)

-- what is left of a character is kept
kept : (n : ℕ) (bytes : List ℕ) → cleaned_after n bytes ≡ take n bytes ++ cleaned_after 0 (drop n bytes)
kept zero bytes = refl
kept (suc n) [] = refl
kept (suc n) (byte ∷ bytes) = ap (λ more. byte ∷ more) (kept n bytes)

-- the character at the front begins with the first byte
front_of : (byte : ℕ) (bytes : List ℕ) → IfSome (first_char (byte ∷ bytes)) (λ char. (n : ℕ) × (char ≡ byte ∷ take n bytes))
front_of byte bytes =
    let all : List ℕ = byte ∷ bytes in
    ⊎_elim (λ (h : is_utf8 (take 1 all) ≡ true). rw h (0, refl))
    (λ (h : is_utf8 (take 1 all) ≡ false). rw h (⊎_elim (λ (h : is_utf8 (take 2 all) ≡ true). rw h (1, refl))
    (λ (h : is_utf8 (take 2 all) ≡ false). rw h (⊎_elim (λ (h : is_utf8 (take 3 all) ≡ true). rw h (2, refl))
    (λ (h : is_utf8 (take 3 all) ≡ false). rw h (⊎_elim (λ (h : is_utf8 (take 4 all) ≡ true). rw h (3, refl))
    (λ (h : is_utf8 (take 4 all) ≡ false). rw h tt)
    (cases_Bool (is_utf8 (take 4 all))))) (cases_Bool (is_utf8 (take 3 all))))) (cases_Bool (is_utf8 (take 2 all))))) (cases_Bool (is_utf8 (take 1 all)))

pub char_kept : (bytes char : List ℕ) → 0 < length bytes → first_char bytes ≡ Some char
    → cleaned_after 0 bytes ≡ char ++ cleaned_after 0 (drop (length char) bytes)
char_kept [] char some is = absurd (omega (arith, some))
char_kept (byte ∷ bytes) char some is =
    let front : (n : ℕ) × (char ≡ byte ∷ take n bytes) = subst (λ found. IfSome found (λ char. (n : ℕ) × (char ≡ byte ∷ take n bytes))) is (front_of byte bytes) in
    let left : ℕ = length (take front.0 bytes) in
    ap (λ found. cleaned_byte found byte ++ cleaned_after (bytes_left found) bytes) is
    ∙ ap (λ char. byte ∷ cleaned_after (bytes_left (Some char)) bytes) front.1
    ∙ ap (λ more. byte ∷ more) (kept left bytes)
    ∙ ap (λ front. byte ∷ (front ++ cleaned_after 0 (drop left bytes))) (take_own front.0 bytes)
    ∙ sym (ap (λ char. char ++ cleaned_after 0 (drop (length char) (byte ∷ bytes))) front.1)

pub byte_replaced : (bytes : List ℕ) → 0 < length bytes → first_char bytes ≡ None
    → cleaned_after 0 bytes ≡ replacement ++ cleaned_after 0 (drop 1 bytes)
byte_replaced [] some is = absurd (omega (arith, some))
byte_replaced (byte ∷ bytes) some is = ap (λ found. cleaned_byte found byte ++ cleaned_after (bytes_left found) bytes) is

-- UTF-8 that ends within a character doesn't begin with it
not_within : (c n : ℕ) (rest cs : List ℕ) → 0 < n → n < len_utf8 c → encode_utf8_all cs ≡ take n (encode_utf8 c ++ rest) → ⊥
not_within c n rest [] some short is =
    let counted : length (take n (encode_utf8 c ++ rest)) ≡ 0 = sym (ap length is) in
    omega (arith, counted, length-take n (encode_utf8 c ++ rest), length-append (encode_utf8 c) rest, length-encode c)
not_within c n rest (d ∷ cs) some short is =
    let all : List ℕ = encode_utf8 c ++ rest in
    let begins : all ≡ encode_utf8 d ++ (encode_utf8_all cs ++ drop n all) = sym (take-append-drop n all) ∙ ap (λ front. front ++ drop n all) (sym is) ∙ append_assoc (encode_utf8 d) (encode_utf8_all cs) (drop n all) in
    let same : len_utf8 c ≡ len_utf8 d = ap len_utf8 (encode_same c d rest (encode_utf8_all cs ++ drop n all) begins).0 in
    let counted : length (encode_utf8 d ++ encode_utf8_all cs) ≡ length (take n all) = ap length is in
    omega (arith, counted, same, length-take n all, length-append (encode_utf8 d) (encode_utf8_all cs), length-encode d)

-- of the fronts the shortest that passes is found
shortest : (test : List ℕ → Bool) (n : ℕ) (bytes : List ℕ) → 0 < n → n ≤ 4
    → ((k : ℕ) → 0 < k → k < n → test (take k bytes) ≡ false) → test (take n bytes) ≡ true
    → find test (take 1 bytes ∷ take 2 bytes ∷ take 3 bytes ∷ take 4 bytes ∷ []) ≡ Some (take n bytes)
shortest test zero bytes some most shorter passes = absurd (omega (arith, some))
shortest test (suc zero) bytes some most shorter passes = rw passes
shortest test (suc (suc zero)) bytes some most shorter passes = rw (shorter 1 (omega arith) (omega arith), passes)
shortest test (suc (suc (suc zero))) bytes some most shorter passes = rw (shorter 1 (omega arith) (omega arith), shorter 2 (omega arith) (omega arith), passes)
shortest test (suc (suc (suc (suc zero)))) bytes some most shorter passes = rw (shorter 1 (omega arith) (omega arith), shorter 2 (omega arith) (omega arith), shorter 3 (omega arith) (omega arith), passes)
shortest test (suc (suc (suc (suc (suc n))))) bytes some most shorter passes = absurd (omega (arith, most))

first_is : (c : ℕ) (rest : List ℕ) → IsScalar c → first_char (encode_utf8 c ++ rest) ≡ Some (encode_utf8 c)
first_is c rest scalar =
    let all : List ℕ = encode_utf8 c ++ rest in
    let whole : take (len_utf8 c) all ≡ encode_utf8 c = take_at (encode_utf8 c) rest (len_utf8 c) (length-encode c) in
    shortest is_utf8 (len_utf8 c) all (omega (arith, len_utf8_bounds c)) (omega (arith, len_utf8_bounds c))
    (λ k some short. false_from_ne_true _ (λ yes. let utf8 : IsUtf8 (take k all) = IsUtf8-from_is_utf8 _ yes in not_within c k rest utf8.0 some short utf8.1.1))
    (is_utf8-from_IsUtf8 _ (rw whole (IsUtf8-encode c scalar)))
    ∙ ap (λ front. Some front) whole

chars_kept : (cs : List ℕ) → all_scalars cs ≡ true → cleaned_after 0 (encode_utf8_all cs) ≡ encode_utf8_all cs
chars_kept [] scalars = refl
chars_kept (c ∷ cs) scalars =
    let rest : List ℕ = encode_utf8_all cs in
    let each : (IsScalar c) × (all_scalars cs ≡ true) = and_parts _ _ scalars in
    char_kept (encode_utf8 c ++ rest) (encode_utf8 c) (omega (arith, length-append (encode_utf8 c) rest, length-encode c, len_utf8_bounds c)) (first_is c rest each.0)
    ∙ ap (λ more. encode_utf8 c ++ cleaned_after 0 more) (drop_at (encode_utf8 c) rest _ refl)
    ∙ ap (λ more. encode_utf8 c ++ more) (chars_kept cs each.1)

-- UTF-8 stays as it is
pub cleaned-utf8 : (bytes : List ℕ) → is_utf8 bytes ≡ true → text_of_bytes bytes ≡ bytes
unfolding text_of_bytes
cleaned-utf8 bytes is =
    let utf8 : IsUtf8 bytes = IsUtf8-from_is_utf8 _ is in
    subst (λ bytes. cleaned_after 0 bytes ≡ bytes) utf8.1.1 (chars_kept utf8.0 utf8.1.0)
