-- The groups of rows, and of one row more.
use Rattle.std.proofs.Common.{◌≡◌, suc, Bool, true, false, Some, None, List, [], ◌∷◌, ◌++◌, length, map, cond, get_or, nat_lt, set, refl, sym, ap, ◌∙◌, slice_get, subst, true≢false, ⊎_elim, arith}
use Rattle.std.specs.Prelude.{filter, not, position, ◌||◌}
use Rattle.std.specs.List.{list_any, position_or_len}
use Rattle.std.proofs.Math.Numerals.{one-add}
use Rattle.std.proofs.lemmas.Bool.{cases_Bool, cond-true, lt-ltb, or_parts}
use Rattle.std.proofs.lemmas.List.{append-nil}
use Rattle.std.proofs.lemmas.List.Elements.{filter-append}
use Rattle.lq_stats.specs.Groups.{Key, distinct_keys, same_key}
use Rattle.lq_stats.proofs.ValueLemmas.{same_key_decides}

pub equal_keys : (a b : Key) → same_key a b ≡ true → a ≡ b
equal_keys a b same = (same_key_decides a b).0 same

pub key_itself : (a : Key) → same_key a a ≡ true
key_itself a = (same_key_decides a a).1 refl

pub same_back : (a b : Key) → same_key a b ≡ true → same_key b a ≡ true
same_back a b same = (same_key_decides b a).1 (sym (equal_keys a b same))

different_back : (a b : Key) → same_key a b ≡ false → same_key b a ≡ false
different_back a b different =
    ⊎_elim (λ same. absurd (true≢false (sym (same_back b a same) ∙ different))) (λ no. no) (cases_Bool (same_key b a))

-- ---- keys that differ from one another

-- no key is equal to a later one
abbrev pub AreApart : List Key → Type 0
AreApart [] = Unit {0}
AreApart (key ∷ keys) = (list_any (same_key key) keys ≡ false) × AreApart keys

-- what is left of keys without those equal to one
abbrev without : Key → List Key → List Key
without key keys = filter (λ other. not (same_key key other)) keys

none_without : (key other : Key) (keys : List Key) → list_any (same_key key) keys ≡ false → list_any (same_key key) (without other keys) ≡ false
none_without key other [] none = refl
none_without key other (first ∷ keys) none =
    let parts = or_parts (same_key key first) (list_any (same_key key) keys) none in
    elim (same_key other first) as (λ same. list_any (same_key key) (cond (not same) (first ∷ without other keys) (without other keys)) ≡ false) [
      | true ↦ none_without key other keys parts.1
      | false ↦ rw (parts.0, none_without key other keys parts.1) refl
    ]

apart_without : (other : Key) (keys : List Key) → AreApart keys → AreApart (without other keys)
apart_without other [] apart = tt
apart_without other (first ∷ keys) apart =
    elim (same_key other first) as (λ same. AreApart (cond (not same) (first ∷ without other keys) (without other keys))) [
      | true ↦ apart_without other keys apart.1
      | false ↦ (none_without first other keys apart.0, apart_without other keys apart.1)
    ]

-- a key isn't among those without it
itself_without : (key : Key) (keys : List Key) → list_any (same_key key) (without key keys) ≡ false
itself_without key [] = refl
itself_without key (first ∷ keys) =
    ⊎_elim
    (λ (same : same_key key first ≡ true). rw same (itself_without key keys))
    (λ (different : same_key key first ≡ false).
    let later : list_any (same_key key) (first ∷ without key keys) ≡ false = rw different (itself_without key keys) in
    rw different later)
    (cases_Bool (same_key key first))

pub apart_first : (keys : List Key) → AreApart (distinct_keys keys)
apart_first [] = tt
apart_first (key ∷ keys) = (itself_without key (distinct_keys keys), apart_without key (distinct_keys keys) (apart_first keys))

-- another key stands among those without one as among all
any_without : (key other : Key) (keys : List Key) → same_key key other ≡ false → list_any (same_key key) (without other keys) ≡ list_any (same_key key) keys
any_without key other [] different = refl
any_without key other (first ∷ keys) different =
    ⊎_elim
    (λ (same : same_key other first ≡ true).
    let no : same_key key first ≡ false = subst (λ each. same_key key each ≡ false) (equal_keys other first same) different in
    rw (same, no) (any_without key other keys different))
    (λ (apart : same_key other first ≡ false). rw apart (ap (λ later. same_key key first || later) (any_without key other keys different)))
    (cases_Bool (same_key other first))

pub any_first : (key : Key) (keys : List Key) → list_any (same_key key) (distinct_keys keys) ≡ list_any (same_key key) keys
any_first key [] = refl
any_first key (first ∷ keys) =
    ⊎_elim
    (λ (same : same_key key first ≡ true). rw same refl)
    (λ (different : same_key key first ≡ false).
    ap (λ later. same_key key first || later) (any_without key first (distinct_keys keys) different ∙ any_first key keys))
    (cases_Bool (same_key key first))

-- ---- one key more

abbrev pub with_key : Key → List Key → List Key
with_key key keys = cond (list_any (same_key key) keys) keys (keys ++ key ∷ [])

-- an if after the same test
same_test : {X Y : Type 0} (test : Bool) (f : X → Y) (a b : X) → f (cond test a b) ≡ cond test (f a) (f b)
same_test true f a b = refl
same_test false f a b = refl

-- a key more is one that was there, or stands at the end
pub first_of_more : (keys : List Key) (key : Key) → distinct_keys (keys ++ key ∷ []) ≡ with_key key (distinct_keys keys)
first_of_more [] key = refl
first_of_more (first ∷ keys) key =
    let earlier = distinct_keys keys in
    let there = list_any (same_key key) earlier in
    let added = filter-append (λ other. not (same_key first other)) earlier (key ∷ []) in
    ap (λ later. first ∷ without first later) (first_of_more keys key)
    ∙ ⊎_elim
    (λ (same : same_key key first ≡ true).
    let last : without first (earlier ++ key ∷ []) ≡ without first earlier =
    added ∙ rw (same_back key first same) (append-nil (without first earlier)) in
    rw same (ap (λ later. first ∷ later) (same_test there (without first) earlier (earlier ++ key ∷ []) ∙ rw last (same_cond there (without first earlier)))))
    (λ (different : same_key key first ≡ false).
    let last : without first (earlier ++ key ∷ []) ≡ without first earlier ++ key ∷ [] =
    added ∙ rw (different_back key first different) refl in
    rw (different, any_without key first earlier different)
    (ap (λ later. first ∷ later) (same_test there (without first) earlier (earlier ++ key ∷ []) ∙ ap (cond there (without first earlier)) last)
    ∙ same_test there (λ later. first ∷ later) (without first earlier) (without first earlier ++ key ∷ [])))
    (cases_Bool (same_key key first))
  where
    same_cond : {X : Type 0} (test : Bool) (x : X) → cond test x x ≡ x
    same_cond true x = refl
    same_cond false x = refl

-- ---- one group raised

-- a function of keys that is changed at one key
abbrev pub changed : {X : Type 0} → Key → (X → X) → (Key → X) → Key → X
changed key raise f other = cond (same_key other key) (raise (f other)) (f other)

pub unchanged : {X : Type 0} (key : Key) (raise : X → X) (f : Key → X) (keys : List Key) → list_any (same_key key) keys ≡ false
    → map (changed key raise f) keys ≡ map f keys
unchanged key raise f [] none = refl
unchanged key raise f (other ∷ keys) none =
    let parts = or_parts (same_key key other) (list_any (same_key key) keys) none in
    rw (different_back key other parts.0, unchanged key raise f keys parts.1) refl

-- where a key stands among others, the function's value there is changed, and no other is
pub one_changed : {X : Type 0} (key : Key) (raise : X → X) (f : Key → X) (keys : List Key) (d : X) → AreApart keys
    → list_any (same_key key) keys ≡ true
    → set (map f keys) (position_or_len (same_key key) keys) (raise (get_or (map f keys) (position_or_len (same_key key) keys) d)) ≡ map (changed key raise f) keys
one_changed key raise f [] d apart there = absurd (true≢false (sym there))
one_changed key raise f (other ∷ keys) d apart there =
    ⊎_elim
    (λ (same : same_key key other ≡ true).
    let none : list_any (same_key key) keys ≡ false = subst (λ each. list_any (same_key each) keys ≡ false) (sym (equal_keys key other same)) apart.0 in
    rw (same, same_back key other same, unchanged key raise f keys none) refl)
    (λ (different : same_key key other ≡ false).
    rw (different, different_back key other different, one-add)
    (ap (λ later. f other ∷ later) (one_changed key raise f keys d apart.1 (rw different at there))))
    (cases_Bool (same_key key other))

-- ---- the empty key

pub first_place : (keys : List Key) (key : Key) → length key ≡ 0 → slice_get keys 0 ≡ Some [] → Some 0 ≡ position (same_key key) keys
first_place keys (value ∷ key) long first = absurd (omega (arith, long))
first_place [] [] long first = absurd (cc)
first_place (other ∷ keys) [] long first =
    let empty : other ≡ [] = cc in
    rw empty (sym (cond-true (nat_lt 0 (suc (length keys))) (Some 0) None (lt-ltb 0 (suc (length keys)) (omega arith))))
