-- Lists that are made of others, and lists without repeats.
use Rattle.std.proofs.Common.{◌≡◌, ◌≢◌, ℕ, ◌<◌, Bool, true, false, not, Option, Some, None, List, [], ◌∷◌, map, length, get_or, reverse, cond, refl, sym, ap, ap₂, ◌∙◌, subst, arith, IfSome, ⊎_elim}
use Rattle.std.specs.Prelude.{nat_eq, filter, find, is_none}
use Rattle.std.specs.List.{All, AllPairs, cons_option, filter_map, list_any}
use Rattle.std.specs.Option.{option_or}
use Rattle.std.proofs.lemmas.Bool.{cases_Bool, eqb-false, not-true, or_parts}
use Rattle.std.proofs.lemmas.List.{get_or-map, length-map, reverse-append}
use Rattle.std.proofs.lemmas.List.Folds.{find-append}
use Rattle.std.proofs.lemmas.List.Elements.{All-cons, All-filter, All-head, All-nil, All-tail, All-weaker, filter_passes}
use Rattle.std.proofs.lemmas.List.Kept.{AllPairs-cons, AllPairs-filter}
use Rattle.std.proofs.lemmas.Option.{none-some}
use Rattle.lq_objects.specs.Objects.{distinct}

-- ---- options

pub option_or_none : {X : Type 0} (first second : Option X) → option_or first second ≡ None → (first ≡ None) × (second ≡ None)
option_or_none None second none = (refl, none)
option_or_none (Some x) second none = absurd (none-some x (sym none))

option_or-nothing : {X : Type 0} (found : Option X) → option_or found None ≡ found
option_or-nothing None = refl
option_or-nothing (Some x) = refl

pub some_from : {X : Type 0} (found : Option X) → is_none found ≡ false → (x : X) × (found ≡ Some x)
some_from None some = absurd (cc)
some_from (Some x) some = (x, refl)

IfSome-from : {X : Type 0} (found : Option X) (P : X → Type 0) → ((x : X) → found ≡ Some x → P x) → IfSome found P
IfSome-from None P each = tt
IfSome-from (Some x) P each = each x refl

-- ---- mapped lists

pub map-agree : {X Y : Type 0} (f g : X → Y) → ((x : X) → f x ≡ g x) → (xs : List X) → map f xs ≡ map g xs
map-agree f g same [] = refl
map-agree f g same (x ∷ xs) = ap₂ (λ first rest. first ∷ rest) (same x) (map-agree f g same xs)

-- what is wrapped and unwrapped again is as it was
pub map-unwrapped : {X Y : Type 0} (unwrap : Y → X) (wrap : X → Y) → ((x : X) → unwrap (wrap x) ≡ x) → (xs : List X)
    → map unwrap (map wrap xs) ≡ xs
map-unwrapped unwrap wrap back [] = refl
map-unwrapped unwrap wrap back (x ∷ xs) = ap₂ (λ first rest. first ∷ rest) (back x) (map-unwrapped unwrap wrap back xs)

pub All-unmap : {X Y : Type 0} (P : Y → Type 0) (f : X → Y) (xs : List X) → All P (map f xs) → All (λ x. P (f x)) xs
All-unmap P f xs all k d within = subst P (get_or-map f xs k d (f d) within) (all k (f d) (omega (arith, length-map xs f)))

pub AllPairs-map : {X Y : Type 0} (R : Y → Y → Type 0) (f : X → Y) (xs : List X)
    → AllPairs (λ a b. R (f a) (f b)) xs → AllPairs R (map f xs)
AllPairs-map R f [] pairs i j d low high = absurd (omega (arith, high))
AllPairs-map R f (x ∷ xs) pairs i j d low high =
    let within : j < length (x ∷ xs) = omega (arith, high, length-map xs f) in
    let first = get_or-map f (x ∷ xs) i x d (omega arith) in
    let second = get_or-map f (x ∷ xs) j x d within in
    subst (λ y. R y (get_or (map f (x ∷ xs)) j d)) (sym first) (subst (R (f (get_or (x ∷ xs) i x))) (sym second) (pairs i j x low within))

pub AllPairs-unmap : {X Y : Type 0} (R : Y → Y → Type 0) (f : X → Y) (xs : List X)
    → AllPairs R (map f xs) → AllPairs (λ a b. R (f a) (f b)) xs
AllPairs-unmap R f xs pairs i j d low high =
    let first = get_or-map f xs i d (f d) (omega arith) in
    let second = get_or-map f xs j d (f d) high in
    subst (λ y. R y (f (get_or xs j d))) first (subst (R (get_or (map f xs) i (f d))) second (pairs i j (f d) low (omega (arith, length-map xs f))))

-- one relation from another, and from what holds of each element
pub AllPairs-by : {X : Type 0} (R S : X → X → Type 0) (P : X → Type 0) (xs : List X)
    → ((a b : X) → P a → P b → R a b → S a b) → AllPairs R xs → All P xs → AllPairs S xs
AllPairs-by R S P xs step pairs all i j d low high =
    step (get_or xs i d) (get_or xs j d) (all i d (omega arith)) (all j d high) (pairs i j d low high)

-- ---- lists of which parts are kept

-- what a filter drops isn't kept by a second one either
pub filter-filter : {X : Type 0} (kept test : X → Bool) → ((x : X) → kept x ≡ false → test x ≡ false) → (xs : List X)
    → filter test (filter kept xs) ≡ filter test xs
filter-filter kept test none [] = refl
filter-filter kept test none (x ∷ xs) =
    let rest = filter-filter kept test none xs in
    ⊎_elim
    (λ passes. rw passes (ap (λ ys. cond (test x) (x ∷ ys) ys) rest))
    (λ fails. rw fails (rest ∙ sym (ap (λ passes. cond passes (x ∷ filter test xs) (filter test xs)) (none x fails))))
    (cases_Bool (kept x))

-- of several that pass the last is found
pub find-last : {X : Type 0} (test : X → Bool) (x : X) (xs : List X)
    → find test (reverse (x ∷ xs)) ≡ option_or (find test (reverse xs)) (find test (x ∷ []))
find-last test x xs = ap (find test) (reverse-append (x ∷ []) xs) ∙ find-append test (reverse xs) (x ∷ [])

-- the same one, where what is dropped doesn't pass
pub find-filter : {X : Type 0} (kept test : X → Bool) → ((x : X) → kept x ≡ false → test x ≡ false) → (xs : List X)
    → find test (reverse (filter kept xs)) ≡ find test (reverse xs)
find-filter kept test none [] = refl
find-filter kept test none (x ∷ xs) =
    let rest = find-filter kept test none xs in
    ⊎_elim
    (λ passes. rw passes
    (find-last test x (filter kept xs) ∙ ap (λ found. option_or found (find test (x ∷ []))) rest ∙ sym (find-last test x xs)))
    (λ fails. rw fails
    (rest
    ∙ sym (find-last test x xs ∙ ap (λ passes. option_or (find test (reverse xs)) (cond passes (Some x) None)) (none x fails) ∙ option_or-nothing _)))
    (cases_Bool (kept x))

pub All-from_list_any : {X : Type 0} (test : X → Bool) (xs : List X) → list_any test xs ≡ false → All (λ x. test x ≡ false) xs
All-from_list_any test [] none = All-nil (λ x. test x ≡ false)
All-from_list_any test (x ∷ xs) none =
    let both = or_parts (test x) (list_any test xs) none in
    All-cons (λ y. test y ≡ false) x xs both.0 (All-from_list_any test xs both.1)

All-cons_option : {X : Type 0} (P : X → Type 0) (found : Option X) (xs : List X) → IfSome found P → All P xs → All P (cons_option found xs)
All-cons_option P None xs first rest = rest
All-cons_option P (Some x) xs first rest = All-cons P x xs first rest

pub All-filter_map : {X Y : Type 0} (P : Y → Type 0) (f : X → Option Y) → ((x : X) (y : Y) → f x ≡ Some y → P y) → (xs : List X)
    → All P (filter_map f xs)
All-filter_map P f each [] = All-nil P
All-filter_map P f each (x ∷ xs) = All-cons_option P (f x) (filter_map f xs) (IfSome-from (f x) P (each x)) (All-filter_map P f each xs)

pub All-distinct : (P : ℕ → Type 0) (xs : List ℕ) → All P xs → All P (distinct xs)
All-distinct P [] all = all
All-distinct P (x ∷ xs) all =
    All-cons P x _ (All-head P x xs all) (All-filter (λ y. not (nat_eq x y)) P (distinct xs) (All-distinct P xs (All-tail P x xs all)))

pub AllPairs-distinct : (xs : List ℕ) → AllPairs (λ a b. a ≢ b) (distinct xs)
AllPairs-distinct [] = λ i j d low high. absurd (omega (arith, high))
AllPairs-distinct (x ∷ xs) =
    let other : ℕ → Bool = λ y. not (nat_eq x y) in
    let rest : List ℕ = filter other (distinct xs) in
    AllPairs-cons (λ a b. a ≢ b) x rest
    (All-weaker (λ y. other y ≡ true) (λ y. x ≢ y) (λ y passes. eqb-false x y (not-true (nat_eq x y) passes)) rest
    (filter_passes other (distinct xs)))
    (AllPairs-filter (λ a b. a ≢ b) other (distinct xs) (AllPairs-distinct xs))
