-- Lists of which a part is kept, and tests that agree on that part.
use Rattle.std.proofs.Common.{◌≡◌, Bool, true, false, Option, List, [], ◌∷◌, map, filter, refl, sym, ap, ◌∙◌}
use Rattle.std.specs.List.{cons_option, filter_map}

twice_first : {A : Type 0} (p q : A → Bool) (x : A) (xs : List A) (is_p is_q : Bool) → p x ≡ is_p → q x ≡ is_q → (p x ≡ true → q x ≡ true)
    → filter p (filter q xs) ≡ filter p xs → filter p (filter q (x ∷ xs)) ≡ filter p (x ∷ xs)
twice_first p q x xs true true p_is q_is passes rest = rw (q_is, p_is) (ap (λ list. x ∷ list) rest)
twice_first p q x xs false true p_is q_is passes rest = rw (q_is, p_is) rest
twice_first p q x xs false false p_is q_is passes rest = rw (q_is, p_is) rest
twice_first p q x xs true false p_is q_is passes rest = let both : q x ≡ true = passes p_is in absurd (cc)

-- what passes p passes q
filtered_twice : {A : Type 0} (p q : A → Bool) → ((x : A) → p x ≡ true → q x ≡ true) → (xs : List A) → filter p (filter q xs) ≡ filter p xs
filtered_twice p q passes [] = refl
filtered_twice p q passes (x ∷ xs) = twice_first p q x xs (p x) (q x) refl refl (passes x) (filtered_twice p q passes xs)

pub kept_of_same : {A : Type 0} (p q : A → Bool) → ((x : A) → p x ≡ true → q x ≡ true) → (xs ys : List A) → filter q xs ≡ filter q ys → filter p xs ≡ filter p ys
kept_of_same p q passes xs ys same = sym (filtered_twice p q passes xs) ∙ ap (filter p) same ∙ filtered_twice p q passes ys

-- ---- functions that agree on what passes a test

map_first : {A B : Type 0} (f g : A → B) (q : A → Bool) (x : A) (xs : List A) (is : Bool) → q x ≡ is → (q x ≡ true → f x ≡ g x)
    → map f (filter q xs) ≡ map g (filter q xs) → map f (filter q (x ∷ xs)) ≡ map g (filter q (x ∷ xs))
map_first f g q x xs true q_is agree rest = rw (q_is, agree q_is, rest) refl
map_first f g q x xs false q_is agree rest = rw q_is rest

pub map_kept : {A B : Type 0} (f g : A → B) (q : A → Bool) → ((x : A) → q x ≡ true → f x ≡ g x) → (xs : List A) → map f (filter q xs) ≡ map g (filter q xs)
map_kept f g q agree [] = refl
map_kept f g q agree (x ∷ xs) = map_first f g q x xs (q x) refl (agree x) (map_kept f g q agree xs)

filter_cons : {A : Type 0} (f g : A → Bool) (x : A) (xs : List A) (is : Bool) → f x ≡ is → g x ≡ is → filter f xs ≡ filter g xs → filter f (x ∷ xs) ≡ filter g (x ∷ xs)
filter_cons f g x xs true f_is g_is rest = rw (f_is, g_is) (ap (λ list. x ∷ list) rest)
filter_cons f g x xs false f_is g_is rest = rw (f_is, g_is) rest

filter_first : {A : Type 0} (f g q : A → Bool) (x : A) (xs : List A) (is : Bool) → q x ≡ is → (q x ≡ true → f x ≡ g x)
    → filter f (filter q xs) ≡ filter g (filter q xs) → filter f (filter q (x ∷ xs)) ≡ filter g (filter q (x ∷ xs))
filter_first f g q x xs true q_is agree rest = rw q_is (filter_cons f g x (filter q xs) (f x) refl (sym (agree q_is)) rest)
filter_first f g q x xs false q_is agree rest = rw q_is rest

pub filter_kept : {A : Type 0} (f g q : A → Bool) → ((x : A) → q x ≡ true → f x ≡ g x) → (xs : List A) → filter f (filter q xs) ≡ filter g (filter q xs)
filter_kept f g q agree [] = refl
filter_kept f g q agree (x ∷ xs) = filter_first f g q x xs (q x) refl (agree x) (filter_kept f g q agree xs)

look_first : {A B : Type 0} (f g : A → Option B) (q : A → Bool) (x : A) (xs : List A) (is : Bool) → q x ≡ is → (q x ≡ true → f x ≡ g x)
    → filter_map f (filter q xs) ≡ filter_map g (filter q xs) → filter_map f (filter q (x ∷ xs)) ≡ filter_map g (filter q (x ∷ xs))
look_first f g q x xs true q_is agree rest =
    rw q_is (ap (λ found. cons_option found (filter_map f (filter q xs))) (agree q_is) ∙ ap (cons_option (g x)) rest)
look_first f g q x xs false q_is agree rest = rw q_is rest

pub filter_map_kept : {A B : Type 0} (f g : A → Option B) (q : A → Bool) → ((x : A) → q x ≡ true → f x ≡ g x) → (xs : List A)
    → filter_map f (filter q xs) ≡ filter_map g (filter q xs)
filter_map_kept f g q agree [] = refl
filter_map_kept f g q agree (x ∷ xs) = look_first f g q x xs (q x) refl (agree x) (filter_map_kept f g q agree xs)

-- ---- what is made of each

made_first : {A B C D : Type 0} (f : B → C) (g : D → C) (about : B → D) (p : B → Bool) (row : A → B) (x : A) (xs : List A) (is : Bool) → p (row x) ≡ is
    → f (row x) ≡ g (about (row x)) → map f (filter p (map row xs)) ≡ map g (map about (filter p (map row xs)))
    → map f (filter p (map row (x ∷ xs))) ≡ map g (map about (filter p (map row (x ∷ xs))))
made_first f g about p row x xs true is same rest = rw is (rw (same, rest) refl)
made_first f g about p row x xs false is same rest = rw is rest

-- what is made of rows is what is made of what they are about
pub made_of : {A B C D : Type 0} (f : B → C) (g : D → C) (about : B → D) (p : B → Bool) (row : A → B) → ((x : A) → f (row x) ≡ g (about (row x))) → (xs : List A)
    → map f (filter p (map row xs)) ≡ map g (map about (filter p (map row xs)))
made_of f g about p row same [] = refl
made_of f g about p row same (x ∷ xs) = made_first f g about p row x xs (p (row x)) refl (same x) (made_of f g about p row same xs)

twice_kept_first : {A B C : Type 0} (f g : B → C) (h : A → B) (q : A → Bool) (x : A) (xs : List A) (is : Bool) → q x ≡ is → (q x ≡ true → f (h x) ≡ g (h x))
    → map f (map h (filter q xs)) ≡ map g (map h (filter q xs)) → map f (map h (filter q (x ∷ xs))) ≡ map g (map h (filter q (x ∷ xs)))
twice_kept_first f g h q x xs true q_is agree rest = rw (q_is, agree q_is, rest) refl
twice_kept_first f g h q x xs false q_is agree rest = rw q_is rest

pub twice_kept : {A B C : Type 0} (f g : B → C) (h : A → B) (q : A → Bool) → ((x : A) → q x ≡ true → f (h x) ≡ g (h x)) → (xs : List A)
    → map f (map h (filter q xs)) ≡ map g (map h (filter q xs))
twice_kept f g h q agree [] = refl
twice_kept f g h q agree (x ∷ xs) = twice_kept_first f g h q x xs (q x) refl (agree x) (twice_kept f g h q agree xs)
