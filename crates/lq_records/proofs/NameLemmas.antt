-- Items that are found by the set of their names.
use Rattle.std.proofs.Common.{◌≡◌, ℕ, suc, ◌+◌, ◌<◌, ◌≤◌, ◌&&◌, Bool, true, false, cond, Option, Some, None, List, [], ◌∷◌, IfSome, length, map, nat_lt, not, refl, ap, ◌∙◌, ⊎_elim, true≢false, arith, unwrap_or}
use Rattle.std.specs.List.{position, position_or_len, prefix_len}
use Rattle.std.specs.Option.{is_some}
use Rattle.std.specs.Prelude.{bytes_eq}
use Rattle.std.proofs.lemmas.Bool.{cases_lt, cond-false, cond-true, le-ltb, lt-ltb}
use Rattle.std.proofs.lemmas.Cmp.{nat_list_eq_equiv}
use Rattle.lq_records.specs.Named.{has_name}

prefix_len-map : {X Y : Type 0} (p : Y → Bool) (f : X → Y) (xs : List X) → prefix_len p (map f xs) ≡ prefix_len (λ x. p (f x)) xs
prefix_len-map p f [] = refl
prefix_len-map p f (x ∷ xs) = ap (λ n. cond (p (f x)) (1 + n) 0) (prefix_len-map p f xs)

length-map_here : {X Y : Type 0} (f : X → Y) (xs : List X) → length (map f xs) ≡ length xs
length-map_here f [] = refl
length-map_here f (x ∷ xs) = ap suc (length-map_here f xs)

position-map : {X Y : Type 0} (p : Y → Bool) (f : X → Y) (xs : List X) → position p (map f xs) ≡ position (λ x. p (f x)) xs
position-map p f xs =
    ap (λ n. cond (nat_lt n (length (map f xs))) (Some n) None) (prefix_len-map (λ y. not (p y)) f xs)
    ∙ ap (λ n. cond (nat_lt (position_or_len (λ x. p (f x)) xs) n) (Some (position_or_len (λ x. p (f x)) xs)) None) (length-map_here f xs)

-- a place is below the length
pub place_within : {X : Type 0} (p : X → Bool) (items : List X) (place : Option ℕ) → place ≡ position p items → IfSome place (λ place. place < length items)
place_within p items None is = tt
place_within p items (Some place) is = ⊎_elim below past (cases_lt (position_or_len p items) (length items))
  where
    below : position_or_len p items < length items → place < length items
    below within =
        let same : place ≡ position_or_len p items =
        ap (λ option. unwrap_or option 0) (is ∙ cond-true _ (Some (position_or_len p items)) None (lt-ltb _ _ within)) in
        omega (arith, within, same)

    past : length items ≤ position_or_len p items → place < length items
    past beyond = absurd (true≢false (ap is_some (is ∙ cond-false _ (Some (position_or_len p items)) None (le-ltb _ _ beyond))))

-- among the names of items a name stands where the first item that has it does
pub place_among : {X : Type 0} (name_of : X → List ℕ × List ℕ) (items : List X) (first second : List ℕ)
    → position (λ (name : List ℕ × List ℕ). bytes_eq first name.0 && bytes_eq second name.1) (map name_of items)
    ≡ position (λ item. has_name first second (name_of item)) items
place_among name_of items first second =
    position-map (λ (name : List ℕ × List ℕ). bytes_eq first name.0 && bytes_eq second name.1) name_of items
    ∙ ap (λ test. position test items)
    (λ i item. nat_list_eq_equiv.symm first ((name_of item).0) i && nat_list_eq_equiv.symm second ((name_of item).1) i)

and-true : (a : Bool) → (a && true) ≡ a
and-true true = refl
and-true false = refl

-- where the second part of each name is empty, the first one tells
pub by_one_part : {X : Type 0} (text_of : X → List ℕ) (items : List X) (name : List ℕ)
    → position (λ item. has_name name [] (text_of item, [])) items ≡ position (λ item. bytes_eq (text_of item) name) items
by_one_part text_of items name = ap (λ test. position test items) (λ i item. and-true (bytes_eq (text_of item) name) i)
