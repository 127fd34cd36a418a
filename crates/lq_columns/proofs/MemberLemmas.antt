-- What is made of the places that a list's members have is what is made of the members, where they have different places below a
-- number: each of these places then belongs to one of them. And what is made of the items of several owners is what is made of
-- each owner's, where the owners are different.
use Rattle.std.proofs.Common.{◌≡◌, ◌≢◌, ℕ, zero, suc, ◌+◌, ◌<◌, ◌≤◌, ◌==◌, Bool, true, false, ◌||◌, cond, max, Option, None, Some, List, [], ◌∷◌, ◌++◌, length, get_or, map, filter, fold, All, AllPairs, refl, sym, ap, subst, ◌∙◌, arith}
use Rattle.std.proofs.Math.Nat.{max-zero, zero-max}
use Rattle.std.specs.List.{flat_map, list_any, range_with_len}
use Rattle.std.specs.Option.{option_map_or}
use Rattle.std.proofs.lemmas.Bool.{eq-eqb, eqb-false, eqb-true, ne_eqb}

-- what an operation makes of the numbers of several items, 0 where there is none
abbrev pub total : {A : Type 0} → (ℕ → ℕ → ℕ) → (A → ℕ) → List A → ℕ
total op number [] = 0
total op number (item ∷ items) = op (number item) (total op number items)

-- the items may be taken in any order, and one of number 0 changes nothing
pub record IsGathering (op : ℕ → ℕ → ℕ) : Type 0 where
  pub first : (a : ℕ) → op 0 a ≡ a
  pub last : (a : ℕ) → op a 0 ≡ a
  pub swapped : (a b c d : ℕ) → op (op a b) (op c d) ≡ op (op a c) (op b d)

pub sums : IsGathering (λ a b. a + b)
sums = record { first = λ a. omega arith; last = λ a. omega arith; swapped = λ a b c d. omega arith }

pub greatest : IsGathering max
greatest = record { first = zero-max; last = max-zero; swapped = λ a b c d. omega arith }

above : (m a : ℕ) → a ≤ m → m ≢ a → a + 1 ≤ m
above m a from differ = omega (arith, from, differ)

swapped : (a b : ℕ) (r : Bool) → (a == b) ≡ r → r ≡ (b == a)
swapped a b true is = sym (eq-eqb b a (sym (eqb-true a b is)))
swapped a b false is = sym (ne_eqb b a (λ same. eqb-false a b is (sym same)))

eqb-swap : (a b : ℕ) → (a == b) ≡ (b == a)
eqb-swap a b = swapped a b (a == b) refl

module _ (op : ℕ → ℕ → ℕ) (gathers : IsGathering op) where
  -- ---- items that pass a test

  kept : {A : Type 0} (number : A → ℕ) (item : A) (rest : List A) (b : Bool) → total op number (cond b (item ∷ rest) rest) ≡ op (cond b (number item) 0) (total op number rest)
  kept number item rest true = refl
  kept number item rest false = sym (gathers.first (total op number rest))

  pub total-filter : {A : Type 0} (test : A → Bool) (number : A → ℕ) (items : List A) → total op number (filter test items) ≡ total op (λ item. cond (test item) (number item) 0) items
  total-filter test number [] = refl
  total-filter test number (item ∷ items) =
      kept number item (filter test items) (test item) ∙ ap (op (cond (test item) (number item) 0)) (total-filter test number items)

  -- ---- places

  total-agree : (f g : ℕ → ℕ) → ((k : ℕ) → f k ≡ g k) → (places : List ℕ) → total op f places ≡ total op g places
  total-agree f g same [] = refl
  total-agree f g same (k ∷ places) = ap (λ n. op n (total op f places)) (same k) ∙ ap (op (g k)) (total-agree f g same places)

  total-none : (places : List ℕ) → total op (λ k. 0) places ≡ 0
  total-none [] = refl
  total-none (k ∷ places) = gathers.first (total op (λ k. 0) places) ∙ total-none places

  total-both : (f g : ℕ → ℕ) (places : List ℕ) → total op (λ k. op (f k) (g k)) places ≡ op (total op f places) (total op g places)
  total-both f g [] = sym (gathers.first 0)
  total-both f g (k ∷ places) = ap (op (op (f k) (g k))) (total-both f g places) ∙ gathers.swapped (f k) (g k) (total op f places) (total op g places)

  -- ---- one place of a range

  -- the number of one place, and 0 of every other
  abbrev only : (ℕ → ℕ) → ℕ → ℕ → ℕ
  only f m k = cond (m == k) (f k) 0

  none-past : (f : ℕ → ℕ) (m a n : ℕ) → m < a → total op (only f m) (range_with_len a n) ≡ 0
  none-past f m a zero past = refl
  none-past f m a (suc n) past =
      ap (λ b. op (cond b (f a) 0) (total op (only f m) (range_with_len (a + 1) n))) (ne_eqb m a (λ same. omega arith))
      ∙ gathers.first (total op (only f m) (range_with_len (a + 1) n))
      ∙ none-past f m (a + 1) n (omega arith)

  one-first : (f : ℕ → ℕ) (m a rest : ℕ) (b : Bool) → (m == a) ≡ b → (b ≡ true → rest ≡ 0) → (b ≡ false → rest ≡ f m) → op (cond b (f a) 0) rest ≡ f m
  one-first f m a rest true is here later = ap (op (f a)) (here refl) ∙ gathers.last (f a) ∙ sym (ap f (eqb-true m a is))
  one-first f m a rest false is here later = gathers.first rest ∙ later refl

  one-of-range : (f : ℕ → ℕ) (m a n : ℕ) → a ≤ m → m < a + n → total op (only f m) (range_with_len a n) ≡ f m
  one-of-range f m a zero from below = absurd (omega arith)
  one-of-range f m a (suc n) from below =
      let here = λ (is : (m == a) ≡ true). let same = eqb-true m a is in none-past f m (a + 1) n (omega arith) in
      let later = λ (is : (m == a) ≡ false). one-of-range f m (a + 1) n (above m a from (eqb-false m a is)) (omega arith) in
      one-first f m a (total op (only f m) (range_with_len (a + 1) n)) (m == a) refl here later

  -- ---- the places of a list's members

  module _ {A : Type 0} (place_of : A → ℕ) where
    abbrev has : List A → ℕ → Bool
    has members k = list_any (λ member. place_of member == k) members

    -- the number of a place that a member has, and 0 of every other
    abbrev of_members : (ℕ → ℕ) → List A → ℕ → ℕ
    of_members f members k = cond (has members k) (f k) 0

    has-none : (place d : ℕ) (members : List A) → ((j : ℕ) → j < length (map place_of members) → place ≢ get_or (map place_of members) j d) → has members place ≡ false
    has-none place d [] differ = refl
    has-none place d (member ∷ members) differ =
        ap (λ b. b || has members place) (ne_eqb (place_of member) place (λ same. differ 0 (omega arith) (sym same)))
        ∙ has-none place d members (λ j within. differ (suc j) (omega arith))

    either : (x : ℕ) (b rest : Bool) → (b ≡ true → rest ≡ false) → cond (b || rest) x 0 ≡ op (cond b x 0) (cond rest x 0)
    either x true rest alone = sym (ap (λ c. op x (cond c x 0)) (alone refl) ∙ gathers.last x)
    either x false rest alone = sym (gathers.first (cond rest x 0))

    -- what is made of the places in a range that have a member is made of the members
    over_members : (f : ℕ → ℕ) (n : ℕ) (members : List A) → AllPairs (λ a b. a ≢ b) (map place_of members) → All (λ place. place < n) (map place_of members)
        → total op (of_members f members) (range_with_len 0 n) ≡ total op (λ member. f (place_of member)) members
    over_members f n [] differ within = total-none (range_with_len 0 n)
    over_members f n (member ∷ members) differ within =
        let place = place_of member in
        let alone = has-none place 0 members (λ j below. differ 0 (suc j) 0 (omega arith) (omega arith)) in
        total-agree (of_members f (member ∷ members)) (λ k. op (only f place k) (of_members f members k))
        (λ k. either (f k) (place == k) (has members k) (λ is. subst (λ m. has members m ≡ false) (eqb-true place k is) alone)) (range_with_len 0 n)
        ∙ total-both (only f place) (of_members f members) (range_with_len 0 n)
        ∙ ap (λ m. op m (total op (of_members f members) (range_with_len 0 n))) (one-of-range f place 0 n (omega arith) (let below : place < n = within 0 0 (omega arith) in omega arith))
        ∙ ap (op (f place)) (over_members f n members (λ i j d before below. differ (suc i) (suc j) d (omega arith) (omega arith)) (λ j d below. within (suc j) d (omega arith)))

    -- the same of those that pass a test
    pub over_passing : (test : ℕ → Bool) (f : ℕ → ℕ) (n : ℕ) (members : List A) → AllPairs (λ a b. a ≢ b) (map place_of members) → All (λ place. place < n) (map place_of members)
        → total op f (filter test (filter (has members) (range_with_len 0 n))) ≡ total op (λ member. f (place_of member)) (filter (λ member. test (place_of member)) members)
    over_passing test f n members differ within =
        total-filter test f (filter (has members) (range_with_len 0 n))
        ∙ total-filter (has members) (λ k. cond (test k) (f k) 0) (range_with_len 0 n)
        ∙ over_members (λ k. cond (test k) (f k) 0) n members differ within
        ∙ sym (total-filter (λ member. test (place_of member)) (λ member. f (place_of member)) members)

  -- ---- the items of several owners

  assoc : (a b c : ℕ) → op (op a b) c ≡ op a (op b c)
  assoc a b c = ap (op (op a b)) (sym (gathers.first c)) ∙ gathers.swapped a b 0 c ∙ ap (λ n. op n (op b c)) (gathers.last a)

  total-append : (f : ℕ → ℕ) (places others : List ℕ) → total op f (places ++ others) ≡ op (total op f places) (total op f others)
  total-append f [] others = sym (gathers.first (total op f others))
  total-append f (k ∷ places) others = ap (op (f k)) (total-append f places others) ∙ sym (assoc (f k) (total op f places) (total op f others))

  module _ {A S : Type 0} (owner_of : S → ℕ) (item_at : ℕ → Option S) (place_of : A → ℕ) where
    -- the item at a place is an owner's, or that of one of several
    abbrev is_owned : A → ℕ → Bool
    is_owned owner k = option_map_or (λ item. owner_of item == place_of owner) (item_at k) false

    abbrev is_one_owned : List A → ℕ → Bool
    is_one_owned owners k = option_map_or (λ item. list_any (λ owner. place_of owner == owner_of item) owners) (item_at k) false

    total-flat : (f : ℕ → ℕ) (places : A → List ℕ) (owners : List A) → total op f (flat_map places owners) ≡ total op (λ owner. total op f (places owner)) owners
    total-flat f places [] = refl
    total-flat f places (owner ∷ owners) = total-append f (places owner) (flat_map places owners) ∙ ap (op (total op f (places owner))) (total-flat f places owners)

    owned_by_none : (item : Option S) → option_map_or (λ item. false) item false ≡ false
    owned_by_none None = refl
    owned_by_none (Some item) = refl

    first_or_later : (owner : A) (owners : List A) (x : ℕ) (item : Option S) → has place_of owners (place_of owner) ≡ false
        → cond (option_map_or (λ item. list_any (λ owner. place_of owner == owner_of item) (owner ∷ owners)) item false) x 0
        ≡ op (cond (option_map_or (λ item. owner_of item == place_of owner) item false) x 0) (cond (option_map_or (λ item. list_any (λ owner. place_of owner == owner_of item) owners) item false) x 0)
    first_or_later owner owners x None alone = sym (gathers.first 0)
    first_or_later owner owners x (Some item) alone =
        either place_of x (place_of owner == owner_of item) (has place_of owners (owner_of item)) (λ is. subst (λ m. has place_of owners m ≡ false) (eqb-true (place_of owner) (owner_of item) is) alone)
        ∙ ap (λ b. op (cond b x 0) (cond (has place_of owners (owner_of item)) x 0)) (eqb-swap (place_of owner) (owner_of item))

    over_owned : (f : ℕ → ℕ) (places : List ℕ) (owners : List A) → AllPairs (λ a b. a ≢ b) (map place_of owners)
        → total op (λ k. cond (is_one_owned owners k) (f k) 0) places ≡ total op (λ owner. total op f (filter (is_owned owner) places)) owners
    over_owned f places [] differ = total-agree (λ k. cond (is_one_owned [] k) (f k) 0) (λ k. 0) (λ k. ap (λ b. cond b (f k) 0) (owned_by_none (item_at k))) places ∙ total-none places
    over_owned f places (owner ∷ owners) differ =
        let alone = has-none place_of (place_of owner) 0 owners (λ j below. differ 0 (suc j) 0 (omega arith) (omega arith)) in
        total-agree (λ k. cond (is_one_owned (owner ∷ owners) k) (f k) 0) (λ k. op (cond (is_owned owner k) (f k) 0) (cond (is_one_owned owners k) (f k) 0))
        (λ k. first_or_later owner owners (f k) (item_at k) alone) places
        ∙ total-both (λ k. cond (is_owned owner k) (f k) 0) (λ k. cond (is_one_owned owners k) (f k) 0) places
        ∙ ap (λ n. op n (total op (λ k. cond (is_one_owned owners k) (f k) 0) places)) (sym (total-filter (is_owned owner) f places))
        ∙ ap (op (total op f (filter (is_owned owner) places))) (over_owned f places owners (λ i j d before below. differ (suc i) (suc j) d (omega arith) (omega arith)))

    -- of those that pass a test
    pub over_owned_passing : (test : ℕ → Bool) (f : ℕ → ℕ) (places : List ℕ) (owners : List A) → AllPairs (λ a b. a ≢ b) (map place_of owners)
        → total op f (filter test (flat_map (λ owner. filter (is_owned owner) places) owners)) ≡ total op f (filter test (filter (is_one_owned owners) places))
    over_owned_passing test f places owners differ =
        let passing : ℕ → ℕ = λ k. cond (test k) (f k) 0 in
        total-filter test f (flat_map (λ owner. filter (is_owned owner) places) owners)
        ∙ total-flat passing (λ owner. filter (is_owned owner) places) owners
        ∙ sym (over_owned passing places owners differ)
        ∙ sym (total-filter (is_one_owned owners) passing places)
        ∙ sym (total-filter test f (filter (is_one_owned owners) places))

-- ---- the number of items, and the greatest of their numbers

one : {A : Type 0} (test : A → Bool) (item : A) (rest : List A) (b : Bool) → length (cond b (item ∷ rest) rest) ≡ cond b 1 0 + length rest
one test item rest true = omega arith
one test item rest false = omega arith

length-total : {A : Type 0} (test : A → Bool) (items : List A) → length (filter test items) ≡ total (λ a b. a + b) (λ item. cond (test item) 1 0) items
length-total test [] = refl
length-total test (item ∷ items) = one test item (filter test items) (test item) ∙ ap (λ n. cond (test item) 1 0 + n) (length-total test items)

max_assoc : (a b c d : ℕ) → c ≡ d → max (max a b) c ≡ max a (max b d)
max_assoc a b c d same = omega arith

fold-from : {A : Type 0} (number : A → ℕ) (items : List A) (a : ℕ) → fold max a (map number items) ≡ max a (total max number items)
fold-from number [] a = sym (max-zero a)
fold-from number (item ∷ items) a = fold-from number items (max a (number item)) ∙ max_assoc a (number item) (total max number items) (total max number items) refl

greatest-total : {A : Type 0} (number : A → ℕ) (items : List A) → fold max 0 (map number items) ≡ total max number items
greatest-total number items = fold-from number items 0 ∙ zero-max (total max number items)

-- ---- members

module _ {A : Type 0} (place_of : A → ℕ) (test : ℕ → Bool) (n : ℕ) (members : List A) (differ : AllPairs (λ a b. a ≢ b) (map place_of members)) (within : All (λ place. place < n) (map place_of members)) where
  abbrev those : List ℕ
  those = filter test (filter (λ k. list_any (λ member. place_of member == k) members) (range_with_len 0 n))

  pub number_over_members : (counted : ℕ → Bool) → length (filter (λ member. counted (place_of member)) (filter (λ member. test (place_of member)) members)) ≡ length (filter counted those)
  number_over_members counted =
      length-total (λ member. counted (place_of member)) (filter (λ member. test (place_of member)) members)
      ∙ sym (over_passing (λ a b. a + b) sums place_of test (λ k. cond (counted k) 1 0) n members differ within)
      ∙ sym (length-total counted those)

  pub greatest_over_members : (number : ℕ → ℕ) → fold max 0 (map (λ member. number (place_of member)) (filter (λ member. test (place_of member)) members)) ≡ fold max 0 (map number those)
  greatest_over_members number =
      greatest-total (λ member. number (place_of member)) (filter (λ member. test (place_of member)) members)
      ∙ sym (over_passing max greatest place_of test number n members differ within)
      ∙ sym (greatest-total number those)

-- ---- the items of several owners

module _ {A S : Type 0} (owner_of : S → ℕ) (item_at : ℕ → Option S) (place_of : A → ℕ) (test : ℕ → Bool) (places : List ℕ) (owners : List A) (differ : AllPairs (λ a b. a ≢ b) (map place_of owners)) where
  -- owner by owner, and in the order of their places
  abbrev by_owner : List ℕ
  by_owner = filter test (flat_map (λ owner. filter (λ k. option_map_or (λ item. owner_of item == place_of owner) (item_at k) false) places) owners)

  abbrev by_place : List ℕ
  by_place = filter test (filter (λ k. option_map_or (λ item. list_any (λ owner. place_of owner == owner_of item) owners) (item_at k) false) places)

  pub number_over_owned : (counted : ℕ → Bool) → length (filter counted by_owner) ≡ length (filter counted by_place)
  number_over_owned counted =
      length-total counted by_owner
      ∙ over_owned_passing (λ a b. a + b) sums owner_of item_at place_of test (λ k. cond (counted k) 1 0) places owners differ
      ∙ sym (length-total counted by_place)

  pub greatest_over_owned : (number : ℕ → ℕ) → fold max 0 (map number by_owner) ≡ fold max 0 (map number by_place)
  greatest_over_owned number =
      greatest-total number by_owner
      ∙ over_owned_passing max greatest owner_of item_at place_of test number places owners differ
      ∙ sym (greatest-total number by_place)
