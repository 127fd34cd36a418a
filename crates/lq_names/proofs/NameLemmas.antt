-- Names, and the keys under which they are kept.
use Rattle.std.proofs.Common.{◌≡◌, ℕ, suc, ◌+◌, ◌≤◌, ◌&&◌, Bool, true, false, Option, Some, None, List, [], ◌∷◌, ◌++◌, length, map, cond, nat_lt, refl, sym, ap, ◌∙◌, subst, get_or, is_some, true≢false, ◌<◌, ⊎_elim, arith}
use Rattle.std.specs.Prelude.{bytes_eq, not, if◌then◌else◌}
use Rattle.std.specs.List.{list_any, position, position_or_len, prefix_len}
use Rattle.std.proofs.lemmas.Bool.{cond-false, cond-true, cases_lt, le-ltb, lt-ltb}
use Rattle.std.proofs.lemmas.List.{get_or_default, map-append}
use Rattle.std.proofs.lemmas.List.Sums.{fails_before_first, passes_at_first}
use Rattle.std.proofs.lemmas.List.Folds.{list_any-from_Any, list_any_none}
use Rattle.lq_names.specs.Names.{ObjectName, is_equal_name, both_parts, place_of}

abbrev pub Key : Type 0
Key = List ℕ × List ℕ

abbrev pub key_name : Key → ObjectName
key_name key = record { first = key.0; second = key.1 }

prefix_len-map : {X Y : Type 0} (p : Y → Bool) (f : X → Y) (xs : List X) → prefix_len p (map f xs) ≡ prefix_len (λ x. p (f x)) xs
prefix_len-map p f [] = refl
prefix_len-map p f (x ∷ xs) = ap (λ n. cond (p (f x)) (1 + n) 0) (prefix_len-map p f xs)

length-map_here : {X Y : Type 0} (f : X → Y) (xs : List X) → length (map f xs) ≡ length xs
length-map_here f [] = refl
length-map_here f (x ∷ xs) = ap suc (length-map_here f xs)

pub position-map : {X Y : Type 0} (p : Y → Bool) (f : X → Y) (xs : List X) → position p (map f xs) ≡ position (λ x. p (f x)) xs
position-map p f xs =
    ap (λ n. cond (nat_lt n (length (map f xs))) (Some n) None) (prefix_len-map (λ y. not (p y)) f xs)
    ∙ ap (λ n. cond (nat_lt (position_or_len (λ x. p (f x)) xs) n) (Some (position_or_len (λ x. p (f x)) xs)) None) (length-map_here f xs)

abbrev named : List ℕ → List ℕ → ObjectName
named first second = record { first = first; second = second }

name_from : (key : Key) (name : ObjectName) → key.0 ≡ name.first → key.1 ≡ name.second → key_name key ≡ name
name_from key name first second =
    ap (λ text. named text (key.1)) first ∙ ap (λ text. named name.first text) second

pub place_of-key : (keys : List Key) (key : Key) (name : ObjectName) → key.0 ≡ name.first → key.1 ≡ name.second
    → position (λ other. bytes_eq key.0 other.0 && bytes_eq key.1 other.1) keys ≡ place_of (map key_name keys) name
place_of-key keys key name first second =
    subst (λ named. position (λ other. bytes_eq key.0 other.0 && bytes_eq key.1 other.1) keys ≡ place_of (map key_name keys) named)
    (name_from key name first second) (sym (position-map (is_equal_name (key_name key)) key_name keys))

-- ---- a name that is added

none_some : {X : Type 0} (value : X) → None ≡ Some value → ⊥
none_some value same = cc

not_below : (a b : ℕ) → cond (nat_lt a b) (Some a) None ≡ None → b ≤ a
not_below a b none = ⊎_elim (λ below. absurd (none_some a (sym none ∙ rw (lt-ltb a b below) refl))) (λ above. above) (cases_lt a b)

list_any-from_position : {X : Type 0} (p : X → Bool) (xs : List X) → position p xs ≡ None → list_any p xs ≡ false
list_any-from_position p xs none =
    let past : length xs ≤ position_or_len p xs = not_below (position_or_len p xs) (length xs) none in
    list_any_none p xs (λ i d below. fails_before_first p xs i d (omega (arith, past, below)))

some_passes : {X : Type 0} (p : X → Bool) (xs : List X) → position_or_len p xs < length xs → list_any p xs ≡ true
some_passes p [] below = absurd (omega (arith, below))
some_passes p (x ∷ xs) below =
    let all = x ∷ xs in
    let first : ℕ = position_or_len p all in
    list_any-from_Any p all (first, get_or all first x, below, get_or_default all first (get_or all first x) x below, passes_at_first p all x below)

pub is_some-position : {X : Type 0} (p : X → Bool) (xs : List X) → is_some (position p xs) ≡ list_any p xs
is_some-position p xs =
    ⊎_elim (λ below. ap is_some (cond-true _ (Some (position_or_len p xs)) None (lt-ltb _ _ below)) ∙ sym (some_passes p xs below))
    (λ above.
    let none : position p xs ≡ None = cond-false _ (Some (position_or_len p xs)) None (le-ltb _ _ above) in
    ap is_some none ∙ sym (list_any-from_position p xs none))
    (cases_lt (position_or_len p xs) (length xs))

pub none_from_is_some : {X : Type 0} (found : Option X) → is_some found ≡ false → found ≡ None
none_from_is_some None absent = refl
none_from_is_some (Some value) absent = absurd (true≢false absent)

pub added_key : (keys new : List Key) (key : Key) (name : ObjectName) (names : List ObjectName) → map key_name keys ≡ names
    → key.0 ≡ name.first → key.1 ≡ name.second → place_of names name ≡ None
    → new ≡ (if list_any (λ other. bytes_eq key.0 other.0 && bytes_eq key.1 other.1) keys then keys else keys ++ key ∷ [])
    → map key_name new ≡ names ++ name ∷ []
added_key keys new key name names view first second absent inserted =
    let none = place_of-key keys key name first second ∙ ap (λ all. place_of all name) view ∙ absent in
    let test = list_any-from_position (λ (other : Key). bytes_eq key.0 other.0 && bytes_eq key.1 other.1) keys none in
    ap (map key_name) (inserted ∙ cond-false _ keys (keys ++ key ∷ []) test)
    ∙ map-append key_name keys (key ∷ [])
    ∙ ap (λ all. all ++ key_name key ∷ []) view
    ∙ ap (λ last. names ++ last ∷ []) (name_from key name first second)

-- ---- names handed on

pub parts-of_keys : (keys : List Key) → map both_parts (map key_name keys) ≡ keys
parts-of_keys [] = refl
parts-of_keys (key ∷ keys) = ap (λ rest. key ∷ rest) (parts-of_keys keys)
