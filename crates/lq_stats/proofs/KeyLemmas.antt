-- Keys, and the values that they are seen as.
use Rattle.std.proofs.Common.{◌≡◌, ◌≤◌, ℕ, Bool, false, Some, None, List, [], ◌∷◌, ◌++◌, length, map, cond, nat_lt, refl, sym, ap, ◌∙◌, ⊎_elim, arith, Vec, Global}
use Rattle.std.specs.Prelude.{not, position}
use Rattle.std.specs.Cmp.Lexicographic.{pointwise}
use Rattle.std.specs.List.{list_any, position_or_len, prefix_len}
use Rattle.std.proofs.lemmas.Bool.{cond-false, cases_lt, lt-ltb}
use Rattle.std.proofs.lemmas.List.{length-map, map-append}
use Rattle.std.proofs.lemmas.List.Sums.{fails_before_first}
use Rattle.std.proofs.lemmas.List.Folds.{list_any_none}
use Rattle.lq_stats.specs.Groups.{Key, same_key, same_value}
use Rattle.lq_stats.specs.Keys.{cell_value, key_values}
use Rattle.lq_stats.specs.declared.key.KeyCell.{KeyCell}
use Rattle.lq_stats.specs.declared.key.KeyCell.TheVariants as part
use Rattle.lq_stats.specs.contracts.key.KeyCellPartialEq.TheImpl.{ghosts as derived}

-- equal cells of keys are those whose values are the same
cell_eq : (a b : KeyCell) → derived.eq a b ≡ same_value (cell_value a) (cell_value b)
cell_eq (part.Int a) (part.Int b) = refl
cell_eq (part.Micro a) (part.Micro b) = refl
cell_eq (part.Text a) (part.Text b) = refl
cell_eq (part.List a) (part.List b) = refl
cell_eq (part.Nums a) (part.Nums b) = refl
cell_eq (part.Pairs a) (part.Pairs b) = refl
cell_eq _ _ = refl

pub cells_eq : (a b : List KeyCell) → pointwise derived.eq a b ≡ same_key (key_values a) (key_values b)
cells_eq [] [] = refl
cells_eq [] (b ∷ bs) = refl
cells_eq (a ∷ as') [] = refl
cells_eq (a ∷ as') (b ∷ bs) = rw (cell_eq a b, cells_eq as' bs)

-- ---- tests of what a list is seen as

module _ {X Y : Type 0} (p : X → Bool) (q : Y → Bool) (f : X → Y) (agree : (x : X) → p x ≡ q (f x)) where
  list_any-seen : (xs : List X) → list_any p xs ≡ list_any q (map f xs)
  list_any-seen [] = refl
  list_any-seen (x ∷ xs) = rw (agree x, list_any-seen xs)

  prefix_len-seen : (xs : List X) → prefix_len (λ x. not (p x)) xs ≡ prefix_len (λ y. not (q y)) (map f xs)
  prefix_len-seen [] = refl
  prefix_len-seen (x ∷ xs) = rw (agree x, prefix_len-seen xs)

  position-seen : (xs : List X) → position p xs ≡ position q (map f xs)
  position-seen xs =
      ap (λ n. cond (nat_lt n (length xs)) (Some n) None) (prefix_len-seen xs)
      ∙ ap (λ n. cond (nat_lt (position_or_len q (map f xs)) n) (Some (position_or_len q (map f xs))) None) (sym (length-map xs f))

-- ---- a key among others

none_some : {X : Type 0} (value : X) → None ≡ Some value → ⊥
none_some value same = cc

not_below : (a b : ℕ) → cond (nat_lt a b) (Some a) None ≡ None → b ≤ a
not_below a b none = ⊎_elim (λ below. absurd (none_some a (sym none ∙ rw (lt-ltb a b below) refl))) (λ above. above) (cases_lt a b)

pub list_any-from_position : {X : Type 0} (p : X → Bool) (xs : List X) → position p xs ≡ None → list_any p xs ≡ false
list_any-from_position p xs none =
    let past : length xs ≤ position_or_len p xs = not_below (position_or_len p xs) (length xs) none in
    list_any_none p xs (λ i d below. fails_before_first p xs i d (omega (arith, past, below)))

abbrev pub seen : List (Vec KeyCell Global) → List Key
seen keys = map (λ key. key_values key.items) keys

pub place_of : (keys : List (Vec KeyCell Global)) (key : List KeyCell)
    → position (λ other. pointwise derived.eq key other.items) keys ≡ position (same_key (key_values key)) (seen keys)
place_of keys key = position-seen (λ other. pointwise derived.eq key other.items) (same_key (key_values key)) (λ other. key_values other.items) (λ other. cells_eq key other.items) keys

pub pushed : (keys new : List (Vec KeyCell Global)) (key : Vec KeyCell Global) (view : List Key) → seen keys ≡ view
    → position (same_key (key_values key.items)) view ≡ None
    → new ≡ cond (list_any (λ other. pointwise derived.eq key.items other.items) keys) keys (keys ++ key ∷ [])
    → seen new ≡ view ++ key_values key.items ∷ []
pushed keys new key view is absent inserted =
    let none : list_any (λ other. pointwise derived.eq key.items other.items) keys ≡ false =
    list_any-seen (λ other. pointwise derived.eq key.items other.items) (same_key (key_values key.items)) (λ other. key_values other.items) (λ other. cells_eq key.items other.items) keys
    ∙ ap (list_any (same_key (key_values key.items))) is
    ∙ list_any-from_position (same_key (key_values key.items)) view absent in
    ap seen (inserted ∙ cond-false _ keys (keys ++ key ∷ []) none)
    ∙ map-append (λ (key : Vec KeyCell Global). key_values key.items) keys (key ∷ [])
    ∙ ap (λ all. all ++ key_values key.items ∷ []) is
