-- What one element more does to a list without repeats.
use Rattle.std.proofs.Common.{◌≡◌, ℕ, ◌+◌, ◌<◌, Bool, true, false, not, ◌||◌, cond, Option, Some, None, List, [], ◌∷◌, ◌++◌, length, get_or, take, refl, sym, ap, ◌∙◌, ⊎_elim}
use Rattle.std.specs.Prelude.{nat_eq, filter, if◌then◌else◌}
use Rattle.std.specs.List.{cons_option, filter_map, list_any}
use Rattle.std.proofs.lemmas.Bool.{cases_Bool, cond_both, eq-eqb, eqb-false, eqb-true, ne_eqb}
use Rattle.std.proofs.lemmas.List.{append-nil, take_more}
use Rattle.std.proofs.lemmas.List.Elements.{filter-append, filter_map-append}
use Rattle.lq_objects.specs.Objects.{distinct}

abbrev is_other : ℕ → ℕ → Bool
is_other x y = not (nat_eq x y)

any_of_others : (x y : ℕ) → nat_eq y x ≡ false → (xs : List ℕ) → list_any (nat_eq y) (filter (is_other x) xs) ≡ list_any (nat_eq y) xs
any_of_others x y other [] = refl
any_of_others x y other (z ∷ zs) = ⊎_elim
    (λ same. rw same (any_of_others x y other zs ∙ rw (ap (nat_eq y) (sym (eqb-true x z same)) ∙ other) refl))
    (λ differs. rw differs (ap (λ rest. nat_eq y z || rest) (any_of_others x y other zs)))
    (cases_Bool (nat_eq x z))

-- the element goes last, unless it is there
abbrev pub with_last : List ℕ → ℕ → List ℕ
with_last xs y = if list_any (nat_eq y) xs then xs else xs ++ y ∷ []

-- an element that isn't x
others_with_last : (x y : ℕ) → nat_eq x y ≡ false → nat_eq y x ≡ false → (xs : List ℕ)
    → filter (is_other x) (with_last xs y) ≡ with_last (filter (is_other x) xs) y
others_with_last x y after before xs = ⊎_elim
    (λ there. rw there (rw (any_of_others x y before xs ∙ there) refl))
    (λ absent. rw absent (rw (any_of_others x y before xs ∙ absent) (filter-append (is_other x) xs (y ∷ []) ∙ rw after refl)))
    (cases_Bool (list_any (nat_eq y) xs))

-- the element x itself
others_with_x : (x y : ℕ) → nat_eq x y ≡ true → (xs : List ℕ) → filter (is_other x) (with_last xs y) ≡ filter (is_other x) xs
others_with_x x y same xs = ⊎_elim
    (λ there. rw there refl)
    (λ absent. rw absent (filter-append (is_other x) xs (y ∷ []) ∙ rw same (append-nil (filter (is_other x) xs))))
    (cases_Bool (list_any (nat_eq y) xs))

pub distinct-push : (xs : List ℕ) (y : ℕ) → distinct (xs ++ y ∷ []) ≡ with_last (distinct xs) y
distinct-push [] y = refl
distinct-push (x ∷ xs) y =
    let step = ap (λ rest. x ∷ filter (is_other x) rest) (distinct-push xs y) in
    let others : List ℕ = filter (is_other x) (distinct xs) in
    ⊎_elim
    (λ same. step ∙ rw same (ap (λ rest. x ∷ rest) (others_with_x x y (eq-eqb x y (sym (eqb-true y x same))) (distinct xs))))
    (λ differs.
    step ∙ ap (λ rest. x ∷ rest) (others_with_last x y (ne_eqb x y (λ same. eqb-false y x differs (sym same))) differs (distinct xs))
    ∙ rw differs (cond_both (list_any (nat_eq y) others) others (others ++ y ∷ [])
    (λ rest. x ∷ rest ≡ cond (list_any (nat_eq y) others) (x ∷ others) (x ∷ others ++ y ∷ [])) (λ there. rw there refl) (λ absent. rw absent refl)))
    (cases_Bool (nat_eq y x))

-- ---- what names are found as

module _ {X : Type 0} (place : X → Option ℕ) where
  found_of_more : (names : List X) (at : ℕ) (name : X) → at < length names → name ≡ get_or names at name
      → filter_map place (take (at + 1) names) ≡ filter_map place (take at names) ++ cons_option (place name) []
  found_of_more names at name within is =
      ap (filter_map place) (take_more names at name within) ∙ filter_map-append place (take at names) (get_or names at name ∷ [])
      ∙ ap (λ next. filter_map place (take at names) ++ cons_option (place next) []) (sym is)

  -- a name that is found
  pub distinct-found : (names : List X) (at : ℕ) (name : X) (y : ℕ) (keys new : List ℕ) → at < length names → name ≡ get_or names at name
      → keys ≡ distinct (filter_map place (take at names)) → place name ≡ Some y → new ≡ with_last keys y
      → new ≡ distinct (filter_map place (take (at + 1) names))
  distinct-found names at name y keys new within is so_far found added =
      let more = found_of_more names at name within is ∙ ap (λ next. filter_map place (take at names) ++ cons_option next []) found in
      added ∙ ap (λ before. with_last before y) so_far ∙ sym (ap distinct more ∙ distinct-push (filter_map place (take at names)) y)

  -- a name that isn't
  pub distinct-not_found : (names : List X) (at : ℕ) (name : X) (keys : List ℕ) → at < length names → name ≡ get_or names at name
      → keys ≡ distinct (filter_map place (take at names)) → place name ≡ None
      → keys ≡ distinct (filter_map place (take (at + 1) names))
  distinct-not_found names at name keys within is so_far absent =
      let more = found_of_more names at name within is ∙ ap (λ next. filter_map place (take at names) ++ cons_option next []) absent
      ∙ append-nil (filter_map place (take at names)) in
      so_far ∙ sym (ap distinct more)
