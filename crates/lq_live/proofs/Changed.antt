-- A list in which the item at a place changes.
use Rattle.std.proofs.Common.{◌≡◌, ℕ, zero, suc, ◌==◌, Option, Some, None, Bool, true, false, List, [], ◌∷◌, length, refl, ◌∙◌, arith, if◌then◌else◌}
use Rattle.std.proofs.lemmas.Bool.Decides.{nat_tests}
use Rattle.std.proofs.lemmas.List.{length-set}
use Rattle.std.specs.List.{slice_get}
use Rattle.std.specs.Option.{option_map}
use Rattle.lq_live.specs.State.{changed_at}

both_later : (place k : ℕ) (test : Bool) → (place == k) ≡ test → (suc place == suc k) ≡ (place == k)
both_later place k true is = rw is (grind (arith, nat_tests, is))
both_later place k false is = rw is (grind (arith, nat_tests, is))

module _ {X : Type 0} (change : X → X) where
  length_by : (place : ℕ) (items : List X) (found : Option X) → slice_get items place ≡ found → length (changed_at change place items) ≡ length items
  length_by place items None is = rw is refl
  length_by place items (Some item) is = rw is (length-set items place (change item))

  pub changed_length : (place : ℕ) (items : List X) → length (changed_at change place items) ≡ length items
  changed_length place items = length_by place items (slice_get items place) refl

  first_by : (place : ℕ) (first : X) (items : List X) (found : Option X) → slice_get items place ≡ found → slice_get (changed_at change (suc place) (first ∷ items)) 0 ≡ Some first
  first_by place first items None is = rw is refl
  first_by place first items (Some item) is = rw is refl

  rest_by : (place k : ℕ) (first : X) (items : List X) (found : Option X) → slice_get items place ≡ found
      → slice_get (changed_at change (suc place) (first ∷ items)) (suc k) ≡ slice_get (changed_at change place items) k
  rest_by place k first items None is = rw is refl
  rest_by place k first items (Some item) is = rw is refl

  either : (test : Bool) → None ≡ (if test then option_map change None else None)
  either true = refl
  either false = refl

  pub changed_get : (place k : ℕ) (items : List X) → slice_get (changed_at change place items) k ≡ (if place == k then option_map change (slice_get items k) else slice_get items k)
  changed_get place k [] = either (place == k)
  changed_get zero zero (first ∷ items) = refl
  changed_get zero (suc k) (first ∷ items) = let other : (0 == suc k) ≡ false = grind (arith, nat_tests) in rw other refl
  changed_get (suc place) zero (first ∷ items) =
      let other : (suc place == 0) ≡ false = grind (arith, nat_tests) in
      rw other (first_by place first items (slice_get items place) refl)
  changed_get (suc place) (suc k) (first ∷ items) =
      rw (both_later place k (place == k) refl) (rest_by place k first items (slice_get items place) refl ∙ changed_get place k items)
