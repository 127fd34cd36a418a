-- What is said of each object of a list, looked up at its place.
use Rattle.std.proofs.Common.{◌≡◌, ℕ, zero, suc, Bool, false, Option, Some, None, List, [], ◌∷◌, length, map, zip, slice_get, slice_index_or, refl, ap, ◌∙◌, arith}
use Rattle.std.specs.Option.{option_map_or}

abbrev first_of : {A : Type 0} → List (Option A) → Option A
first_of [] = None
first_of (x ∷ xs) = x

abbrev rest_of : {A : Type 0} → List A → List A
rest_of [] = []
rest_of (x ∷ xs) = xs

pub mark_of_each : {A : Type 0} (test : A → Bool) (items : List A) (place : ℕ)
    → slice_index_or (map test items) place false ≡ option_map_or test (slice_get items place) false
mark_of_each test [] place = refl
mark_of_each test (item ∷ items) zero = refl
mark_of_each test (item ∷ items) (suc place) = mark_of_each test items place

-- the same of all ids, where marks say it of each object
pub by_marks : {A I : Type 0} (test : A → Bool) (items : List A) (place_of : I → ℕ) (marks : List Bool) → marks ≡ map test items
    → ◌≡◌ {A = I → Bool} (λ id. slice_index_or marks (place_of id) false) (λ id. option_map_or test (slice_get items (place_of id)) false)
by_marks test items place_of marks made i id =
    (ap (λ list. slice_index_or list (place_of id) false) made ∙ mark_of_each test items (place_of id)) i

-- what is said of the lists of objects is said of the objects, each by the place of its lists
marks_by_lists : {A : Type 0} (test : A → Bool) (lists : List A) (places : List ℕ) (objects : List A) → map (slice_get lists) places ≡ map Some objects
    → map (λ place. slice_index_or (map test lists) place false) places ≡ map test objects
marks_by_lists test lists [] [] same = refl
marks_by_lists test lists [] (object ∷ objects) same = absurd (omega (arith, ap length same))
marks_by_lists test lists (place ∷ places) [] same = absurd (omega (arith, ap length same))
marks_by_lists test lists (place ∷ places) (object ∷ objects) same =
    let here : slice_index_or (map test lists) place false ≡ test object =
    mark_of_each test lists place ∙ ap (λ found. option_map_or test found false) (ap first_of same) in
    rw (here, marks_by_lists test lists places objects (ap rest_of same)) refl

-- a test of two things that are said of each object
pub tested_together : {A : Type 0} (test : Bool × ℕ → Bool) (mark : A → Bool) (owner : A → ℕ) (items : List A)
    → map test (zip (map mark items) (map owner items)) ≡ map (λ item. test (mark item, owner item)) items
tested_together test mark owner [] = refl
tested_together test mark owner (item ∷ items) = ap (λ list. test (mark item, owner item) ∷ list) (tested_together test mark owner items)

fused : {A B C : Type 0} (f : B → C) (g : A → B) (xs : List A) → map f (map g xs) ≡ map (λ x. f (g x)) xs
fused f g [] = refl
fused f g (x ∷ xs) = ap (λ list. f (g x) ∷ list) (fused f g xs)

pub marks_of_items : {A B : Type 0} (test : B → Bool) (about : A → B) (lists : List B) (places : List ℕ) (items : List A) → map (slice_get lists) places ≡ map Some (map about items)
    → map (λ place. slice_index_or (map test lists) place false) places ≡ map (λ item. test (about item)) items
marks_of_items test about lists places items same = marks_by_lists test lists places (map about items) same ∙ fused test about items
