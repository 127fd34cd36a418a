-- The one order that a list has where items that tie are equal.
use Rattle.std.proofs.Common.{◌≡◌, ℕ, suc, Bool, true, false, cond, List, [], ◌∷◌, filter, refl, sym, ap, ap₂, ◌∙◌, arith, Ordering, Less, Equal, Greater, is_lt, is_gt, true≢false, IsPermutation, IsSorted, add-one}
use Rattle.std.specs.List.{AllByRecursion, sum_by}
use Rattle.std.specs.Cmp.{IsTotalOrder}
use Rattle.std.specs.Ordering.{ordering_reverse}
use Rattle.std.proofs.lemmas.Cmp.{alike_right, tied_itself, upto}
use Rattle.std.proofs.lemmas.List.Elements.{recursion_from_All, All-from_recursion}
use Rattle.std.proofs.lemmas.List.Sorted.{All-permutation, IsPermutation-refl, IsPermutation-cons, IsPermutation-sym, IsPermutation-trans, IsPermutation-middle, sum_by-IsPermutation}
use Rattle.std.proofs.lemmas.List.Sums.{sum_by-cons}
use Rattle.lq_live.specs.Downtimes.{put_in, sort_by}

all_weaker : {X : Type 0} (P Q : X → Type 0) → ((x : X) → P x → Q x) → (xs : List X) → AllByRecursion P xs → AllByRecursion Q xs
all_weaker P Q weaker [] all = tt
all_weaker P Q weaker (x ∷ xs) all = (weaker x all.0, all_weaker P Q weaker xs all.1)

pub greater_back : (o : Ordering) → is_gt o ≡ true → is_gt (ordering_reverse o) ≡ false
greater_back Less is = absurd (true≢false (sym is))
greater_back Equal is = refl
greater_back Greater is = refl

module _ {X : Type 0} (order : X → X → Ordering) (total : IsTotalOrder order) where
  abbrev AtMost : X → X → Type 0
  AtMost a b = is_gt (order a b) ≡ false

  abbrev pub Ascending : List X → Type 0
  Ascending [] = Unit {0}
  Ascending (x ∷ xs) = AllByRecursion (AtMost x) xs × Ascending xs

  -- ---- what the function gives

  all_put : (P : X → Type 0) (item : X) (xs : List X) → P item → AllByRecursion P xs → AllByRecursion P (put_in order item xs)
  all_put P item [] is all = (is, tt)
  all_put P item (x ∷ xs) is all =
      elim (is_gt (order item x)) as (λ b. AllByRecursion P (cond b (x ∷ put_in order item xs) (item ∷ x ∷ xs))) [ true ↦ (all.0, all_put P item xs is all.1) | false ↦ (is, all) ]

  pub all_sorted : (P : X → Type 0) (xs : List X) → AllByRecursion P xs → AllByRecursion P (sort_by order xs)
  all_sorted P [] all = tt
  all_sorted P (x ∷ xs) all = all_put P x _ all.0 (all_sorted P xs all.1)

  ascending_put : (item : X) (xs : List X) → Ascending xs → Ascending (put_in order item xs)
  ascending_put item [] up = (tt, tt)
  ascending_put item (x ∷ xs) up = by (is_gt (order item x)) refl (ascending_put item xs up.1)
    where
      by : (b : Bool) → is_gt (order item x) ≡ b → Ascending (put_in order item xs) → Ascending (cond b (x ∷ put_in order item xs) (item ∷ x ∷ xs))
      by true is rest = (all_put (AtMost x) item xs (ap is_gt (total.antisymm x item) ∙ greater_back (order item x) is) up.0, rest)
      by false is rest = ((is, all_weaker (AtMost x) (AtMost item) (λ z later. upto total item x z is later) xs up.0), up)

  pub ascending_sorted : (xs : List X) → Ascending (sort_by order xs)
  ascending_sorted [] = tt
  ascending_sorted (x ∷ xs) = ascending_put x (sort_by order xs) (ascending_sorted xs)

  same_put : (item : X) (xs : List X) → IsPermutation (item ∷ xs) (put_in order item xs)
  same_put item [] = IsPermutation-refl _
  same_put item (x ∷ xs) =
      elim (is_gt (order item x)) as (λ b. IsPermutation (item ∷ x ∷ xs) (cond b (x ∷ put_in order item xs) (item ∷ x ∷ xs))) [
        | true ↦ IsPermutation-trans _ _ _ (IsPermutation-sym _ _ (IsPermutation-middle (x ∷ []) item xs)) (IsPermutation-cons x _ _ (same_put item xs))
        | false ↦ IsPermutation-refl _
      ]

  pub same_sorted : (xs : List X) → IsPermutation xs (sort_by order xs)
  same_sorted [] = IsPermutation-refl []
  same_sorted (x ∷ xs) = IsPermutation-trans _ _ _ (IsPermutation-cons x _ _ (same_sorted xs)) (same_put x (sort_by order xs))

  -- ---- what passes a test, in order

  all_filter : (P : X → Type 0) (test : X → Bool) (xs : List X) → AllByRecursion P xs → AllByRecursion P (filter test xs)
  all_filter P test [] all = tt
  all_filter P test (x ∷ xs) all = elim (test x) as (λ b. AllByRecursion P (cond b (x ∷ filter test xs) (filter test xs))) [ true ↦ (all.0, all_filter P test xs all.1) | false ↦ all_filter P test xs all.1 ]

  put_first : (item : X) (xs : List X) → AllByRecursion (AtMost item) xs → put_in order item xs ≡ item ∷ xs
  put_first item [] all = refl
  put_first item (x ∷ xs) all = rw all.0 refl

  put_kept : (test : X → Bool) (item : X) (xs : List X) → Ascending xs
      → filter test (put_in order item xs) ≡ cond (test item) (put_in order item (filter test xs)) (filter test xs)
  put_kept test item [] up = refl
  put_kept test item (x ∷ xs) up = by (is_gt (order item x)) (test item) (test x) refl refl refl (put_kept test item xs up.1)
    where
      by : (above passes first : Bool) → is_gt (order item x) ≡ above → test item ≡ passes → test x ≡ first
          → filter test (put_in order item xs) ≡ cond (test item) (put_in order item (filter test xs)) (filter test xs)
          → filter test (put_in order item (x ∷ xs)) ≡ cond (test item) (put_in order item (filter test (x ∷ xs))) (filter test (x ∷ xs))
      by true true true above passes first rest = rw (above, passes, first, above) (ap (λ ys. x ∷ ys) (rw passes at rest))
      by true true false above passes first rest = rw (above, passes, first) (rw passes at rest)
      by true false true above passes first rest = rw (above, passes, first) (ap (λ ys. x ∷ ys) (rw passes at rest))
      by true false false above passes first rest = rw (above, passes, first) (rw passes at rest)
      by false true first above passes _ rest =
          rw (above, passes)
          (sym (put_first item (filter test (x ∷ xs))
          (all_filter (AtMost item) test (x ∷ xs) (above, all_weaker (AtMost x) (AtMost item) (λ z later. upto total item x z above later) xs up.0))))
      by false false first above passes _ rest = rw (above, passes) refl

  pub sorted_kept : (test : X → Bool) (xs : List X) → filter test (sort_by order xs) ≡ sort_by order (filter test xs)
  sorted_kept test [] = refl
  sorted_kept test (x ∷ xs) = put_kept test x (sort_by order xs) (ascending_sorted xs) ∙ by (test x) refl (sorted_kept test xs)
    where
      by : (passes : Bool) → test x ≡ passes → filter test (sort_by order xs) ≡ sort_by order (filter test xs)
          → cond (test x) (put_in order x (filter test (sort_by order xs))) (filter test (sort_by order xs)) ≡ sort_by order (filter test (x ∷ xs))
      by true is rest = rw is (ap (put_in order x) rest)
      by false is rest = rw is rest

  -- ---- lists in order, by places

  turned : (o : Ordering) → is_lt o ≡ false → is_gt (ordering_reverse o) ≡ false
  turned Less is = is
  turned Equal is = refl
  turned Greater is = refl

  below_all : (x : X) (ys : List X) → IsSorted order (x ∷ ys) → Ascending ys → AllByRecursion (AtMost x) ys
  below_all x [] is up = tt
  below_all x (y ∷ ys) is up =
      let first : AtMost x y = ap is_gt (total.antisymm x y) ∙ turned _ (is 0 x (omega arith) (omega arith)) in
      (first, all_weaker (AtMost y) (AtMost x) (λ z. upto total x y z first) ys up.0)

  pub ascending_from : (xs : List X) → IsSorted order xs → Ascending xs
  ascending_from [] is = tt
  ascending_from (x ∷ xs) is =
      let tail : IsSorted order xs = λ k d p q. rw add-one (rw add-one at (is (suc k) d (omega arith) (omega arith))) in
      let up : Ascending xs = ascending_from xs tail in
      (below_all x xs is up, up)

  -- ---- only one order

  below_later : (x y z : X) → order x y ≡ Less → AtMost y z → order x z ≡ Less
  below_later x y z below later = by (order y z) refl later
    where
      by : (o : Ordering) → order y z ≡ o → is_gt o ≡ false → order x z ≡ Less
      by Less is at_most = total.trans x y z below is
      by Equal is at_most = sym (alike_right total y z x is) ∙ below
      by Greater is at_most = absurd (true≢false at_most)

  -- 1 for an item up to another
  abbrev up_to : X → X → ℕ
  up_to x z = cond (is_lt (order x z)) 0 1

  none_up_to : (x : X) (ys : List X) → AllByRecursion (λ z. order x z ≡ Less) ys → sum_by (up_to x) ys ≡ 0
  none_up_to x [] all = refl
  none_up_to x (y ∷ ys) all =
      let zero_here : up_to x y ≡ 0 = rw all.0 refl in
      omega (arith, sum_by-cons (up_to x) y ys, zero_here, none_up_to x ys all.1)

  -- the head of one list doesn't stand before the head of another with the same items
  no_lesser : (x y : X) (xs ys : List X) → order x y ≡ Less → AllByRecursion (AtMost y) ys → ((f : X → ℕ) → sum_by f (x ∷ xs) ≡ sum_by f (y ∷ ys)) → ⊥
  no_lesser x y xs ys below later same =
      let here : up_to x x ≡ 1 = rw (tied_itself total x) refl in
      let none : sum_by (up_to x) (y ∷ ys) ≡ 0 = none_up_to x (y ∷ ys) (below, all_weaker (AtMost y) (λ z. order x z ≡ Less) (λ z. below_later x y z below) ys later) in
      omega (arith, sum_by-cons (up_to x) x xs, here, none, same (up_to x))

  module _ (P : X → Type 0) (equal : (x y : X) → P x → P y → order x y ≡ Equal → x ≡ y) where
    one_order : (xs ys : List X) → AllByRecursion P xs → AllByRecursion P ys → Ascending xs → Ascending ys → ((f : X → ℕ) → sum_by f xs ≡ sum_by f ys) → xs ≡ ys
    one_order [] [] p q up later same = refl
    one_order [] (y ∷ ys) p q up later same = absurd (omega (arith, sum_by-cons (λ _. 1) y ys, same (λ _. 1)))
    one_order (x ∷ xs) [] p q up later same = absurd (omega (arith, sum_by-cons (λ _. 1) x xs, same (λ _. 1)))
    one_order (x ∷ xs) (y ∷ ys) p q up later same = by (order x y) refl (one_order xs ys p.1 q.1 up.1 later.1)
      where
        by : (o : Ordering) → order x y ≡ o → (((f : X → ℕ) → sum_by f xs ≡ sum_by f ys) → xs ≡ ys) → x ∷ xs ≡ y ∷ ys
        by Less is rest = absurd (no_lesser x y xs ys is later.0 same)
        by Equal is rest =
            let head : x ≡ y = equal x y p.0 q.0 is in
            ap₂ ◌∷◌ head (rest (λ f. omega (arith, sum_by-cons f x xs, sum_by-cons f y ys, ap f head, same f)))
        by Greater is rest = absurd (no_lesser y x ys xs (total.antisymm y x ∙ ap ordering_reverse is) up.0 (λ f. sym (same f)))

    pub is_sorted : (xs ys : List X) → AllByRecursion P xs → IsPermutation xs ys → IsSorted order ys → ys ≡ sort_by order xs
    is_sorted xs ys all same order_of =
        one_order ys (sort_by order xs)
        (recursion_from_All P ys (All-permutation P xs ys same (All-from_recursion P xs all)))
        (all_sorted P xs all) (ascending_from ys order_of) (ascending_sorted xs)
        (λ f. sum_by-IsPermutation f xs ys same ∙ sym (sum_by-IsPermutation f xs (sort_by order xs) (same_sorted xs)))
