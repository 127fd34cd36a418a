-- Lists of contacts at their places.
use Rattle.std.proofs.Common.{◌≡◌, ◌==◌, ℕ, Decides, zero, suc, Option, Some, None, List, [], ◌∷◌, ◌++◌, length, map, refl, sym, ap, true≢false, arith, slice_get}
use Rattle.std.specs.Option.{is_some}
use Rattle.std.proofs.lemmas.Bool.{eq-eqb, eqb-true}
use Rattle.lq_records.specs.Contacts.{AreListsOf}
use Rattle.lq_records.specs.declared.ids.ContactGroupId.{ContactGroupId}
use Rattle.lq_records.specs.declared.ids.ContactId.{ContactId}
use Rattle.lq_records.specs.declared.monitored.ContactLists.{ContactLists}

none_found : {A : Type 0} (x : A) → None ≡ Some x → ⊥
none_found x same = true≢false (sym (ap is_some same))

found_in_more : {A : Type 0} (xs : List A) (y : A) (i : ℕ) (x : A) → slice_get xs i ≡ Some x → slice_get (xs ++ y ∷ []) i ≡ Some x
found_in_more [] y i x found = absurd (none_found x found)
found_in_more (z ∷ xs) y zero x found = found
found_in_more (z ∷ xs) y (suc i) x found = found_in_more xs y i x found

pub last_kept : {A : Type 0} (xs : List A) (x : A) → slice_get (xs ++ x ∷ []) (length xs) ≡ Some x
last_kept [] x = refl
last_kept (y ∷ xs) x = last_kept xs x

abbrev first_of : {A : Type 0} → List (Option A) → Option A
first_of [] = None
first_of (x ∷ xs) = x

abbrev rest_of : {A : Type 0} → List A → List A
rest_of [] = []
rest_of (x ∷ xs) = xs

pub still_found : (lists : List ContactLists) (more : ContactLists) (places : List ℕ) (objects : List ContactLists)
    → AreListsOf lists places objects → AreListsOf (lists ++ more ∷ []) places objects
still_found lists more [] [] same = refl
still_found lists more [] (object ∷ objects) same = absurd (omega (arith, ap length same))
still_found lists more (place ∷ places) [] same = absurd (omega (arith, ap length same))
still_found lists more (place ∷ places) (object ∷ objects) same =
    let here : slice_get (lists ++ more ∷ []) place ≡ Some object = found_in_more lists more place object (ap first_of same) in
    let later : map (slice_get (lists ++ more ∷ [])) places ≡ map Some objects = still_found lists more places objects (ap rest_of same) in
    rw (here, later) refl

pub one_more : (lists : List ContactLists) (places : List ℕ) (objects : List ContactLists) (place : ℕ) (object : ContactLists)
    → AreListsOf lists places objects → slice_get lists place ≡ Some object → AreListsOf lists (places ++ place ∷ []) (objects ++ object ∷ [])
one_more lists [] [] place object same found = rw found refl
one_more lists [] (other ∷ objects) place object same found = absurd (omega (arith, ap length same))
one_more lists (other ∷ places) [] place object same found = absurd (omega (arith, ap length same))
one_more lists (other ∷ places) (first ∷ objects) place object same found =
    let here : slice_get lists other ≡ Some first = ap first_of same in
    let later : map (slice_get lists) (places ++ place ∷ []) ≡ map Some (objects ++ object ∷ []) = one_more lists places objects place object (ap rest_of same) found in
    rw (here, later) refl

-- ---- ids are equal where their numbers are

pub contacts_decided : (a b : ContactId) → Decides (a.0 == b.0) (a ≡ b)
contacts_decided a b = (λ same i. record { 0 = eqb-true a.0 b.0 same i }, λ same. eq-eqb a.0 b.0 (ap (λ (id : ContactId). id.0) same))

pub groups_decided : (a b : ContactGroupId) → Decides (a.0 == b.0) (a ≡ b)
groups_decided a b = (λ same i. record { 0 = eqb-true a.0 b.0 same i }, λ same. eq-eqb a.0 b.0 (ap (λ (id : ContactGroupId). id.0) same))
