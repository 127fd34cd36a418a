-- Contacts without repeats, found one by one or list by list.
use Rattle.std.proofs.Common.{◌≡◌, ℕ, ◌==◌, Bool, true, false, cond, not, ◌&&◌, ◌||◌, if◌then◌else◌, List, [], ◌∷◌, ◌++◌, filter, refl, ap, ◌∙◌, sym, append_assoc, ◌+◌, ◌<◌, length, drop, get_or, add-one, drop-cons}
use Rattle.std.specs.List.{flat_map, list_any}
use Rattle.std.proofs.lemmas.List.{append-nil}
use Rattle.std.proofs.lemmas.List.Elements.{filter_agree}
use Rattle.std.proofs.lemmas.List.Folds.{list_any-append}
use Rattle.std.proofs.lemmas.Bool.{eqb-true}
use Rattle.lq_records.specs.declared.ids.ContactId.{ContactId}
use Rattle.lq_records.specs.declared.ids.ContactGroupId.{ContactGroupId}
use Rattle.lq_columns.specs.Distinct.{first_of_each, stands_in, with_new, with_one}

-- ---- filters

both : (p : ContactId → Bool) → (id : ContactId) → (b : Bool) → (front back : List ContactId) → filter p front ≡ back
    → filter p (cond b (id ∷ front) front) ≡ cond (b && p id) (id ∷ back) back
both p id true front back same = ap (λ kept. cond (p id) (id ∷ kept) kept) same
both p id false front back same = same

-- two filters are one by both tests
pub filter-filter : (p q : ContactId → Bool) → (ids : List ContactId) → filter p (filter q ids) ≡ filter (λ id. q id && p id) ids
filter-filter p q [] = refl
filter-filter p q (id ∷ ids) = both p id (q id) (filter q ids) (filter (λ other. q other && p other) ids) (filter-filter p q ids)

all_kept : (ids : List ContactId) → filter (λ id. true) ids ≡ ids
all_kept [] = refl
all_kept (id ∷ ids) = ap (λ kept. id ∷ kept) (all_kept ids)

-- ---- one more contact

-- one that stands among others goes with its number
stands_too : (found : List ContactId) → (id other : ContactId) → (b : Bool) → stands_in found id ≡ true → (id.0 == other.0) ≡ b
    → not (stands_in found other) ≡ (not b && not (stands_in found other))
stands_too found id other true stands same =
    ap not (sym (ap (λ number. list_any (λ one. one.0 == number) found) (eqb-true id.0 other.0 same)) ∙ stands)
stands_too found id other false stands same = refl

neither : (s t : Bool) → not (s || (t || false)) ≡ (not t && not s)
neither true true = refl
neither true false = refl
neither false true = refl
neither false false = refl

lacks_both : (found : List ContactId) → (id other : ContactId) → (b : Bool) → stands_in found id ≡ b
    → not (stands_in (if b then found else found ++ id ∷ []) other) ≡ (not (id.0 == other.0) && not (stands_in found other))
lacks_both found id other true stands = stands_too found id other (id.0 == other.0) stands refl
lacks_both found id other false stands =
    ap not (list_any-append (λ one. one.0 == other.0) found (id ∷ [])) ∙ neither (stands_in found other) (id.0 == other.0)

after : (found : List ContactId) → (id : ContactId) → (kept : List ContactId) → (b : Bool)
    → (if b then found else found ++ id ∷ []) ++ kept ≡ found ++ cond (not b) (id ∷ kept) kept
after found id kept true = refl
after found id kept false = append_assoc found (id ∷ []) kept

pub with_new-cons : (found : List ContactId) → (id : ContactId) → (ids : List ContactId) → with_new (with_one found id) ids ≡ with_new found (id ∷ ids)
with_new-cons found id ids =
    ap (λ kept. with_one found id ++ kept)
    (filter_agree (λ other. not (stands_in (with_one found id) other)) (λ other. not (id.0 == other.0) && not (stands_in found other))
    (λ other. lacks_both found id other (stands_in found id) refl) (first_of_each ids)
    ∙ sym (filter-filter (λ other. not (stands_in found other)) (λ other. not (id.0 == other.0)) (first_of_each ids)))
    ∙ after found id (filter (λ other. not (stands_in found other)) (filter (λ other. not (id.0 == other.0)) (first_of_each ids))) (stands_in found id)

-- ---- lists

pub with_new-append : (found ids later : List ContactId) → with_new (with_new found ids) later ≡ with_new found (ids ++ later)
with_new-append found [] later = ap (λ front. with_new front later) (append-nil found)
with_new-append found (id ∷ ids) later =
    ap (λ front. with_new front later) (sym (with_new-cons found id ids))
    ∙ with_new-append (with_one found id) ids later
    ∙ with_new-cons found id (ids ++ later)

-- a direct list and a further one, added to nothing
pub contacts_found : (direct further found all : List ContactId) → found ≡ with_new [] direct → all ≡ with_new found further
    → all ≡ first_of_each (direct ++ further)
contacts_found direct further found all direct_ones further_ones =
    further_ones ∙ ap (λ front. with_new front further) direct_ones ∙ with_new-append [] direct further ∙ all_kept (first_of_each (direct ++ further))

-- what is left at a place, from its first item on
first_and_rest : {X : Type 0} → (items : List X) → (i : ℕ) → (default : X) → i < length items → get_or items i default ∷ drop (i + 1) items ≡ drop i items
first_and_rest items i default within = rw (add-one, drop-cons items i default within) refl

-- a step of a loop over contacts
pub one_more : (found next ids all : List ContactId) → (i : ℕ) → (default : ContactId) → i < length ids → next ≡ with_one found (get_or ids i default)
    → with_new found (drop i ids) ≡ all → with_new next (drop (i + 1) ids) ≡ all
one_more found next ids all i default within step before =
    ap (λ more. with_new more (drop (i + 1) ids)) step
    ∙ with_new-cons found (get_or ids i default) (drop (i + 1) ids)
    ∙ ap (with_new found) (first_and_rest ids i default within)
    ∙ before

-- a step of a loop over lists
pub some_more : (members : ContactGroupId → List ContactId) → (groups : List ContactGroupId) → (found next all : List ContactId) → (i : ℕ) → (default : ContactGroupId)
    → i < length groups → next ≡ with_new found (members (get_or groups i default))
    → with_new found (flat_map members (drop i groups)) ≡ all → with_new next (flat_map members (drop (i + 1) groups)) ≡ all
some_more members groups found next all i default within step before =
    ap (λ more. with_new more (flat_map members (drop (i + 1) groups))) step
    ∙ with_new-append found (members (get_or groups i default)) (flat_map members (drop (i + 1) groups))
    ∙ ap (λ left. with_new found (flat_map members left)) (first_and_rest groups i default within)
    ∙ before
