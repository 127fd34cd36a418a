-- Places in lists that are put together, and the search by name.
use Rattle.std.proofs.Common.{◌≡◌, ℕ, suc, ◌+◌, ◌-◌, ◌<◌, ◌≤◌, true, false, Bool, Option, Some, None, List, ◌∷◌, ◌++◌, length, drop, map, find, get_or, refl, sym, ap, ◌∙◌, arith, slice_get, subst, length-append, nat_eq, Bor}
use Rattle.std.specs.Option.{option_map, option_copied, MatchOption}
use Rattle.std.specs.List.{flat_map, starts_with}
use Rattle.std.specs.Str.{IsCharBoundary}
use Rattle.std.specs.Str.Pattern.{FindsTextPrefix, StripsPrefix}
use Rattle.std.proofs.lemmas.Str.Pattern.{starts_text}
use Rattle.std.proofs.lemmas.List.{length-map}
use Rattle.lq_schema.specs.Order.{own_columns}
use Rattle.lq_schema.specs.Schema.{columns_of, joined_of, part, part_columns, subject_of, without_prefix}
use Rattle.lq_schema.specs.declared.columns.Col.{Col}
use Rattle.lq_schema.specs.declared.columns.OwnColumn.{OwnColumn}
use Rattle.lq_schema.specs.declared.columns.Prefix.TheVariants as prefix
use Rattle.lq_schema.specs.declared.columns.Part.{Part}
use Rattle.lq_schema.specs.declared.columns.Subject.{Subject}
use Rattle.lq_schema.specs.declared.columns.Table.{Table}
use Rattle.std.proofs.Math.Seq.{drop-cons}
use Rattle.std.proofs.lemmas.Option.{slice_get-map, slice_get_within, slice_get-get_or, get_or_from_slice_get}
use Rattle.std.proofs.lemmas.List.{get_or-append-add, get_or_append_left}

pub in_front : {A : Type 0} (front back : List A) (i : ℕ) (x : A) → slice_get front i ≡ Some x → slice_get (front ++ back) i ≡ Some x
in_front front back i x found =
    let within : i < length front = slice_get_within front i x found in
    let whole : i < length (front ++ back) = omega (arith, within, length-append front back) in
    let read : get_or (front ++ back) i x ≡ x = get_or_append_left front back x i within ∙ get_or_from_slice_get front i x x found in
    slice_get-get_or (front ++ back) i x whole ∙ ap Some read

pub after_front : {A : Type 0} (front back : List A) (n i : ℕ) (x : A) → n ≡ length front → n ≤ i → slice_get back (i - n) ≡ Some x → slice_get (front ++ back) i ≡ Some x
after_front front back n i x is past found =
    let within : i - n < length back = slice_get_within back (i - n) x found in
    let whole : i < length (front ++ back) = omega (arith, is, past, within, length-append front back) in
    let place : i ≡ length front + (i - n) = omega (arith, is, past) in
    let read : get_or (front ++ back) i x ≡ x =
    ap (λ k. get_or (front ++ back) k x) place ∙ get_or-append-add front back (i - n) x ∙ get_or_from_slice_get back (i - n) x x found in
    slice_get-get_or (front ++ back) i x whole ∙ ap Some read

pub mapped_at : {A B : Type 0} (f : A → B) (xs : List A) (i : ℕ) (x : A) → slice_get xs i ≡ Some x → slice_get (map f xs) i ≡ Some (f x)
mapped_at f xs i x found = slice_get-map f xs i ∙ ap (option_map f) found

-- a place in a block of a longer list
pub at_block : {A B : Type 0} (front : List B) (f : A → B) (block : List A) (back : List B) (i : ℕ) (first : A)
    → length front ≤ i → i < length front + length block
    → slice_get (front ++ (map f block ++ back)) i ≡ Some (f (get_or block (i - length front) first))
at_block front f block back i first past below =
    let place : ℕ = i - length front in
    let found : slice_get block place ≡ Some (get_or block place first) = slice_get-get_or block place first (omega (arith, past, below)) in
    after_front front (map f block ++ back) (length front) i _ refl past (in_front (map f block) back place _ (mapped_at f block place _ found))

-- ---- the search

step_of : {A : Type 0} (p : A → Bool) (xs : List A) (i : ℕ) (x : A) → slice_get xs i ≡ Some x → drop i xs ≡ x ∷ drop (i + 1) xs
step_of p xs i x found =
    let next : i + 1 ≡ suc i = omega arith in
    drop-cons xs i x (slice_get_within xs i x found) ∙ ap (λ y. y ∷ drop (suc i) xs) (get_or_from_slice_get xs i x x found) ∙ ap (λ k. x ∷ drop k xs) (sym next)

pub find_hit : {A : Type 0} (p : A → Bool) (xs : List A) (i : ℕ) (x : A) (found : Option A) → slice_get xs i ≡ Some x → p x ≡ true
    → find p (drop i xs) ≡ found → Some x ≡ found
find_hit p xs i x found at passes whole =
    let is : find p (drop i xs) ≡ Some x = rw (step_of p xs i x at, passes) refl in
    sym is ∙ whole

pub find_miss : {A : Type 0} (p : A → Bool) (xs : List A) (i : ℕ) (x : A) (found : Option A) → slice_get xs i ≡ Some x → p x ≡ false
    → find p (drop i xs) ≡ found → find p (drop (i + 1) xs) ≡ found
find_miss p xs i x found at fails whole =
    let is : find p (drop i xs) ≡ find p (drop (i + 1) xs) = rw (step_of p xs i x at, fails) refl in
    sym is ∙ whole

-- ---- the columns of a table

whole : (t : Table) → columns_of t ≡ part_columns (part prefix.Own (subject_of t)) ++ flat_map part_columns (joined_of t)
unfolding columns_of
whole t = refl

own_count : (t : Table) → length (part_columns (part prefix.Own (subject_of t))) ≡ length (own_columns (subject_of t))
own_count t = length-map (own_columns (subject_of t)) (λ column. record { prefix = prefix.Own; own = column })

pub count_of : (t : Table) (subject : Subject) (parts : List Part) (n : ℕ) → subject ≡ subject_of t → parts ≡ joined_of t → n ≡ length (own_columns subject)
    → n + length (flat_map part_columns parts) ≡ length (columns_of t)
count_of t subject parts n about joins is =
    let own : n ≡ length (part_columns (part prefix.Own (subject_of t))) = is ∙ ap (λ s. length (own_columns s)) about ∙ sym (own_count t) in
    let parted : length (flat_map part_columns parts) ≡ length (flat_map part_columns (joined_of t)) = ap (λ list. length (flat_map part_columns list)) joins in
    omega (arith, own, parted, ap length (whole t), length-append (part_columns (part prefix.Own (subject_of t))) (flat_map part_columns (joined_of t)))

pub own_at : (t : Table) (subject : Subject) (i : ℕ) (x : OwnColumn) → subject ≡ subject_of t → slice_get (own_columns subject) i ≡ Some x
    → slice_get (columns_of t) i ≡ Some (record { prefix = prefix.Own; own = x })
own_at t subject i x about found =
    ap (λ list. slice_get list i) (whole t)
    ∙ in_front (part_columns (part prefix.Own (subject_of t))) (flat_map part_columns (joined_of t)) i (record { prefix = prefix.Own; own = x })
    (mapped_at (λ column. record { prefix = prefix.Own; own = column }) (own_columns (subject_of t)) i x (subst (λ s. slice_get (own_columns s) i ≡ Some x) about found))

pub joined_found : (t : Table) (subject : Subject) (parts : List Part) (n i : ℕ) (x : Col) → subject ≡ subject_of t → parts ≡ joined_of t
    → n ≡ length (own_columns subject) → n ≤ i → slice_get (flat_map part_columns parts) (i - n) ≡ Some x → slice_get (columns_of t) i ≡ Some x
joined_found t subject parts n i x about joins is past found =
    ap (λ list. slice_get list i) (whole t)
    ∙ after_front (part_columns (part prefix.Own (subject_of t))) (flat_map part_columns (joined_of t)) n i x
    (is ∙ ap (λ s. length (own_columns s)) about ∙ sym (own_count t)) past
    (subst (λ list. slice_get (flat_map part_columns list) (i - n) ≡ Some x) joins found)

-- ---- the own prefix

pub without_is : (r : Option (Bor (List ℕ))) (n s : List ℕ) → MatchOption r (FindsTextPrefix n s None) (λ x. StripsPrefix (FindsTextPrefix n) s x.now)
    → option_copied r ≡ without_prefix s n
without_is None n s none = rw (sym (starts_text false n s none)) refl
without_is (Some x) n s (k, is, rest, long) =
    let cut = subst (λ m. IsCharBoundary s m) (sym is.0) is.2 in
    let starts : true ≡ starts_with nat_eq s n = starts_text true n s (k, is, cut) in
    rw (sym starts) (ap Some (rest ∙ ap (λ m. drop m s) is.0))
