-- The columns of some tables: how many there are, and which stands at a place.
use Rattle.std.proofs.Common.{◌≡◌, ℕ, zero, suc, ◌+◌, ◌-◌, ◌≤◌, Option, Some, List, [], ◌∷◌, ◌++◌, length, drop, lit≤, sym, ap, ◌∙◌, arith, slice_get, length-append}
use Rattle.std.specs.List.{flat_map}
use Rattle.std.specs.Option.{option_map}
use Rattle.std.proofs.Math.Seq.{drop-cons}
use Rattle.std.proofs.lemmas.List.{length-map}
use Rattle.std.proofs.lemmas.Option.{slice_get-map, slice_get_within, get_or_from_slice_get}
use Rattle.lq_schema.specs.declared.columns.Col.{Col}
use Rattle.lq_schema.specs.declared.columns.Table.{Table}
use Rattle.lq_schema.specs.declared.columns.Table.TheVariants as table
use Rattle.lq_schema.specs.Schema.{columns_of}
use Rattle.lq_tables.specs.Schema.{entries_of}
use Rattle.lq_tables.specs.declared.schema.Entry.{Entry}

pub few : (t : Table) → length (columns_of t) ≤ 200
unfolding columns_of
few table.Hosts = lit≤ tt
few table.Services = lit≤ tt
few table.HostGroups = lit≤ tt
few table.ServiceGroups = lit≤ tt
few table.Contacts = lit≤ tt
few table.ContactGroups = lit≤ tt
few table.Commands = lit≤ tt
few table.TimePeriods = lit≤ tt
few table.Downtimes = lit≤ tt
few table.Comments = lit≤ tt
few table.Log = lit≤ tt
few table.Status = lit≤ tt
few table.Columns = lit≤ tt
few table.HostsByGroup = lit≤ tt
few table.ServicesByGroup = lit≤ tt
few table.ServicesByHostGroup = lit≤ tt
few table.StateHist = lit≤ tt

-- the tables from a place on are the one there and those after it
pub from_place : {A : Type 0} (xs : List A) (i : ℕ) (x : A) → slice_get xs i ≡ Some x → drop i xs ≡ x ∷ drop (i + 1) xs
from_place xs i x found =
    let next : i + 1 ≡ suc i = omega arith in
    drop-cons xs i x (slice_get_within xs i x found) ∙ ap (λ y. y ∷ drop (suc i) xs) (get_or_from_slice_get xs i x x found) ∙ ap (λ k. x ∷ drop k xs) (sym next)

-- a place in a front
in_front : {A : Type 0} (front back : List A) (i : ℕ) (x : A) → slice_get front i ≡ Some x → slice_get (front ++ back) i ≡ Some x
in_front [] back i x found = absurd (omega (arith, slice_get_within [] i x found))
in_front (y ∷ front) back zero x found = found
in_front (y ∷ front) back (suc i) x found = in_front front back i x found

-- a place after a front
beyond : {A : Type 0} (front back : List A) (i : ℕ) → length front ≤ i → slice_get (front ++ back) i ≡ slice_get back (i - length front)
beyond [] back i past = let same : i ≡ i - 0 = omega arith in ap (slice_get back) same
beyond (x ∷ front) back zero past = absurd (omega (arith, past))
beyond (x ∷ front) back (suc i) past =
    let same : i - length front ≡ suc i - length (x ∷ front) = omega arith in
    beyond front back i (omega (arith, past)) ∙ ap (slice_get back) same

pub counted_later : (tables : List Table) (i count n : ℕ) (t : Table) (whole : ℕ)
    → slice_get tables i ≡ Some t → n ≡ length (columns_of t)
    → count + length (flat_map entries_of (drop i tables)) ≡ whole → count + n + length (flat_map entries_of (drop (i + 1) tables)) ≡ whole
counted_later tables i count n t whole at is found =
    let later : List Entry = flat_map entries_of (drop (i + 1) tables) in
    let here : length (flat_map entries_of (drop i tables)) ≡ length (entries_of t ++ later) = ap (λ list. length (flat_map entries_of list)) (from_place tables i t at) in
    let own : length (entries_of t) ≡ length (columns_of t) = length-map (columns_of t) (λ column. record { table = t; column = column }) in
    omega (arith, is, found, here, own, length-append (entries_of t) later)

pub found_here : (tables : List Table) (i rest : ℕ) (t : Table) (column : Col) (whole : Option Entry)
    → slice_get tables i ≡ Some t → slice_get (columns_of t) rest ≡ Some column
    → slice_get (flat_map entries_of (drop i tables)) rest ≡ whole → Some (record { table = t; column = column }) ≡ whole
found_here tables i rest t column whole at found is =
    sym (in_front (entries_of t) (flat_map entries_of (drop (i + 1) tables)) rest (record { table = t; column = column })
    (slice_get-map (λ column. record { table = t; column = column }) (columns_of t) rest ∙ ap (option_map (λ column. record { table = t; column = column })) found))
    ∙ sym (ap (λ list. slice_get (flat_map entries_of list) rest) (from_place tables i t at)) ∙ is

pub found_later : (tables : List Table) (i rest n : ℕ) (t : Table) (whole : Option Entry)
    → slice_get tables i ≡ Some t → n ≡ length (columns_of t) → n ≤ rest
    → slice_get (flat_map entries_of (drop i tables)) rest ≡ whole → slice_get (flat_map entries_of (drop (i + 1) tables)) (rest - n) ≡ whole
found_later tables i rest n t whole at is past found =
    let counted : length (entries_of t) ≡ n = length-map (columns_of t) (λ column. record { table = t; column = column }) ∙ sym is in
    ap (λ k. slice_get (flat_map entries_of (drop (i + 1) tables)) (rest - k)) (sym counted)
    ∙ sym (beyond (entries_of t) (flat_map entries_of (drop (i + 1) tables)) rest (omega (arith, counted, past)))
    ∙ sym (ap (λ list. slice_get (flat_map entries_of list) rest) (from_place tables i t at)) ∙ found
