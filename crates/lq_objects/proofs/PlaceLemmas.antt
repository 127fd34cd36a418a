-- The places of the objects that directives name, and the numbers that they say.
use Rattle.std.proofs.Common.{◌≡◌, ◌≢◌, ℕ, ◌<◌, ◌≤◌, Bool, true, false, ◌&&◌, Option, Some, None, List, [], ◌∷◌, map, reverse, length, get_or, refl, sym, ap, ◌∙◌, subst, arith, true≢false}
use Rattle.std.specs.Prelude.{bytes_eq, codes, find, nat_le, nat_lt, unwrap_or}
use Rattle.std.specs.Char.{is_ascii_digit}
use Rattle.std.specs.List.{All, cons_option, filter_map, list_all, list_any, slice_get}
use Rattle.std.specs.Option.{option_and_then, option_map, option_map_or, option_or}
use Rattle.std.proofs.lemmas.Bool.{and_from, and_parts, both_ways, cond_both, leb-true, not_from_false, or_from, or_parts}
use Rattle.std.proofs.lemmas.List.Elements.{All-cons, All-nil}
use Rattle.std.proofs.lemmas.List.Quantifiers.{position-Some}
use Rattle.std.proofs.lemmas.Option.{none-some, same_Some, slice_get-get_or, slice_get-map}
use Rattle.std.proofs.lemmas.Slice.Eq.{bytes_eq-Decides}
use Rattle.lq_text.specs.Numbers.{number_of}
use Rattle.lq_records.specs.Clean.{text_of_bytes}
use Rattle.lq_records.specs.Sound.{ArePlaces}
use Rattle.lq_records.specs.declared.ids.HostId.{HostId}
use Rattle.lq_records.specs.declared.ids.ServiceId.{ServiceId}
use Rattle.lq_records.specs.declared.ids.ContactId.{ContactId}
use Rattle.lq_records.specs.declared.ids.ContactGroupId.{ContactGroupId}
use Rattle.lq_objects.specs.Blocks.{Line, directive, is_named, value_of}
use Rattle.lq_objects.specs.Kinds.{reference_directive, references, target}
use Rattle.lq_names.specs.Names.{ObjectName, is_equal_name, place_of, single}
use Rattle.lq_objects.specs.Names.{Block, is_of, name_of, named_in, text_or}
use Rattle.lq_objects.specs.Faults.{decides, fault_if, first_of, is_empty, is_unknown, lacks_name, names_unknown, number_between, unknown_in}
use Rattle.lq_objects.specs.Objects.{distinct, host_place, ids, lines_of_kind, number_or, places, places_in}
use Rattle.lq_objects.specs.declared.kind.BlockKind.{BlockKind}
use Rattle.lq_objects.specs.declared.kind.BlockKind.TheVariants.{Host, Service}
use Rattle.lq_objects.specs.declared.kind.Reference.{Reference}
use Rattle.lq_objects.specs.declared.kind.Reference.TheVariants.{ServiceHost}
use Rattle.lq_objects.specs.declared.fault.ObjectsWhat.TheVariants.{UnknownName}
use Rattle.lq_objects.proofs.ListLemmas.{All-distinct, All-filter_map, AllPairs-distinct, find-last, map-unwrapped, option_or_none, some_from}
use Rattle.lq_objects.proofs.FaultLemmas.{fault_if-none, kind_from_is_of}

-- ---- numbers

-- a number in a range
abbrev pub IsWithin : ℕ → ℕ → ℕ → Type 0
IsWithin least most n = (least ≤ n) × (n ≤ most)

number_in-bounded : (absent least most : ℕ) (value : List ℕ) → IsWithin least most absent
    → IsWithin least most (unwrap_or (number_between least most value) absent)
number_in-bounded absent least most value bounded =
    let n : ℕ = number_of value in
    let digits : Bool = nat_lt 0 (length value) && list_all is_ascii_digit value in
    cond_both (digits && nat_le least n && nat_le n most) (Some n) None (λ found. IsWithin least most (unwrap_or found absent))
    (λ passes.
    let high = and_parts (digits && nat_le least n) (nat_le n most) passes in
    let low = and_parts digits (nat_le least n) high.0 in
    (leb-true least n low.1, leb-true n most high.1))
    (λ _. bounded)

found-bounded : (absent least most : ℕ) (found : Option (List ℕ)) → IsWithin least most absent
    → IsWithin least most (unwrap_or (option_and_then (number_between least most) found) absent)
found-bounded absent least most None bounded = bounded
found-bounded absent least most (Some value) bounded = number_in-bounded absent least most value bounded

pub number_or-bounded : (absent least most : ℕ) (name : List ℕ) (lines : List Line) → least ≤ absent → absent ≤ most
    → IsWithin least most (number_or absent least most name lines)
number_or-bounded absent least most name lines low high = found-bounded absent least most (directive name lines) (low, high)

-- ---- places

place_of-within : (names : List ObjectName) (name : ObjectName) (place : ℕ) → place_of names name ≡ Some place → place < length names
place_of-within names name place found = (position-Some (is_equal_name name) names place name found).0

found-places : (known : BlockKind → List ObjectName) (reference : Reference) (found : Option (List ℕ))
    → ArePlaces (length (known (target reference))) (option_map_or (places_in known reference) found [])
found-places known reference None = record {
  different = λ i j d low high. absurd (omega (arith, high));
  within = All-nil (λ place. place < length (known (target reference)));
}
found-places known reference (Some value) =
    let names : List ObjectName = known (target reference) in
    let named : List ObjectName = unwrap_or (named_in reference value) [] in
    record {
      different = AllPairs-distinct (filter_map (place_of names) named);
      within = All-distinct (λ place. place < length names) (filter_map (place_of names) named)
          (All-filter_map (λ place. place < length names) (place_of names) (place_of-within names) named);
    }

-- the places of named objects, as ids
ids-places : {X : Type 0} (unwrap : X → ℕ) (wrap : ℕ → X) (back : (n : ℕ) → unwrap (wrap n) ≡ n)
    (known : BlockKind → List ObjectName) (reference : Reference) (lines : List Line) {count : ℕ} → count ≡ length (known (target reference))
    → ArePlaces count (map unwrap (map wrap (places known reference lines)))
ids-places unwrap wrap back known reference lines {count} size =
    subst (ArePlaces count) (sym (map-unwrapped unwrap wrap back (places known reference lines)))
    (subst (λ n. ArePlaces n (places known reference lines)) (sym size) (found-places known reference (directive (reference_directive reference) lines)))

pub host_ids-places : (known : BlockKind → List ObjectName) (reference : Reference) (lines : List Line) {count : ℕ}
    → count ≡ length (known (target reference))
    → ArePlaces count (map (λ id. id.0) (ids {Id = HostId} (λ place. record { 0 = place }) known reference lines))
host_ids-places = ids-places {X = HostId} (λ id. id.0) (λ place. record { 0 = place }) (λ _. refl)

pub service_ids-places : (known : BlockKind → List ObjectName) (reference : Reference) (lines : List Line) {count : ℕ}
    → count ≡ length (known (target reference))
    → ArePlaces count (map (λ id. id.0) (ids {Id = ServiceId} (λ place. record { 0 = place }) known reference lines))
service_ids-places = ids-places {X = ServiceId} (λ id. id.0) (λ place. record { 0 = place }) (λ _. refl)

pub contact_ids-places : (known : BlockKind → List ObjectName) (reference : Reference) (lines : List Line) {count : ℕ}
    → count ≡ length (known (target reference))
    → ArePlaces count (map (λ id. id.0) (ids {Id = ContactId} (λ place. record { 0 = place }) known reference lines))
contact_ids-places = ids-places {X = ContactId} (λ id. id.0) (λ place. record { 0 = place }) (λ _. refl)

pub contact_group_ids-places : (known : BlockKind → List ObjectName) (reference : Reference) (lines : List Line) {count : ℕ}
    → count ≡ length (known (target reference))
    → ArePlaces count (map (λ id. id.0) (ids {Id = ContactGroupId} (λ place. record { 0 = place }) known reference lines))
contact_group_ids-places = ids-places {X = ContactGroupId} (λ id. id.0) (λ place. record { 0 = place }) (λ _. refl)

-- ---- names that are there

-- all the blocks of a kind name what is there
pub All-known : (known : BlockKind → List ObjectName) (kind : BlockKind) (blocks : List Block)
    → first_of (λ block. unknown_in known block.kind block.lines) blocks ≡ None
    → All (λ lines. unknown_in known kind lines ≡ None) (lines_of_kind kind blocks)
All-known known kind [] none = All-nil (λ lines. unknown_in known kind lines ≡ None)
All-known known kind (block ∷ blocks) none =
    let both = option_or_none (unknown_in known block.kind block.lines) _ none in
    let rest = All-known known kind blocks both.1 in
    cond_both (is_of kind block) (block ∷ _) _ (λ found. All (λ lines. unknown_in known kind lines ≡ None) (map (λ other. other.lines) found))
    (λ is. All-cons (λ lines. unknown_in known kind lines ≡ None) block.lines (lines_of_kind kind blocks)
    (subst (λ other. unknown_in known other block.lines ≡ None) (kind_from_is_of kind block is) both.0) rest)
    (λ _. rest)

find_none-test : {X : Type 0} (test : X → Bool) (x : X) → find test (x ∷ []) ≡ None → test x ≡ false
find_none-test test x none =
    cond_both (test x) (Some x) None (λ found. found ≡ None → test x ≡ false) (λ _ some. absurd (none-some x (sym some))) (λ fails _. fails) none

find_none-list_any : {X : Type 0} (test : X → Bool) (xs : List X) → find test (reverse xs) ≡ None → list_any test xs ≡ false
find_none-list_any test [] none = refl
find_none-list_any test (x ∷ xs) none =
    let both = option_or_none (find test (reverse xs)) (find test (x ∷ [])) (sym (find-last test x xs) ∙ none) in
    or_from (test x) (list_any test xs) (find_none-test test x both.1) (find_none-list_any test xs both.0)

-- ---- a service's host

-- whether a line names a service's host, and the name that it says
abbrev names_host : Line → Bool
names_host line = is_named (codes "host_name") line.text

abbrev said_host : Line → List ℕ
said_host line = value_of (codes "host_name") line.text

-- `found` is the last of the later lines that name a host; where there is none the line at the front decides
deciding : (known : BlockKind → List ObjectName) (line : Line) (later : List Line) (value : List ℕ) (found : Option Line)
    → (found ≡ None → list_any names_host later ≡ false) → names_unknown known line later ServiceHost ≡ false
    → (option_map said_host found ≡ Some value → is_unknown known ServiceHost value ≡ false)
    → option_map said_host (option_or found (find names_host (line ∷ []))) ≡ Some value → is_unknown known ServiceHost value ≡ false
deciding known line later value (Some other) last here after says = after says
deciding known line later value None last here after says =
    cond_both (names_host line) (Some line) None (λ found. option_map said_host found ≡ Some value → is_unknown known ServiceHost value ≡ false)
    (λ named same.
    let decided : decides (codes "host_name") line later ≡ true = and_from (names_host line) _ named (not_from_false _ (last refl)) in
    let there : is_unknown known ServiceHost (said_host line) ≡ false =
    subst (λ (passes : Bool). (passes && is_unknown known ServiceHost (said_host line)) ≡ false) decided here in
    subst (λ other. is_unknown known ServiceHost other ≡ false) (same_Some (said_host line) value same) there)
    (λ _ none. absurd (none-some value none))
    says

-- a service names a host that is there
host-known : (known : BlockKind → List ObjectName) (lines : List Line) (value : List ℕ) → unknown_in known Service lines ≡ None
    → directive (codes "host_name") lines ≡ Some value → is_unknown known ServiceHost value ≡ false
host-known known [] value none says = absurd (none-some value says)
host-known known (line ∷ later) value none says =
    let both = option_or_none (fault_if (list_any (names_unknown known line later) (references Service)) line.number UnknownName) _ none in
    let here = or_parts (names_unknown known line later ServiceHost) _ (fault_if-none _ line.number UnknownName both.0) in
    deciding known line later value (find names_host (reverse later)) (find_none-list_any names_host later) here.0
    (host-known known later value both.1) (ap (option_map said_host) (sym (find-last names_host line later)) ∙ says)

-- a service's host is at its place
pub record HasHost (known : BlockKind → List ObjectName) (lines : List Line) : Type 0 where
  pub place : ℕ
  pub is : host_place (places known ServiceHost lines) ≡ place
  pub found : place_of (known Host) (single (text_or [] (codes "host_name") lines)) ≡ Some place

found-host : (known : BlockKind → List ObjectName) (found : Option (List ℕ)) → is_empty (option_map_or text_of_bytes found []) ≡ false
    → ((value : List ℕ) → found ≡ Some value → is_unknown known ServiceHost value ≡ false)
    → (place : ℕ) × (host_place (option_map_or (places_in known ServiceHost) found []) ≡ place)
    × (place_of (known Host) (single (option_map_or text_of_bytes found [])) ≡ Some place)
found-host known None some there = absurd (true≢false some)
found-host known (Some value) some there =
    let host = some_from (place_of (known Host) (single (text_of_bytes value))) (or_parts _ false (there value refl)).0 in
    (host.0, ap (λ place. host_place (distinct (cons_option place []))) host.1, host.1)

-- it has one, where no fault was found
pub host-found : (known : BlockKind → List ObjectName) (lines : List Line) → unknown_in known Service lines ≡ None
    → lacks_name Service (name_of Service lines) ≡ false → HasHost known lines
host-found known lines none whole =
    let some = or_parts (is_empty (name_of Service lines).first) _ whole in
    let host = found-host known (directive (codes "host_name") lines) some.0 (λ value is. host-known known lines value none is) in
    record { place = host.0; is = host.1; found = host.2 }

-- it is one of the hosts
pub host-within : (known : BlockKind → List ObjectName) (lines : List Line) → HasHost known lines
    → host_place (places known ServiceHost lines) < length (known Host)
host-within known lines host =
    subst (λ place. place < length (known Host)) (sym host.is)
    (place_of-within (known Host) (single (text_or [] (codes "host_name") lines)) host.place host.found)

-- the name at the place of a name is this name
name_at-place : (names : List ObjectName) (text : List ℕ) (place : ℕ) → place_of names (single text) ≡ Some place
    → slice_get (map (λ (name : ObjectName). name.first) names) place ≡ Some text
name_at-place names text place is =
    let found = position-Some (is_equal_name (single text)) names place (single text) is in
    let name : ObjectName = get_or names place (single text) in
    let here = and_parts (bytes_eq text name.first) _ found.1 in
    slice_get-map (λ (name : ObjectName). name.first) names place
    ∙ ap (option_map (λ (name : ObjectName). name.first)) (slice_get-get_or names place (single text) found.0)
    ∙ ap (λ text. Some text) (sym ((bytes_eq-Decides text name.first).0 here.0))

-- a service's host has the name that the service says
pub host-named : (known : BlockKind → List ObjectName) (lines : List Line) → HasHost known lines
    → slice_get (map (λ (name : ObjectName). name.first) (known Host)) (host_place (places known ServiceHost lines)) ≡ Some (text_or [] (codes "host_name") lines)
host-named known lines host =
    ap (slice_get (map (λ (name : ObjectName). name.first) (known Host))) host.is
    ∙ name_at-place (known Host) (text_or [] (codes "host_name") lines) host.place host.found

-- names at one place are the same
place_of-same : (names : List ObjectName) (first second : List ℕ) (place : ℕ)
    → place_of names (single first) ≡ Some place → place_of names (single second) ≡ Some place → first ≡ second
place_of-same names first second place is is' =
    let name : ObjectName = get_or names place (single first) in
    let here = and_parts (bytes_eq first name.first) _ (position-Some (is_equal_name (single first)) names place (single first) is).1 in
    let there = and_parts (bytes_eq second name.first) _ (position-Some (is_equal_name (single second)) names place (single first) is').1 in
    (bytes_eq-Decides first name.first).0 here.0 ∙ sym ((bytes_eq-Decides second name.first).0 there.0)

-- services with one host have different descriptions
pub services-differ : (known : BlockKind → List ObjectName) (a b : List Line) → HasHost known a → HasHost known b
    → is_equal_name (name_of Service b) (name_of Service a) ≡ false
    → host_place (places known ServiceHost a) ≡ host_place (places known ServiceHost b)
    → text_or [] (codes "service_description") a ≢ text_or [] (codes "service_description") b
services-differ known a b host host' different hosts descriptions =
    let same : host.place ≡ host'.place = sym host.is ∙ hosts ∙ host'.is in
    let there : place_of (known Host) (single (text_or [] (codes "host_name") a)) ≡ Some host'.place = host.found ∙ ap (λ place. Some place) same in
    let names : text_or [] (codes "host_name") b ≡ text_or [] (codes "host_name") a =
    place_of-same (known Host) _ _ host'.place host'.found there in
    both_ways (is_equal_name (name_of Service b) (name_of Service a)) different
    (and_from _ _ ((bytes_eq-Decides _ _).1 names) ((bytes_eq-Decides _ _).1 (sym descriptions)))
