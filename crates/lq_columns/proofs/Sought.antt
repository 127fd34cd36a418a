-- A contact that is found by its name once, and by its id from then on.
use Rattle.std.proofs.Common.{◌≡◌, ◌≢◌, ◌<◌, ℕ, ◌==◌, Bool, true, false, ◌||◌, Option, None, Some, List, [], ◌∷◌, ◌++◌, length, map, get_or, refl, ap, sym, ◌∙◌, inl, inr, arith, bytes_eq}
use Rattle.std.specs.List.{AllPairs, flat_map, list_any, slice_get}
use Rattle.std.specs.Option.{option_map}
use Rattle.std.proofs.lemmas.Bool.{cases_eq, cases_order, eq-eqb, false_from_ne_true, ne_eqb}
use Rattle.std.proofs.lemmas.List.{get_or-map, get_or_default, length-map}
use Rattle.std.proofs.lemmas.List.Folds.{list_any-append}
use Rattle.std.proofs.lemmas.Option.{slice_get_cases}
use Rattle.std.proofs.lemmas.Slice.Eq.{bytes_eq-Decides}
use Rattle.lq_records.specs.declared.base.Base.{Base}
use Rattle.lq_records.specs.declared.base.Contact.{Contact}
use Rattle.lq_records.specs.declared.base.ObjectFields.{ObjectFields}
use Rattle.lq_records.specs.declared.ids.ContactId.{ContactId}
use Rattle.lq_columns.specs.Names.{IsContactNamed, contact_names_of, contacts_of, has_text, is_contact, has_own_name, members_of, name_of_contact}
use Rattle.lq_columns.proofs.Found.{found_by_name, found_once}

-- ---- by its name

same_bytes : (first second : List ℕ) → bytes_eq first second ≡ true → first ≡ second
same_bytes first second same = (bytes_eq-Decides first second).0 same

module _ (contacts : List Contact) (different : AllPairs (λ a b. a ≢ b) (map (λ contact. contact.contact_name) contacts)) (name : List ℕ) where
  other_name : (first second : ℕ) (contact : Contact) → first < second → second < length contacts
      → (get_or contacts first contact).contact_name ≢ (get_or contacts second contact).contact_name
  other_name first second contact before within same =
      let name_of = λ (each : Contact). each.contact_name in
      different first second contact.contact_name before (omega (arith, within, length-map contacts name_of))
      (get_or-map name_of contacts first contact contact.contact_name (omega arith) ∙ same ∙ sym (get_or-map name_of contacts second contact contact.contact_name within))

  -- two places with the name are the same place
  one_place : (first second : ℕ) (contact : Contact) → first < length contacts → second < length contacts
      → bytes_eq (get_or contacts first contact).contact_name name ≡ true → bytes_eq (get_or contacts second contact).contact_name name ≡ true → first ≡ second
  one_place first second contact first_within second_within here there =
      let same : (get_or contacts first contact).contact_name ≡ (get_or contacts second contact).contact_name = same_bytes _ name here ∙ sym (same_bytes _ name there) in
      elim (cases_order first second) [
        | inl is ↦ is
        | inr (inl before) ↦ absurd (other_name first second contact before second_within same)
        | inr (inr after) ↦ absurd (other_name second first contact after first_within (sym same))
      ]

  pub named_at : (place : ℕ) (contact : Contact) → place < length contacts → bytes_eq (get_or contacts place contact).contact_name name ≡ true
      → (other : ℕ) → has_own_name name (option_map (λ contact. contact.contact_name) (slice_get contacts other)) ≡ (other == place)
  named_at place contact within here other = elim (slice_get_cases contacts other).1 [
    | inl found ↦
        let own = found.0 in
        let here_too : bytes_eq (get_or contacts place own).contact_name name ≡ true = rw (get_or_default contacts place own contact within) here in
        let at_other : bytes_eq own.contact_name name ≡ bytes_eq (get_or contacts other own).contact_name name = ap (λ (each : Contact). bytes_eq each.contact_name name) (sym found.3) in
        ap (λ some. has_own_name name (option_map (λ (each : Contact). each.contact_name) some)) found.2
        ∙ (elim (cases_eq other place) [
          | inl is ↦ at_other ∙ ap (λ k. bytes_eq (get_or contacts k own).contact_name name) is ∙ here_too ∙ sym (eq-eqb other place is)
          | inr differ ↦
              false_from_ne_true (bytes_eq own.contact_name name) (λ named. differ (one_place other place own found.1 within (sym at_other ∙ named) here_too))
              ∙ sym (ne_eqb other place differ)
        ])
    | inr past ↦
        ap (λ some. has_own_name name (option_map (λ (each : Contact). each.contact_name) some)) past.1
        ∙ sym (ne_eqb other place (λ is. omega (arith, within, past.0, is)))
  ]

  pub named_nowhere : ((place : ℕ) (contact : Contact) → place < length contacts → bytes_eq (get_or contacts place contact).contact_name name ≡ false)
      → (other : ℕ) → has_own_name name (option_map (λ contact. contact.contact_name) (slice_get contacts other)) ≡ false
  named_nowhere none other = elim (slice_get_cases contacts other).1 [
    | inl found ↦
        ap (λ some. has_own_name name (option_map (λ (each : Contact). each.contact_name) some)) found.2
        ∙ ap (λ (each : Contact). bytes_eq each.contact_name name) (sym found.3) ∙ none other found.0 found.1
    | inr past ↦ ap (λ some. has_own_name name (option_map (λ (each : Contact). each.contact_name) some)) past.1
  ]

-- ---- by its id

any_same : {A : Type 0} (first second : A → Bool) → ((item : A) → first item ≡ second item) → (items : List A) → list_any first items ≡ list_any second items
any_same first second same [] = refl
any_same first second same (item ∷ items) =
    ap (λ found. found || list_any first items) (same item) ∙ ap (λ found. second item || found) (any_same first second same items)

any_in_lists : {A G : Type 0} (test : A → Bool) (items : G → List A) (groups : List G) → list_any test (flat_map items groups) ≡ list_any (λ group. list_any test (items group)) groups
any_in_lists test items [] = refl
any_in_lists test items (group ∷ groups) =
    list_any-append test (items group) (flat_map items groups) ∙ ap (λ found. list_any test (items group) || found) (any_in_lists test items groups)

pub is_none : (ids : List ContactId) → list_any (is_contact None) ids ≡ false
is_none [] = refl
is_none (id ∷ ids) = is_none ids

-- a name is among those of an object's contacts where the contact with the name is one of them
pub by_id : (base : Base) (fields : ObjectFields) (contact : Option ContactId) (name : List ℕ) → IsContactNamed base name contact
    → has_text name (contact_names_of base (contacts_of base fields)) ≡ list_any (is_contact contact) (contacts_of base fields)
by_id base fields contact name named =
    found_by_name (name_of_contact base) name (contacts_of base fields)
    ∙ any_same (λ id. has_own_name name (name_of_contact base id)) (is_contact contact) named.same (contacts_of base fields)

pub listed_once : (base : Base) (fields : ObjectFields) (contact : ContactId)
    → (list_any (λ id. id.0 == contact.0) fields.contacts || list_any (λ group. list_any (λ id. id.0 == contact.0) (members_of base group)) fields.contact_groups)
    ≡ list_any (λ id. id.0 == contact.0) (contacts_of base fields)
listed_once base fields contact =
    let test = is_contact (Some contact) in
    let further = flat_map (members_of base) fields.contact_groups in
    sym (found_once test (fields.contacts ++ further)
    ∙ list_any-append test fields.contacts further
    ∙ ap (λ found. list_any test fields.contacts || found) (any_in_lists test (members_of base) fields.contact_groups))
