-- A text that is looked for among the names of objects.
use Rattle.std.proofs.Common.{◌≡◌, ℕ, ◌==◌, Bool, true, false, not, ◌||◌, Option, None, Some, List, [], ◌∷◌, ◌++◌, filter, refl, ap, sym, ◌∙◌}
use Rattle.std.specs.List.{cons_option, filter_map, flat_map, list_any}
use Rattle.std.proofs.lemmas.Bool.{eqb-true}
use Rattle.std.proofs.lemmas.List.Elements.{filter_map-append}
use Rattle.std.proofs.lemmas.List.Folds.{list_any-append}
use Rattle.std.proofs.lemmas.Map.Views.{any-filter_same}
use Rattle.std.specs.Prelude.{bytes_eq}
use Rattle.lq_records.specs.declared.base.Base.{Base}
use Rattle.lq_records.specs.declared.base.ObjectFields.{ObjectFields}
use Rattle.lq_records.specs.declared.ids.ContactId.{ContactId}
use Rattle.lq_columns.specs.Distinct.{first_of_each}
use Rattle.lq_columns.specs.Names.{contact_names_of, contacts_of, has_text, has_own_name, members_of, name_of_contact}

-- ---- names

module _ {A : Type 0} (name_of : A → Option (List ℕ)) (text : List ℕ) where
  found_first : (name : Option (List ℕ)) (others : List (List ℕ)) → has_text text (cons_option name others) ≡ (has_own_name text name || has_text text others)
  found_first None others = refl
  found_first (Some own) others = refl

  -- a text is among the names of objects where one of these is named so
  pub found_by_name : (ids : List A) → has_text text (filter_map name_of ids) ≡ list_any (λ id. has_own_name text (name_of id)) ids
  found_by_name [] = refl
  found_by_name (id ∷ ids) = found_first (name_of id) (filter_map name_of ids) ∙ ap (λ found. has_own_name text (name_of id) || found) (found_by_name ids)

  found_after : (front back : List A) → has_text text (filter_map name_of (front ++ back)) ≡ (has_text text (filter_map name_of front) || has_text text (filter_map name_of back))
  found_after front back =
      ap (has_text text) (filter_map-append name_of front back) ∙ list_any-append (λ element. bytes_eq element text) (filter_map name_of front) (filter_map name_of back)

  found_in_lists : {G : Type 0} (items : G → List A) (groups : List G) → has_text text (filter_map name_of (flat_map items groups)) ≡ list_any (λ group. has_text text (filter_map name_of (items group))) groups
  found_in_lists items [] = refl
  found_in_lists items (group ∷ groups) =
      found_after (items group) (flat_map items groups) ∙ ap (λ found. has_text text (filter_map name_of (items group)) || found) (found_in_lists items groups)

-- ---- repeats

module _ (test : ContactId → Bool) where
  -- contacts that a test tells apart have two numbers
  apart : (id other : ContactId) (same : Bool) → (id.0 == other.0) ≡ same → test id ≡ false → test other ≡ true → not same ≡ true
  apart id other false is fails holds = refl
  apart id other true is fails holds = sym fails ∙ ap (λ number. test (record { 0 = number })) (eqb-true id.0 other.0 is) ∙ holds

  once : (id : ContactId) (ids : List ContactId) (found : Bool) → test id ≡ found → (found || list_any test (filter (λ other. not (id.0 == other.0)) ids)) ≡ (found || list_any test ids)
  once id ids true is = refl
  once id ids false is = any-filter_same test (λ other. not (id.0 == other.0)) true (λ other holds. apart id other (id.0 == other.0) refl is holds) ids

  -- repeats change nothing of whether one is there
  pub found_once : (ids : List ContactId) → list_any test (first_of_each ids) ≡ list_any test ids
  found_once [] = refl
  found_once (id ∷ ids) = once id (first_of_each ids) (test id) refl ∙ ap (λ found. test id || found) (found_once ids)

-- ---- the contacts of an object

pub contact_found : (base : Base) (fields : ObjectFields) (text : List ℕ) → has_text text (contact_names_of base (contacts_of base fields))
    ≡ (has_text text (contact_names_of base fields.contacts) || list_any (λ group. has_text text (contact_names_of base (members_of base group))) fields.contact_groups)
contact_found base fields text =
    let name = name_of_contact base in
    let further = flat_map (members_of base) fields.contact_groups in
    found_by_name name text (contacts_of base fields)
    ∙ found_once (λ id. has_own_name text (name id)) (fields.contacts ++ further)
    ∙ sym (found_by_name name text (fields.contacts ++ further))
    ∙ found_after name text fields.contacts further
    ∙ ap (λ found. has_text text (contact_names_of base fields.contacts) || found) (found_in_lists name text (members_of base) fields.contact_groups)
