-- The object file of a workload has no fault.
use Rattle.std.proofs.Common.{inl, inr, ◌≡◌, ℕ, zero, suc, ◌+◌, ◌*◌, ◌^◌, ◌<◌, ◌≤◌, Bool, true, false, List, [], ◌∷◌, ◌++◌, length, length-append, refl, ap, ap₂, sym, ◌∙◌, arith, append-nil, cond}
use Rattle.std.specs.Prelude.{not, bytes_eq, Some, None, is_none, IsOk}
use Rattle.std.specs.Fmt.{decimal}
use Rattle.std.specs.List.{list_any, prefix_len}
use Rattle.std.proofs.lemmas.Bool.{and_from, and_left, and_right, cases_Bool, cases_lt, false_from_ne_true, lt-leb, lt-ltb, not_from_false, or_cases, or_from, or_left, or_right, true≢false}
use Rattle.std.proofs.lemmas.Fmt.{decimal_injective}
use Rattle.std.proofs.lemmas.List.Folds.{list_any-append}
use Rattle.std.proofs.lemmas.Slice.Eq.{bytes_eq-Decides}
use Rattle.lq_records.specs.declared.base.Rules.{Rules}
use Rattle.lq_names.specs.Names.{ObjectName, is_equal_name, place_of, single}
use Rattle.lq_objects.specs.Kinds.{limit}
use Rattle.lq_objects.specs.Objects.{base_of}
use Rattle.lq_workload.specs.Accepted.{IsAccepted}
use Rattle.lq_workload.specs.Draws.{after_draws, drawn_after}
use Rattle.lq_workload.specs.Objects.{contact_block, contact_name, contacts_text, drawn_service, group_block, group_name, groups_text, host_block, host_name, host_services, hosts_text, objects_text, service_block, service_description, services_text}
use Rattle.lq_workload.proofs.FileLemmas.{HasNames, Says, base_accepted, file_faultless, fresh, fresh-append, names_of, names_of-append, objects_below, says_below, says_both, says_object}
use Rattle.lq_workload.proofs.KindLemmas.{IsUsed, BlockKind, contact_kind, group_kind, host_kind, service_kind}
use Rattle.lq_workload.proofs.LogLemmas.{drawn_less, log_accepted}
use Rattle.lq_workload.proofs.ObjectLemmas.{contact_object, group_object, host_object, service_object}

-- ---- the objects

abbrev contact_of : ℕ → ObjectName
contact_of contact = single (contact_name contact)

abbrev host_of : ℕ → ObjectName
host_of host = single (host_name host)

abbrev service_of : ℕ → ℕ → ObjectName
service_of host service = record { first = host_name host; second = service_description service }

abbrev group_of : ℕ → ObjectName
group_of group = single (group_name group)

abbrev one_contact : ℕ → List (BlockKind × ObjectName)
one_contact contact = (contact_kind, contact_of contact) ∷ []

abbrev one_host : ℕ → List (BlockKind × ObjectName)
one_host host = (host_kind, host_of host) ∷ []

abbrev one_service : ℕ → ℕ → List (BlockKind × ObjectName)
one_service host service = (service_kind, service_of host service) ∷ []

abbrev ten_services : ℕ → List (BlockKind × ObjectName)
ten_services host = objects_below 10 (one_service host)

abbrev one_group : ℕ → List (BlockKind × ObjectName)
one_group group = (group_kind, group_of group) ∷ []

contacts : List (BlockKind × ObjectName)
contacts = objects_below 5 one_contact

hosts : List (BlockKind × ObjectName)
hosts = objects_below 100 one_host

services : List (BlockKind × ObjectName)
services = objects_below 100 ten_services

groups : List (BlockKind × ObjectName)
groups = objects_below 10 one_group

says_contacts : Says contacts_text contacts
unfolding contacts
says_contacts = says_below 5 contact_block one_contact
    (λ contact less. says_object (contact_block contact) contact_kind (contact_of contact) (contact_object contact less))

says_hosts : (number : ℕ) → Says (hosts_text number) hosts
unfolding hosts
says_hosts number =
    says_below 100 (λ host. host_block host (drawn_after host 5 number)) one_host
    (λ host less. says_object (host_block host (drawn_after host 5 number)) host_kind (host_of host)
    (host_object host (drawn_after host 5 number) less (drawn_less 5 (after_draws host number) (omega arith))))

says_service : (host service number : ℕ) → host < 100 → service < 10 → Says (drawn_service host service number) ((service_kind, service_of host service) ∷ [])
says_service host service number less one =
    let attempts : ℕ = drawn_after 0 3 number + 1 in
    let contact : ℕ = drawn_after 1 5 number in
    says_object (service_block host service attempts contact) service_kind (service_of host service)
    (service_object host service attempts contact less one (omega arith) (omega (arith, drawn_less 3 (after_draws 0 number) (omega arith)))
    (drawn_less 5 (after_draws 1 number) (omega arith)))

says_services : (number : ℕ) → Says (services_text number) services
unfolding services
says_services number =
    says_below 100 (λ host. host_services host (after_draws (host * 20) number)) ten_services
    (λ host less. says_below 10 (λ service. drawn_service host service (after_draws (service * 2) (after_draws (host * 20) number)))
    (one_service host)
    (λ service one. says_service host service (after_draws (service * 2) (after_draws (host * 20) number)) less one))

says_groups : Says groups_text groups
unfolding groups
says_groups = says_below 10 group_block one_group
    (λ group less. says_object (group_block group) group_kind (group_of group) (group_object group less))

abbrev all_objects : List (BlockKind × ObjectName)
all_objects = ((contacts ++ hosts) ++ services) ++ groups

says_all : (number : ℕ) → Says (objects_text number) all_objects
unfolding objects_text
says_all number =
    says_both _ groups_text ((contacts ++ hosts) ++ services) groups
    (says_both (contacts_text ++ hosts_text number) (services_text (after_draws 100 number)) (contacts ++ hosts) services
    (says_both contacts_text (hosts_text number) contacts hosts says_contacts (says_hosts number)) (says_services (after_draws 100 number))) says_groups

-- ---- the names of a kind

-- the lists of the numbers below a number, joined
abbrev lists_below : ℕ → (ℕ → List ObjectName) → List ObjectName
lists_below zero names = []
lists_below (suc count) names = lists_below count names ++ names count

names_each : (kind : BlockKind) (count : ℕ) (objects : ℕ → List (BlockKind × ObjectName)) (names : ℕ → List ObjectName) → ((place : ℕ) → names_of kind (objects place) ≡ names place)
    → names_of kind (objects_below count objects) ≡ lists_below count names
names_each kind zero objects names each = refl
names_each kind (suc count) objects names each =
    names_of-append kind (objects_below count objects) (objects count)
    ∙ ap₂ (λ front back. front ++ back) (names_each kind count objects names each) (each count)

empty_below : (count : ℕ) → lists_below count (λ place. []) ≡ []
empty_below zero = refl
empty_below (suc count) = ap (λ front. front ++ []) (empty_below count)

no_names : (kind : BlockKind) (count : ℕ) (objects : ℕ → List (BlockKind × ObjectName)) → ((place : ℕ) → names_of kind (objects place) ≡ []) → names_of kind (objects_below count objects) ≡ []
no_names kind count objects each = names_each kind count objects (λ place. []) each ∙ empty_below count

names_all : (kind : BlockKind) (a b c d : List ObjectName) → names_of kind contacts ≡ a → names_of kind hosts ≡ b → names_of kind services ≡ c → names_of kind groups ≡ d
    → names_of kind all_objects ≡ ((a ++ b) ++ c) ++ d
names_all kind a b c d first second third fourth =
    names_of-append kind ((contacts ++ hosts) ++ services) groups
    ∙ ap₂ (λ x y. x ++ y)
    (names_of-append kind (contacts ++ hosts) services ∙ ap₂ (λ x y. x ++ y) (names_of-append kind contacts hosts ∙ ap₂ (λ x y. x ++ y) first second) third)
    fourth

abbrev contact_names : List ObjectName
contact_names = lists_below 5 (λ contact. contact_of contact ∷ [])

abbrev host_names : List ObjectName
host_names = lists_below 100 (λ host. host_of host ∷ [])

abbrev row : ℕ → ℕ → List ObjectName
row host count = lists_below count (λ service. service_of host service ∷ [])

abbrev rows : ℕ → List ObjectName
rows count = lists_below count (λ host. row host 10)

abbrev group_names : List ObjectName
group_names = lists_below 10 (λ group. group_of group ∷ [])

contacts_named : names_of contact_kind all_objects ≡ contact_names
unfolding contacts hosts services groups
contacts_named =
    names_all contact_kind contact_names [] [] [] (names_each contact_kind 5 one_contact (λ contact. contact_of contact ∷ []) (λ place. refl))
    (no_names contact_kind 100 one_host (λ place. refl))
    (no_names contact_kind 100 ten_services (λ place. no_names contact_kind 10 (one_service place) (λ other. refl)))
    (no_names contact_kind 10 one_group (λ place. refl))
    ∙ append-nil ((contact_names ++ []) ++ []) ∙ append-nil (contact_names ++ []) ∙ append-nil contact_names

hosts_named : names_of host_kind all_objects ≡ host_names
unfolding contacts hosts services groups
hosts_named =
    names_all host_kind [] host_names [] [] (no_names host_kind 5 one_contact (λ place. refl))
    (names_each host_kind 100 one_host (λ host. host_of host ∷ []) (λ place. refl))
    (no_names host_kind 100 ten_services (λ place. no_names host_kind 10 (one_service place) (λ other. refl)))
    (no_names host_kind 10 one_group (λ place. refl))
    ∙ append-nil (host_names ++ []) ∙ append-nil host_names

services_named : names_of service_kind all_objects ≡ rows 100
unfolding contacts hosts services groups
services_named =
    names_all service_kind [] [] (rows 100) [] (no_names service_kind 5 one_contact (λ place. refl)) (no_names service_kind 100 one_host (λ place. refl))
    (names_each service_kind 100 ten_services (λ host. row host 10)
    (λ host. names_each service_kind 10 (one_service host) (λ service. service_of host service ∷ []) (λ place. refl)))
    (no_names service_kind 10 one_group (λ place. refl))
    ∙ append-nil (rows 100)

groups_named : names_of group_kind all_objects ≡ group_names
unfolding contacts hosts services groups
groups_named =
    names_all group_kind [] [] [] group_names (no_names group_kind 5 one_contact (λ place. refl)) (no_names group_kind 100 one_host (λ place. refl))
    (no_names group_kind 100 ten_services (λ place. no_names group_kind 10 (one_service place) (λ other. refl)))
    (names_each group_kind 10 one_group (λ group. group_of group ∷ []) (λ place. refl))

-- ---- different names

decimals_differ : (a b : ℕ) → a < 2 ^ 64 → b < 2 ^ 64 → (a ≡ b → ⊥) → bytes_eq (decimal a) (decimal b) ≡ false
decimals_differ a b small less other =
    false_from_ne_true (bytes_eq (decimal a) (decimal b))
    (λ same. other (decimal_injective a b small less ((bytes_eq-Decides (decimal a) (decimal b)).0 same)))

same_bytes : (bytes : List ℕ) → bytes_eq bytes bytes ≡ true
same_bytes bytes = (bytes_eq-Decides bytes bytes).1 refl

same_name : (name : ObjectName) → is_equal_name name name ≡ true
same_name name = and_from (bytes_eq name.first name.first) (bytes_eq name.second name.second) (same_bytes name.first) (same_bytes name.second)

none_same : (name : ObjectName) (count : ℕ) (names : ℕ → List ObjectName) → ((place : ℕ) → place < count → list_any (is_equal_name name) (names place) ≡ false)
    → list_any (is_equal_name name) (lists_below count names) ≡ false
none_same name zero names each = refl
none_same name (suc count) names each =
    list_any-append (is_equal_name name) (lists_below count names) (names count)
    ∙ or_from _ _ (none_same name count names (λ place less. each place (omega arith))) (each count (omega arith))

length-singles : (count : ℕ) (name : ℕ → ObjectName) → length (lists_below count (λ place. name place ∷ [])) ≡ count
length-singles zero name = refl
length-singles (suc count) name = length-append (lists_below count (λ place. name place ∷ [])) (name count ∷ []) ∙ omega (arith, length-singles count name)

-- one name more
fresh_more : (kind : BlockKind) (earlier names : List ObjectName) (name : ObjectName) → fresh kind earlier names ≡ true → list_any (is_equal_name name) (earlier ++ names) ≡ false
    → length (earlier ++ names) < limit kind → fresh kind earlier (names ++ name ∷ []) ≡ true
fresh_more kind earlier names name before other few =
    fresh-append kind earlier names (name ∷ [])
    ∙ and_from _ _ before
    (and_from _ _ (and_from _ _ (not_from_false _ other) (not_from_false _ (lt-leb (limit kind) (length (earlier ++ names)) few))) refl)

fresh_singles : (kind : BlockKind) (name : ℕ → ObjectName) (most count : ℕ) → most ≤ limit kind → count ≤ most
    → ((a b : ℕ) → b < a → a < most → is_equal_name (name a) (name b) ≡ false) → fresh kind [] (lists_below count (λ place. name place ∷ [])) ≡ true
fresh_singles kind name most zero within few other = refl
fresh_singles kind name most (suc count) within few other =
    fresh_more kind [] (lists_below count (λ place. name place ∷ [])) (name count) (fresh_singles kind name most count within (omega arith) other)
    (none_same (name count) count (λ place. name place ∷ []) (λ place less. or_from _ _ (other count place less (omega arith)) refl))
    (omega (arith, length-singles count name, within, few))

-- ---- services

length-rows : (count : ℕ) → length (rows count) ≡ count * 10
length-rows zero = refl
length-rows (suc count) = length-append (rows count) (row count 10) ∙ omega (arith, length-rows count, length-singles 10 (service_of count))

other_host : (host service before : ℕ) → before < host → host < 100 → (count : ℕ) → list_any (is_equal_name (service_of host service)) (row before count) ≡ false
other_host host service before less few count =
    none_same (service_of host service) count (λ other. service_of before other ∷ [])
    (λ other within. or_from _ _ (and_left _ _ (decimals_differ host before (omega arith) (omega arith) (λ is. omega (arith, is)))) refl)

fresh_row : (host count : ℕ) → host < 100 → count ≤ 10 → fresh service_kind (rows host) (row host count) ≡ true
fresh_row host zero less few = refl
fresh_row host (suc count) less few =
    fresh_more service_kind (rows host) (row host count) (service_of host count) (fresh_row host count less (omega arith))
    (list_any-append (is_equal_name (service_of host count)) (rows host) (row host count)
    ∙ or_from _ _ (none_same (service_of host count) host (λ before. row before 10) (λ before earlier. other_host host count before earlier less 10))
    (none_same (service_of host count) count (λ other. service_of host other ∷ [])
    (λ other within. or_from _ _ (and_right _ _ (decimals_differ count other (omega arith) (omega arith) (λ is. omega (arith, is)))) refl)))
    (omega (arith, length-append (rows host) (row host count), length-rows host, length-singles count (service_of host)))

fresh_rows : (count : ℕ) → count ≤ 100 → fresh service_kind [] (rows count) ≡ true
fresh_rows zero few = refl
fresh_rows (suc count) few =
    fresh-append service_kind [] (rows count) (row count 10) ∙ and_from _ _ (fresh_rows count (omega arith)) (fresh_row count 10 (omega arith) (omega arith))

-- ---- names that are there

passes : {X : Type 0} (test : X → Bool) (xs : List X) → list_any test xs ≡ true → prefix_len (λ x. not (test x)) xs < length xs
passes test [] any = absurd (true≢false (sym any))
passes test (x ∷ xs) any =
    elim (cases_Bool (test x)) [
      | inl is ↦ rw is (omega arith)
      | inr is ↦ elim (or_cases (test x) (list_any test xs) any) [
        | inl here ↦ absurd (true≢false (sym here ∙ is))
        | inr later ↦ let rest = passes test xs later in rw is (omega (arith, rest))
      ]
    ]

placed : (names : List ObjectName) (name : ObjectName) → list_any (is_equal_name name) names ≡ true → is_none (place_of names name) ≡ false
placed names name any =
    let first : ℕ = prefix_len (λ other. not (is_equal_name name other)) names in
    ap (λ found. is_none (cond found (Some first) None)) (lt-ltb first (length names) (passes (is_equal_name name) names any))

any_below : (count place : ℕ) (name : ℕ → ObjectName) → place < count → list_any (is_equal_name (name place)) (lists_below count (λ other. name other ∷ [])) ≡ true
any_below zero place name less = absurd (omega arith)
any_below (suc count) place name less =
    list_any-append (is_equal_name (name place)) (lists_below count (λ other. name other ∷ [])) (name count ∷ [])
    ∙ elim (cases_lt place count) [
      | inl earlier ↦ or_left _ _ (any_below count place name earlier)
      | inr last ↦ let same : place ≡ count = omega arith in
          or_right _ _ (or_left _ _ (ap (λ other. is_equal_name (name place) (name other)) (sym same) ∙ same_name (name place)))
    ]

-- ---- the whole

contacts_fresh : fresh contact_kind [] (names_of contact_kind all_objects) ≡ true
contacts_fresh = ap (fresh contact_kind []) contacts_named
    ∙ fresh_singles contact_kind contact_of 5 5 (omega arith) (omega arith)
    (λ a b less few. and_left _ _ (decimals_differ a b (omega arith) (omega arith) (λ is. omega (arith, is))))

hosts_fresh : fresh host_kind [] (names_of host_kind all_objects) ≡ true
hosts_fresh = ap (fresh host_kind []) hosts_named
    ∙ fresh_singles host_kind host_of 100 100 (omega arith) (omega arith)
    (λ a b less few. and_left _ _ (decimals_differ a b (omega arith) (omega arith) (λ is. omega (arith, is))))

services_fresh : fresh service_kind [] (names_of service_kind all_objects) ≡ true
services_fresh = ap (fresh service_kind []) services_named ∙ fresh_rows 100 (omega arith)

groups_fresh : fresh group_kind [] (names_of group_kind all_objects) ≡ true
groups_fresh = ap (fresh group_kind []) groups_named
    ∙ fresh_singles group_kind group_of 10 10 (omega arith) (omega arith)
    (λ a b less few. and_left _ _ (decimals_differ a b (omega arith) (omega arith) (λ is. omega (arith, is))))

all_fresh : (kind : BlockKind) → IsUsed kind → fresh kind [] (names_of kind all_objects) ≡ true
all_fresh kind (inl is) = ap (λ k. fresh k [] (names_of k all_objects)) is ∙ contacts_fresh
all_fresh kind (inr (inl is)) = ap (λ k. fresh k [] (names_of k all_objects)) is ∙ hosts_fresh
all_fresh kind (inr (inr (inl is))) = ap (λ k. fresh k [] (names_of k all_objects)) is ∙ services_fresh
all_fresh kind (inr (inr (inr is))) = ap (λ k. fresh k [] (names_of k all_objects)) is ∙ groups_fresh

all_there : HasNames (λ kind. names_of kind all_objects)
all_there = record {
  contacts = λ contact less. placed (names_of contact_kind all_objects) (contact_of contact)
      (ap (list_any (is_equal_name (contact_of contact))) contacts_named ∙ any_below 5 contact contact_of less);
  hosts = λ host less. placed (names_of host_kind all_objects) (host_of host)
      (ap (list_any (is_equal_name (host_of host))) hosts_named ∙ any_below 100 host host_of less);
}

pub objects_accepted : (number : ℕ) (rules : Rules) → IsOk (base_of (objects_text number) rules)
objects_accepted number rules = base_accepted (objects_text number) rules (file_faultless (objects_text number) all_objects (says_all number) all_fresh all_there)

pub accepted : (number : ℕ) → IsAccepted number
accepted number = record { objects = objects_accepted number; log = log_accepted number }
