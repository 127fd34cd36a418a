-- What stands at the places of lists. The ids of a sound base are places in its lists, so each of
-- them names something.
use Rattle.std.specs.Prelude.{ℕ, Bool, false, Option, List, []}
use Rattle.std.specs.List.{filter_map, slice_get}
use Rattle.std.specs.Option.{option_and_then, option_map, option_map_or}

-- ---- at one place

-- whether the item at a place passes a test
abbrev pub holds_at : {A : Type 0} → (A → Bool) → List A → ℕ → Bool
holds_at test items place = option_map_or test (slice_get items place) false

-- the list or the text that the item at a place has
abbrev pub list_at : {A B : Type 0} → (A → List B) → List A → ℕ → List B
list_at list_of items place = option_map_or list_of (slice_get items place) []

-- the number that the item at a place has
abbrev pub number_at : {A : Type 0} → (A → ℕ) → List A → ℕ → ℕ
number_at number_of items place = option_map_or number_of (slice_get items place) 0

-- what the item at a place has
abbrev pub field_at : {A B : Type 0} → (A → B) → List A → ℕ → Option B
field_at field items place = option_map field (slice_get items place)

-- what is found by the item at a place
abbrev pub found_at : {A B : Type 0} → (A → Option B) → List A → ℕ → Option B
found_at find items place = option_and_then find (slice_get items place)

-- what is made of the items that two lists have at a place
abbrev pub made_at : {A B C : Type 0} → (A → B → C) → List A → List B → ℕ → Option C
made_at make items others place =
    option_and_then (λ item. option_map (make item) (slice_get others place))
    (slice_get items place)

-- ---- at several places, in their order

-- the items at the places of ids
abbrev pub items_at : {A I : Type 0} → List A → (I → ℕ) → List I → List A
items_at items place_of ids = filter_map (λ id. slice_get items (place_of id)) ids

-- what the items at the places of ids have
abbrev pub fields_at : {A B I : Type 0} → (A → B) → List A → (I → ℕ) → List I → List B
fields_at field items place_of ids = filter_map (λ id. field_at field items (place_of id)) ids

-- what is found by the items at the places of ids
abbrev pub all_found_at : {A B I : Type 0} → (A → Option B) → List A → (I → ℕ) → List I → List B
all_found_at find items place_of ids = filter_map (λ id. found_at find items (place_of id)) ids
