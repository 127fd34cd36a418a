-- Which items an owner has: of a host, its services.
use Rattle.std.specs.Prelude.{◌≡◌, ℕ, ◌==◌, List, length, filter}
use Rattle.std.specs.List.{range_with_len}
use Rattle.lq_records.specs.Places.{holds_at, list_at}

-- the places of the items that an owner has, in order
abbrev pub owned_places : {A : Type 0} → (A → ℕ) → List A → ℕ → List ℕ
owned_places owner_of items owner =
    filter (holds_at (λ item. owner_of item == owner) items) (range_with_len 0 (length items))

-- the places that lists have for an owner, none after the last list
abbrev pub places_at : List (List ℕ) → ℕ → List ℕ
places_at lists owner = list_at (λ places. places) lists owner

-- the lists of places of all owners of some items
abbrev pub AreOwned : {A : Type 0} → (A → ℕ) → List A → List (List ℕ) → Type 0
AreOwned owner_of items lists =
    (owner : ℕ) → places_at lists owner ≡ owned_places owner_of items owner
