-- Lists of places, made one place after the other.
use Rattle.std.proofs.Common.{◌≡◌, ℕ, ◌+◌, ◌<◌, ◌==◌, false, List, [], ◌∷◌, ◌++◌, length, filter, cond, get_or, sym, ap, ◌∙◌, arith}
use Rattle.std.specs.List.{range_with_len}
use Rattle.std.specs.Option.{option_map_or}
use Rattle.std.specs.Prelude.{if◌then◌else◌}
use Rattle.std.proofs.lemmas.List.{map-id}
use Rattle.std.proofs.lemmas.List.FromFn.{filter_of_map_range_with_len_more}
use Rattle.std.proofs.lemmas.Option.{slice_get-get_or}
use Rattle.lq_records.specs.Owned.{places_at}
use Rattle.lq_records.specs.Places.{holds_at}

abbrev owned_before : {A : Type 0} → (A → ℕ) → List A → ℕ → ℕ → List ℕ
owned_before owner_of items count owner = filter (holds_at (λ item. owner_of item == owner) items) (range_with_len 0 count)

-- the lists of the places before one and that one are those of the places before it, with the place at its owner's
pub one_place_more : {A : Type 0} (owner_of : A → ℕ) (items : List A) (place : ℕ) (d : A) (before after : List (List ℕ)) → place < length items
    → ((other : ℕ) → places_at before other ≡ owned_before owner_of items place other)
    → ((other : ℕ) → places_at after other ≡ places_at before other ++ (if owner_of (get_or items place d) == other then place ∷ [] else []))
    → (other : ℕ) → places_at after other ≡ owned_before owner_of items (place + 1) other
one_place_more owner_of items place d before after within so_far added other =
    let test = holds_at (λ item. owner_of item == other) items in
    let here : test place ≡ (owner_of (get_or items place d) == other) = ap (λ found. option_map_or (λ item. owner_of item == other) found false) (slice_get-get_or items place d within) in
    added other
    ∙ ap (λ places. places ++ (if owner_of (get_or items place d) == other then place ∷ [] else [])) (so_far other)
    ∙ ap (λ b. owned_before owner_of items place other ++ cond b (place ∷ []) []) (sym here)
    ∙ ap (λ places. filter test places ++ cond (test place) (place ∷ []) []) (sym (map-id (range_with_len 0 place)))
    ∙ sym (filter_of_map_range_with_len_more test (λ n. n) 0 place place (omega arith))
    ∙ ap (filter test) (map-id (range_with_len 0 (place + 1)))
