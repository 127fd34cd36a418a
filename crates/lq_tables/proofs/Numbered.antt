-- A walk over items, each with its place before it.
use Rattle.std.proofs.Common.{◌≡◌, ℕ, ◌+◌, Some, List, ◌++◌, drop, sym, ap, ◌∙◌, append_assoc, slice_get}
use Rattle.std.specs.List.{enumerate_from, flat_map}
use Rattle.lq_tables.proofs.Entries.{from_place}

-- what the item at a place gives stands before what those after it give
pub numbered_next : {A B : Type 0} (f : ℕ × A → List B) (before after whole : List B) (items : List A) (i : ℕ) (item : A)
    → slice_get items i ≡ Some item → after ≡ before ++ f (i, item)
    → before ++ flat_map f (enumerate_from i (drop i items)) ≡ whole → after ++ flat_map f (enumerate_from (i + 1) (drop (i + 1) items)) ≡ whole
numbered_next f before after whole items i item at step is =
    ap (λ front. front ++ flat_map f (enumerate_from (i + 1) (drop (i + 1) items))) step
    ∙ append_assoc before (f (i, item)) (flat_map f (enumerate_from (i + 1) (drop (i + 1) items)))
    ∙ sym (ap (λ list. before ++ flat_map f (enumerate_from i list)) (from_place items i item at)) ∙ is
