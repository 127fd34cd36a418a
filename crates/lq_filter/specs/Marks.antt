-- Marks of rows: which of them are still in question while tests are made one after the other.
use Rattle.std.specs.Prelude.{◌≡◌, ◌&&◌, ◌<◌, ◌≤◌, ℕ, Bool, false, List, length, slice_index_or}

-- a row keeps its mark where it is chosen, and no other row is marked
pub record AreKept {R : Type 0} (chosen : R → Bool) (rows : List R) (old new : List Bool)
    : Type 0 where
  pub each : (place : ℕ) (row : R) → place < length rows →
      slice_index_or new place false
      ≡ (slice_index_or old place false && chosen (slice_index_or rows place row))

-- the rows before a place have been looked at, and those after it haven't
pub record AreKeptBefore {R : Type 0} (chosen : R → Bool) (rows : List R) (old new : List Bool)
    (end : ℕ) : Type 0 where
  pub done : (place : ℕ) (row : R) → place < end →
      slice_index_or new place false
      ≡ (slice_index_or old place false && chosen (slice_index_or rows place row))
  pub left : (place : ℕ) → end ≤ place →
      slice_index_or new place false ≡ slice_index_or old place false

-- the rows from a place on have been looked at, before another place
pub record AreKeptBetween {R : Type 0} (chosen : R → Bool) (rows : List R) (old new : List Bool)
    (start end : ℕ) : Type 0 where
  pub before : (place : ℕ) → place < start →
      slice_index_or new place false ≡ slice_index_or old place false
  pub done : (place : ℕ) (row : R) → start ≤ place → place < end →
      slice_index_or new place false
      ≡ (slice_index_or old place false && chosen (slice_index_or rows place row))
  pub left : (place : ℕ) → end ≤ place →
      slice_index_or new place false ≡ slice_index_or old place false
