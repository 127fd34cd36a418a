-- An interval of seconds cut into pieces, on each of which one thing is known.
use Rattle.std.specs.Prelude.{◌≡◌, ◌≢◌, ℕ, ◌<◌, ◌≤◌, ◌+◌, ◌-◌, ◌&&◌, not, Bool, List, [], ◌∷◌, map}
use Rattle.std.specs.Prelude.{bytes_eq, if◌then◌else◌}
use Rattle.std.specs.List.{range_with_len}
use Rattle.std.specs.Ordering.{int_eq}
use Rattle.lq_statehist.specs.Facts.{Facts, Known}

-- the seconds from one up to before another, and what is known at the first of them
pub record HistoryPiece : Type 0 where
  pub from : ℕ
  pub until : ℕ
  pub known : Known

-- ---- which pieces are a history

-- pieces that follow one another, none of no length, from the first second up to before the last
abbrev pub Tiles : ℕ → ℕ → List HistoryPiece → Type 0
Tiles from until [] = from ≡ until
Tiles from until (piece ∷ pieces) =
    (piece.from ≡ from) × (piece.from < piece.until) × Tiles piece.until until pieces

-- at each second of a piece the same is told, and the piece carries what is known at its first
pub record IsConstant (known : ℕ → Known) (piece : HistoryPiece) : Type 0 where
  pub first : piece.known ≡ known piece.from
  pub each : (second : ℕ) → piece.from ≤ second → second < piece.until
      → (known second).facts ≡ piece.known.facts

abbrev pub AreConstant : (ℕ → Known) → List HistoryPiece → Type 0
AreConstant known [] = Unit {0}
AreConstant known (piece ∷ pieces) = IsConstant known piece × AreConstant known pieces

-- no two neighbours tell the same
abbrev pub NeighboursDiffer : List HistoryPiece → Type 0
NeighboursDiffer [] = Unit {0}
NeighboursDiffer (piece ∷ []) = Unit {0}
NeighboursDiffer (piece ∷ next ∷ pieces) =
    (piece.known.facts ≢ next.known.facts) × NeighboursDiffer (next ∷ pieces)

pub record IsHistory (known : ℕ → Known) (from until : ℕ) (pieces : List HistoryPiece) : Type 0
  where
    pub tiles : Tiles from until pieces
    pub constant : AreConstant known pieces
    pub differ : NeighboursDiffer pieces

-- ---- the history

abbrev pub is_same_flag : Bool → Bool → Bool
is_same_flag a b = if a then b else not b

abbrev pub same_facts : Facts → Facts → Bool
same_facts a b =
    int_eq a.state b.state && bytes_eq a.output b.output && is_same_flag a.host_down b.host_down
    && is_same_flag a.in_downtime b.in_downtime
    && is_same_flag a.in_host_downtime b.in_host_downtime
    && is_same_flag a.is_flapping b.is_flapping && is_same_flag a.in_period b.in_period

abbrev pub second_piece : (ℕ → Known) → ℕ → HistoryPiece
second_piece known second =
    record { from = second; until = second + 1; known = known second }

-- a piece before others; it is one with the first of them where both tell the same
abbrev pub with_piece_before : HistoryPiece → List HistoryPiece → List HistoryPiece
with_piece_before piece [] = piece ∷ []
with_piece_before piece (next ∷ pieces) =
    if same_facts piece.known.facts next.known.facts
    then record piece { until = next.until } ∷ pieces
    else piece ∷ next ∷ pieces

abbrev pub all_joined : List HistoryPiece → List HistoryPiece
all_joined [] = []
all_joined (piece ∷ pieces) = with_piece_before piece (all_joined pieces)

-- each second is a piece, and neighbours that tell the same are one
abbrev pub pieces_between : (ℕ → Known) → ℕ → ℕ → List HistoryPiece
pieces_between known from until =
    all_joined (map (second_piece known) (range_with_len from (until - from)))

-- these pieces are a history, and no others are
abbrev pub IsOnlyHistory : Type 0
IsOnlyHistory = (known : ℕ → Known) (from until : ℕ) → from ≤ until
    → IsHistory known from until (pieces_between known from until)
    × ((others : List HistoryPiece) → IsHistory known from until others
    → others ≡ pieces_between known from until)
