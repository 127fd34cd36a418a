-- The joined seconds are a history, and the only one.
use Rattle.std.proofs.Common.{◌≡◌, ◌≢◌, ◌⊎◌, true≢false, inl, inr, ℕ, zero, suc, ◌+◌, ◌-◌, ◌<◌, ◌≤◌, Bool, true, false, List, [], ◌∷◌, refl, sym, ap, subst, ◌∙◌, arith}
use Rattle.std.proofs.lemmas.Bool.{cases_order}
use Rattle.lq_statehist.specs.Facts.{Known}
use Rattle.lq_statehist.specs.Tiling.{IsConstant, IsHistory, IsOnlyHistory, NeighboursDiffer, HistoryPiece, Tiles, with_piece_before, pieces_between, same_facts, second_piece}
use Rattle.lq_statehist.proofs.FactLemmas.{facts_decide}
use Rattle.lq_statehist.proofs.JoinLemmas.{no_pieces, pieces_next}

-- ---- it is a history

tail_differs : (piece : HistoryPiece) (pieces : List HistoryPiece) → NeighboursDiffer (piece ∷ pieces) → NeighboursDiffer pieces
tail_differs piece [] differ = differ
tail_differs piece (next ∷ pieces) differ = differ.1

-- neighbours are compared by what they tell
head_differs : (piece other : HistoryPiece) (pieces : List HistoryPiece) → piece.known.facts ≡ other.known.facts → NeighboursDiffer (piece ∷ pieces) → NeighboursDiffer (other ∷ pieces)
head_differs piece other [] same differ = differ
head_differs piece other (next ∷ pieces) same differ = (λ alike. differ.0 (same ∙ alike), differ.1)

one_second : (at : ℕ → Known) (from : ℕ) → IsConstant at (second_piece at from)
one_second at from = record {
  first = refl;
  each = λ second after before. ap (λ n. (at n).facts) (omega (arith, after, before));
}

module _ (at : ℕ → Known) (from until : ℕ) (next : HistoryPiece) (pieces : List HistoryPiece) (is : IsHistory at (from + 1) until (next ∷ pieces)) where
  starts : next.from ≡ from + 1
  starts = is.tiles.0

  grown : (at from).facts ≡ next.known.facts → IsHistory at from until (record (second_piece at from) { until = next.until } ∷ pieces)
  grown same = record {
    tiles = (refl, omega (arith, starts, is.tiles.1), is.tiles.2);
    constant = (
      record {
        first = refl;
        each = λ second after before. either second before (cases_order from second) after;
      },
      is.constant.1,
    );
    differ = head_differs next (record (second_piece at from) { until = next.until }) pieces (sym same) is.differ;
  }
    where
      either : (second : ℕ) → second < next.until → (from ≡ second) ⊎ ((from < second) ⊎ (second < from)) → from ≤ second → (at second).facts ≡ (at from).facts
      either second before (inl here) after = ap (λ n. (at n).facts) (sym here)
      either second before (inr (inl later)) after = is.constant.0.each second (omega (arith, starts, later)) before ∙ sym same
      either second before (inr (inr earlier)) after = absurd (omega (arith, earlier, after))

  put : (at from).facts ≢ next.known.facts → IsHistory at from until (second_piece at from ∷ next ∷ pieces)
  put differs = record {
    tiles = (refl, omega arith, is.tiles);
    constant = (one_second at from, is.constant);
    differ = (differs, is.differ);
  }

with_next : (at : ℕ → Known) (from until : ℕ) (next : HistoryPiece) (pieces : List HistoryPiece) (same : Bool) → same_facts (at from).facts next.known.facts ≡ same
    → IsHistory at (from + 1) until (next ∷ pieces) → IsHistory at from until (with_piece_before (second_piece at from) (next ∷ pieces))
with_next at from until next pieces true same is =
    rw same (grown at from until next pieces is ((facts_decide _ _).0 same))
with_next at from until next pieces false same is =
    rw same (put at from until next pieces is (λ alike. absurd (true≢false (sym ((facts_decide _ _).1 alike) ∙ same))))

with_second : (at : ℕ → Known) (from until : ℕ) (pieces : List HistoryPiece) → IsHistory at (from + 1) until pieces → IsHistory at from until (with_piece_before (second_piece at from) pieces)
with_second at from until [] is = record {
  tiles = (refl, omega arith, is.tiles);
  constant = (one_second at from, is.constant);
  differ = is.differ;
}
with_second at from until (next ∷ pieces) is = with_next at from until next pieces (same_facts (at from).facts next.known.facts) refl is

history_from : (at : ℕ → Known) (count from until : ℕ) → until ≡ from + count → IsHistory at from until (pieces_between at from until)
history_from at zero from until is =
    subst (IsHistory at from until) (sym (no_pieces at from until (omega (arith, is))))
    (record { tiles = omega (arith, is); constant = tt; differ = tt })
history_from at (suc count) from until is =
    subst (IsHistory at from until) (sym (pieces_next at from until (omega (arith, is))))
    (with_second at from until (pieces_between at (from + 1) until) (history_from at count (from + 1) until (omega (arith, is))))

-- ---- no others are one

tiles_later : (from until : ℕ) (pieces : List HistoryPiece) → Tiles from until pieces → from ≤ until
tiles_later from until [] tiles = omega (arith, tiles)
tiles_later from until (piece ∷ pieces) tiles = omega (arith, tiles.0, tiles.1, tiles_later piece.until until pieces tiles.2)

tail_is : (at : ℕ → Known) (from until : ℕ) (piece : HistoryPiece) (pieces : List HistoryPiece) → IsHistory at from until (piece ∷ pieces) → IsHistory at piece.until until pieces
tail_is at from until piece pieces is = record {
  tiles = is.tiles.2;
  constant = is.constant.1;
  differ = tail_differs piece pieces is.differ;
}

-- a piece doesn't end where one that begins with it goes on
too_short : (at : ℕ → Known) (from until : ℕ) (piece other : HistoryPiece) (pieces others : List HistoryPiece) → IsHistory at from until (piece ∷ pieces)
    → IsHistory at from until (other ∷ others) → piece.until < other.until → ⊥
too_short at from until piece other [] others is others_is shorter =
    omega (arith, is.tiles.2, shorter, tiles_later other.until until others others_is.tiles.2)
too_short at from until piece other (next ∷ pieces) others is others_is shorter =
    is.differ.0 (
    ap (λ known. known.facts) (is.constant.0.first ∙ ap at (is.tiles.0 ∙ sym others_is.tiles.0) ∙ sym others_is.constant.0.first)
    ∙ sym (others_is.constant.0.each piece.until (omega (arith, others_is.tiles.0, is.tiles.0, is.tiles.1)) shorter)
    ∙ ap (λ second. (at second).facts) (sym is.tiles.2.0)
    ∙ ap (λ known. known.facts) (sym is.constant.1.0.first))

piece_same : (a b c d : ℕ) (known other : Known) → a ≡ c → b ≡ d → known ≡ other
    → ◌≡◌ {A = HistoryPiece} (record { from = a; until = b; known = known }) (record { from = c; until = d; known = other })
piece_same a b c d known other from until same = rw (from, until, same) refl

unique : (at : ℕ → Known) (from until : ℕ) (pieces others : List HistoryPiece) → IsHistory at from until pieces → IsHistory at from until others → others ≡ pieces
unique at from until [] [] is others_is = refl
unique at from until [] (other ∷ others) is others_is =
    absurd (omega (arith, is.tiles, others_is.tiles.0, others_is.tiles.1, tiles_later other.until until others others_is.tiles.2))
unique at from until (piece ∷ pieces) [] is others_is =
    absurd (omega (arith, others_is.tiles, is.tiles.0, is.tiles.1, tiles_later piece.until until pieces is.tiles.2))
unique at from until (piece ∷ pieces) (other ∷ others) is others_is =
    by (cases_order piece.until other.until) (λ end. unique at piece.until until pieces others (tail_is at from until piece pieces is)
    (subst (λ second. IsHistory at second until others) (sym end) (tail_is at from until other others others_is)))
  where
    by : (piece.until ≡ other.until) ⊎ ((piece.until < other.until) ⊎ (other.until < piece.until)) → (piece.until ≡ other.until → others ≡ pieces) → other ∷ others ≡ piece ∷ pieces
    by (inl end) later =
        ap (λ first. first ∷ others) (piece_same other.from other.until piece.from piece.until other.known piece.known (others_is.tiles.0 ∙ sym is.tiles.0) (sym end)
        (others_is.constant.0.first ∙ ap at (others_is.tiles.0 ∙ sym is.tiles.0) ∙ sym is.constant.0.first))
        ∙ ap (λ rest. piece ∷ rest) (later end)
    by (inr (inl shorter)) later = absurd (too_short at from until piece other pieces others is others_is shorter)
    by (inr (inr longer)) later = absurd (too_short at from until other piece others pieces others_is is longer)

pub only_history : IsOnlyHistory
only_history at from until some = (
  history_from at (until - from) from until (omega (arith, some)),
  λ others is. unique at from until (pieces_between at from until) others (history_from at (until - from) from until (omega (arith, some))) is,
)
