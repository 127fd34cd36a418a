-- Pieces that are joined to those after them.
use Rattle.std.proofs.Common.{◌≡◌, ℕ, zero, suc, ◌+◌, ◌-◌, ◌<◌, ◌≤◌, Bool, true, false, List, [], ◌∷◌, length, map, refl, sym, ap, ◌∙◌, arith, if◌then◌else◌}
use Rattle.std.specs.List.{range_with_len}
use Rattle.lq_statehist.specs.Facts.{Known}
use Rattle.lq_statehist.specs.Pass.{IsKnownThroughout}
use Rattle.lq_statehist.specs.Tiling.{HistoryPiece, all_joined, with_piece_before, pieces_between, same_facts, second_piece}
use Rattle.lq_statehist.proofs.FactLemmas.{facts_decide, same_self}

module _ (piece next third : HistoryPiece) (later : List HistoryPiece) where
  twice : (is : Bool) → same_facts next.known.facts third.known.facts ≡ is → same_facts piece.known.facts next.known.facts ≡ true
      → with_piece_before piece (with_piece_before next (third ∷ later)) ≡ with_piece_before (record piece { until = next.until }) (third ∷ later)
  twice true is same =
      let so : same_facts piece.known.facts third.known.facts ≡ true = ap (λ facts. same_facts facts third.known.facts) ((facts_decide _ _).0 same) ∙ is in
      rw (is, same, so) refl
  twice false is same =
      let so : same_facts piece.known.facts third.known.facts ≡ false = ap (λ facts. same_facts facts third.known.facts) ((facts_decide _ _).0 same) ∙ is in
      rw (is, same, so) refl

  apart : (is : Bool) → same_facts next.known.facts third.known.facts ≡ is → same_facts piece.known.facts next.known.facts ≡ false
      → with_piece_before piece (with_piece_before next (third ∷ later)) ≡ piece ∷ with_piece_before next (third ∷ later)
  apart true is same = rw (is, same) refl
  apart false is same = rw (is, same) refl

-- a piece that is one with the next
pub joined_twice : (piece next : HistoryPiece) (later : List HistoryPiece) → same_facts piece.known.facts next.known.facts ≡ true
    → with_piece_before piece (with_piece_before next later) ≡ with_piece_before (record piece { until = next.until }) later
joined_twice piece next [] same = rw same refl
joined_twice piece next (third ∷ later) same = twice piece next third later (same_facts next.known.facts third.known.facts) refl same

-- a piece that differs from the next
pub joined_apart : (piece next : HistoryPiece) (later : List HistoryPiece) → same_facts piece.known.facts next.known.facts ≡ false
    → with_piece_before piece (with_piece_before next later) ≡ piece ∷ with_piece_before next later
joined_apart piece next [] same = rw same refl
joined_apart piece next (third ∷ later) same = apart piece next third later (same_facts next.known.facts third.known.facts) refl same

some_length : (is : Bool) (piece next : HistoryPiece) (later : List HistoryPiece) → 0 < length (if is then record piece { until = next.until } ∷ later else piece ∷ next ∷ later)
some_length true piece next later = omega arith
some_length false piece next later = omega arith

pub joined_some : (piece : HistoryPiece) (later : List HistoryPiece) → 0 < length (with_piece_before piece later)
joined_some piece [] = omega arith
joined_some piece (next ∷ later) = some_length (same_facts piece.known.facts next.known.facts) piece next later

-- ---- seconds

pub pieces_next : (at : ℕ → Known) (from until : ℕ) → from < until → pieces_between at from until ≡ with_piece_before (second_piece at from) (pieces_between at (from + 1) until)
pieces_next at from until more =
    let left : until - from ≡ suc (until - (from + 1)) = omega (arith, more) in
    ap (λ count. all_joined (map (second_piece at) (range_with_len from count))) left

pub no_pieces : (at : ℕ → Known) (from until : ℕ) → until ≤ from → pieces_between at from until ≡ []
no_pieces at from until none =
    let left : until - from ≡ zero = omega (arith, none) in
    ap (λ count. all_joined (map (second_piece at) (range_with_len from count))) left

-- seconds at which one thing is known are one piece before the rest
stretch : (at : ℕ → Known) (known : Known) (more from to until : ℕ) → to ≡ from + (more + 1) → to ≤ until → IsKnownThroughout at known from to
    → pieces_between at from until ≡ with_piece_before (record { from = from; until = to; known = known }) (pieces_between at to until)
stretch at known zero from to until is within held =
    let first : at from ≡ known = held from (omega arith) (omega (arith, is)) in
    let end : from + 1 ≡ to = omega (arith, is) in
    pieces_next at from until (omega (arith, is, within))
    ∙ ap (λ value. with_piece_before (record { from = from; until = from + 1; known = value }) (pieces_between at (from + 1) until)) first
    ∙ ap (λ second. with_piece_before (record { from = from; until = second; known = known }) (pieces_between at second until)) end
stretch at known (suc more) from to until is within held =
    let first : at from ≡ known = held from (omega arith) (omega (arith, is)) in
    pieces_next at from until (omega (arith, is, within))
    ∙ ap (with_piece_before (second_piece at from)) (stretch at known more (from + 1) to until (omega (arith, is)) within (λ second after before. held second (omega (arith, after)) before))
    ∙ joined_twice (second_piece at from) (record { from = from + 1; until = to; known = known }) (pieces_between at to until)
    (ap (λ value. same_facts value.facts known.facts) first ∙ same_self known.facts)
    ∙ ap (λ value. with_piece_before (record { from = from; until = to; known = value }) (pieces_between at to until)) first

pub stretch_to : (at : ℕ → Known) (known : Known) (from to until : ℕ) → from < to → to ≤ until → IsKnownThroughout at known from to
    → pieces_between at from until ≡ with_piece_before (record { from = from; until = to; known = known }) (pieces_between at to until)
stretch_to at known from to until some within held =
    stretch at known (to - (from + 1)) from to until (omega (arith, some)) within held

-- what is known at each second is all that pieces are made of
pieces_alike : (at other : ℕ → Known) (count from until : ℕ) → until - from ≡ count → ((second : ℕ) → from ≤ second → second < until → at second ≡ other second)
    → pieces_between at from until ≡ pieces_between other from until
pieces_alike at other zero from until left alike = no_pieces at from until (omega (arith, left)) ∙ sym (no_pieces other from until (omega (arith, left)))
pieces_alike at other (suc count) from until left alike =
    let some : from < until = omega (arith, left) in
    pieces_next at from until some
    ∙ ap (λ value. with_piece_before (record { from = from; until = from + 1; known = value }) (pieces_between at (from + 1) until)) (alike from (omega arith) some)
    ∙ ap (with_piece_before (second_piece other from)) (pieces_alike at other count (from + 1) until (omega (arith, left)) (λ second after before. alike second (omega (arith, after)) before))
    ∙ sym (pieces_next other from until some)

pub same_pieces : (at other : ℕ → Known) (from until : ℕ) → ((second : ℕ) → from ≤ second → second < until → at second ≡ other second)
    → pieces_between at from until ≡ pieces_between other from until
same_pieces at other from until alike = pieces_alike at other (until - from) from until refl alike
