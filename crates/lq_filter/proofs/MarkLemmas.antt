-- Marks of rows after one row, one test or one tree more.
use Rattle.std.proofs.Common.{◌≡◌, ℕ, zero, suc, ◌+◌, ◌-◌, ◌<◌, ◌≤◌, ◌||◌, ◌&&◌, Bool, true, false, not, List, [], ◌∷◌, length, take, drop, get_or, map, set, refl, sym, ap, ◌∙◌, arith}
use Rattle.std.proofs.Math.Logic.{⊎_elim}
use Rattle.std.proofs.lemmas.Bool.{cases_lt}
use Rattle.std.proofs.lemmas.List.{get_or-map, get_or-set_other, get_or-set_same, get_or_default, length-map, nil_from_length, same_lists}
use Rattle.lq_filter.specs.Linked.{IsTree, SizedHeader, truths_before}
use Rattle.lq_filter.specs.Marks.{AreKept, AreKeptBefore, AreKeptBetween}
use Rattle.lq_filter.specs.Trees.{some_or_all}
use Rattle.lq_filter.specs.declared.read.Test.{Test}

-- ---- one test after another

both : (old first second : Bool) → ((old && first) && second) ≡ (old && (first && second))
both true first second = refl
both false first second = refl

-- the second is asked where the first doesn't hold
either : (old first second : Bool) → ((old && first) || ((old && not (old && first)) && second)) ≡ (old && (first || second))
either false first second = refl
either true true second = refl
either true false second = refl

module _ {R : Type 0} (chosen : R → Bool) (rows : List R) where
  pub kept_same : (same : R → Bool) (old new : List Bool) → ((row : R) → chosen row ≡ same row) → AreKept chosen rows old new → AreKept same rows old new
  kept_same same old new is kept = record {
    each = λ place row below. rw (← is (get_or rows place row)) (kept.each place row below);
  }

  kept_and : (later : R → Bool) (old first new : List Bool) → AreKept chosen rows old first → AreKept later rows first new → AreKept (λ row. chosen row && later row) rows old new
  kept_and later old first new before beyond = record {
    each = λ place row below. rw (beyond.each place row below, before.each place row below) (both (get_or old place false) (chosen (get_or rows place row)) (later (get_or rows place row)));
  }

  kept_or : (later : R → Bool) (old first left met new : List Bool) → length first ≡ length rows → AreKept chosen rows old first → AreKept not first old left → AreKept later rows left met
      → ((place : ℕ) → get_or new place false ≡ (get_or first place false || get_or met place false)) → AreKept (λ row. chosen row || later row) rows old new
  kept_or later old first left met new long before rest beyond is = record {
    each = λ place row below. rw (is place, beyond.each place row below, rest.each place false (omega arith), before.each place row below) (either (get_or old place false) (chosen (get_or rows place row)) (later (get_or rows place row)));
  }

  mark_at : (old new : List Bool) → length new ≡ length rows → ((place : ℕ) → place < length rows → get_or old place false ≡ true) → AreKept chosen rows old new
      → R → (place : ℕ) (mark : Bool) → place < length new → get_or new place mark ≡ get_or (map chosen rows) place mark
  mark_at old new long all kept row place mark below =
      get_or_default new place mark false below
      ∙ kept.each place row (omega arith)
      ∙ ap (λ marked. marked && chosen (get_or rows place row)) (all place (omega arith))
      ∙ sym (get_or-map chosen rows place row mark (omega arith))

-- one row more has been looked at
pub kept_next : {R : Type 0} (chosen : R → Bool) (rows : List R) (old mid : List Bool) (start place : ℕ) (met : Bool) → AreKeptBetween chosen rows old mid start place
    → start ≤ place → place < length mid → get_or mid place false ≡ true → ((row : R) → met ≡ chosen (get_or rows place row))
    → AreKeptBetween chosen rows old (set mid place met) start (place + 1)
kept_next chosen rows old mid start place met kept beyond within marked is = record {
  before = λ k below. get_or-set_other mid place k met false (λ same. omega arith) ∙ kept.before k below;
  done = λ k row least below. ⊎_elim
      (λ (earlier : k < place). get_or-set_other mid place k met false (λ same. omega arith) ∙ kept.done k row least earlier)
      (λ (here : place ≤ k).
      let same : k ≡ place = omega arith in
      rw (same) (get_or-set_same mid place met false within ∙ is row ∙ ap (λ mark. mark && chosen (get_or rows place row)) (sym marked ∙ kept.left place (omega arith))))
      (cases_lt k place);
  left = λ k least. get_or-set_other mid place k met false (λ same. omega arith) ∙ kept.left k (omega arith);
}

-- the first rows have been looked at, and then the others
pub kept_both : {R : Type 0} (chosen : R → Bool) (rows : List R) (old first new : List Bool) (end : ℕ) → AreKeptBefore chosen rows old first end
    → AreKeptBetween chosen rows first new end (length rows) → AreKept chosen rows old new
kept_both chosen rows old first new end front back = record {
  each = λ place row below. ⊎_elim
      (λ (before : place < end). back.before place before ∙ front.done place row before)
      (λ (beyond : end ≤ place). back.done place row beyond below ∙ ap (λ mark. mark && chosen (get_or rows place row)) (front.left place beyond))
      (cases_lt place end);
}

-- where all rows were marked, the marks say which are chosen
pub marks_of_all : {R : Type 0} (chosen : R → Bool) (rows : List R) (old new : List Bool) → length new ≡ length rows → ((place : ℕ) → place < length rows → get_or old place false ≡ true)
    → AreKept chosen rows old new → new ≡ map chosen rows
marks_of_all chosen [] old new long all kept = nil_from_length new long
marks_of_all chosen (row ∷ rows) old new long all kept =
    same_lists new (map chosen (row ∷ rows)) (omega (arith, length-map (row ∷ rows) chosen)) (mark_at chosen (row ∷ rows) old new long all kept row)

-- ---- joining one tree more

and_comm : (first second : Bool) → (first && second) ≡ (second && first)
and_comm true true = refl
and_comm true false = refl
and_comm false true = refl
and_comm false false = refl

or_comm : (first second : Bool) → (first || second) ≡ (second || first)
or_comm true true = refl
or_comm true false = refl
or_comm false true = refl
or_comm false false = refl

first_and_others : (trees : List Bool) (count : ℕ) → 0 < count → 0 < length trees → take count trees ≡ get_or trees 0 false ∷ take (count - 1) (drop 1 trees)
first_and_others trees zero some long = absurd (omega arith)
first_and_others [] (suc count) some long = absurd (omega arith)
first_and_others (first ∷ trees) (suc count) some long =
    let earlier : suc count - 1 ≡ count = omega arith in
    rw earlier refl

module _ (trees rest : List Bool) (count : ℕ) (some : 0 < count) (long : 0 < length trees) (left : drop 1 trees ≡ rest) where
  taken : take count trees ≡ get_or trees 0 false ∷ take (count - 1) rest
  taken = rw (← left) (first_and_others trees count some long)

  all_more : (some_or_all false (take (count - 1) rest) && get_or trees 0 false) ≡ some_or_all false (take count trees)
  all_more = rw taken (and_comm (some_or_all false (take (count - 1) rest)) (get_or trees 0 false))

  any_more : (some_or_all true (take (count - 1) rest) || get_or trees 0 false) ≡ some_or_all true (take count trees)
  any_more = rw taken (or_comm (some_or_all true (take (count - 1) rest)) (get_or trees 0 false))

-- the last trees before a place, as many as are joined: the earlier ones first, and then the last
module _ {R : Type 0} (truth_of : R → Test → Bool) (rows : List R) (nodes : List SizedHeader) (end size count : ℕ) (some : 0 < count) (tree : IsTree nodes end size) where
  pub all_kept : (old first new : List Bool) → AreKept (λ row. some_or_all false (take (count - 1) (truths_before (truth_of row) nodes (end - size)))) rows old first
      → AreKept (λ row. get_or (truths_before (truth_of row) nodes end) 0 false) rows first new → AreKept (λ row. some_or_all false (take count (truths_before (truth_of row) nodes end))) rows old new
  all_kept old first new before beyond =
      let earlier : R → Bool = λ row. some_or_all false (take (count - 1) (truths_before (truth_of row) nodes (end - size))) in
      let last : R → Bool = λ row. get_or (truths_before (truth_of row) nodes end) 0 false in
      kept_same (λ row. earlier row && last row) rows _ old new
      (λ row. all_more (truths_before (truth_of row) nodes end) (truths_before (truth_of row) nodes (end - size)) count some (tree.tree (truth_of row)) (tree.earlier (truth_of row)))
      (kept_and earlier rows last old first new before beyond)

  pub any_kept : (old first left met new : List Bool) → length first ≡ length rows → AreKept (λ row. some_or_all true (take (count - 1) (truths_before (truth_of row) nodes (end - size)))) rows old first
      → AreKept not first old left → AreKept (λ row. get_or (truths_before (truth_of row) nodes end) 0 false) rows left met
      → ((place : ℕ) → get_or new place false ≡ (get_or first place false || get_or met place false)) → AreKept (λ row. some_or_all true (take count (truths_before (truth_of row) nodes end))) rows old new
  any_kept old first left met new long before rest beyond is =
      let earlier : R → Bool = λ row. some_or_all true (take (count - 1) (truths_before (truth_of row) nodes (end - size))) in
      let last : R → Bool = λ row. get_or (truths_before (truth_of row) nodes end) 0 false in
      kept_same (λ row. earlier row || last row) rows _ old new
      (λ row. any_more (truths_before (truth_of row) nodes end) (truths_before (truth_of row) nodes (end - size)) count some (tree.tree (truth_of row)) (tree.earlier (truth_of row)))
      (kept_or earlier rows last old first left met new long before rest beyond is)
