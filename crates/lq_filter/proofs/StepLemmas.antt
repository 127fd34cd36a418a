-- The truth of the tree that ends at a place, by its header.
use Rattle.std.proofs.Common.{◌≡◌, ℕ, zero, suc, ◌-◌, ◌<◌, ◌≤◌, ◌||◌, ◌&&◌, Bool, true, false, not, None, All, List, [], ◌∷◌, length, take, drop, get_or, refl, subst, arith}
use mathlib.Core.Bool.{beq}
use Rattle.std.proofs.lemmas.List.{get_or-map, length-map}
use Rattle.lq_filter.specs.Linked.{AreLinkedTrees, SizedHeader, headers_of_nodes, truths_before}
use Rattle.lq_filter.specs.Trees.{first_negated, is_negation, join_of, some_or_all}
use Rattle.lq_filter.specs.declared.header.Header.{Header}
use Rattle.lq_filter.specs.declared.header.Header.TheVariants as header
use Rattle.lq_filter.specs.declared.read.Test.{Test}
use Rattle.lq_filter.proofs.TreeLemmas.{truths_at}

-- ---- joining one tree more

or_false : (truth : Bool) → truth ≡ (truth || false)
or_false true = refl
or_false false = refl

and_true : (truth : Bool) → truth ≡ (truth && true)
and_true true = refl
and_true false = refl

-- the last tree decides where those before it don't
last_decides : (any truth : Bool) (trees : List Bool) → some_or_all any trees ≡ not any → truth ≡ some_or_all any (truth ∷ trees)
last_decides true truth trees none = rw none (or_false truth)
last_decides false truth trees all = rw all (and_true truth)

pub not_same : (a b : Bool) → beq a b ≡ false → a ≡ not b
not_same true true other = cc
not_same true false other = refl
not_same false true other = refl
not_same false false other = cc

pub joined_last : (trees rest : List Bool) (count : ℕ) (any truth : Bool) → 0 < count → take 1 trees ≡ truth ∷ [] → drop 1 trees ≡ rest
    → some_or_all any (take (count - 1) rest) ≡ not any → truth ≡ some_or_all any (take count trees)
joined_last trees rest zero any truth some first left undecided = absurd (omega arith)
joined_last [] rest (suc count) any truth some first left undecided = cc
joined_last (tree ∷ trees) rest (suc count) any truth some first left undecided =
    let same : tree ≡ truth = cc in
    let earlier : suc count - 1 ≡ count = omega arith in
    rw same (last_decides any truth (take count trees) (rw (earlier, ← left) at undecided))

-- ---- by header

negation_is : (given : Header) → is_negation given ≡ true → given ≡ header.Negate
negation_is (header.Test test) is = cc
negation_is (header.Join join) is = cc
negation_is header.Negate is = refl

pub test_is : (given : Header) → join_of given ≡ None → is_negation given ≡ false → (test : Test) × (given ≡ header.Test test)
test_is (header.Test test) none plain = (test, refl)
test_is (header.Join join) none plain = cc
test_is header.Negate none plain = cc

begun_before : (truth : Test → Bool) (nodes : List SizedHeader) (place : ℕ) → 0 < length (first_negated (truths_before truth nodes place)) → 0 < place
begun_before truth nodes zero some = absurd (omega (arith, some))
begun_before truth nodes (suc place) some = omega arith

-- the header of a place is one of the headers
pub column_at : (P : Header → Type 0) (nodes : List SizedHeader) (place : ℕ) (node : SizedHeader) → 0 < place → place ≤ length nodes
    → All P (headers_of_nodes nodes) → P (get_or nodes (place - 1) node).header
column_at P nodes place node some within all =
    let header_at = λ (each : SizedHeader). each.header in
    subst P (get_or-map header_at nodes (place - 1) node node.header (omega arith)) (all (place - 1) node.header (omega (arith, length-map nodes header_at)))

module _ (truth : Test → Bool) (nodes : List SizedHeader) (place : ℕ) (node : SizedHeader) (some : 0 < place) (within : place ≤ length nodes) where
  pub truth_of_test : (test : Test) → (get_or nodes (place - 1) node).header ≡ header.Test test → take 1 (truths_before truth nodes place) ≡ truth test ∷ []
  truth_of_test test is = rw (truths_at truth nodes place node some within, is) refl

  pub negated_some : AreLinkedTrees nodes → is_negation (get_or nodes (place - 1) node).header ≡ true → 0 < place - 1
  negated_some linked is =
      let tree = linked.each place node some within in
      begun_before truth nodes (place - 1) (rw (truths_at truth nodes place node some within, negation_is (get_or nodes (place - 1) node).header is) at (tree.tree truth))
