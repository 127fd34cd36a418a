-- Headers after the headers of other trees: the trees of both.
use Rattle.std.proofs.Common.{◌≡◌, ℕ, ◌+◌, ◌-◌, ◌<◌, ◌≤◌, Bool, List, [], ◌∷◌, ◌++◌, length, take, drop, reverse, get_or, refl, sym, ap, ◌∙◌, inl, inr, subst, arith}
use Rattle.std.proofs.Math.Seq.{get_or-append_right, take-append-add}
use Rattle.std.proofs.lemmas.Bool.{cases_lt}
use Rattle.std.proofs.lemmas.List.{drop-append-le, get_or_append_left, length-append, map-append, reverse-append, take-append-drop, take-append-le}
use Rattle.lq_filter.specs.Linked.{AreLinkedTrees, AreStacked, IsTree, SizedHeader, headers_of_nodes, truths_before}
use Rattle.lq_filter.specs.Trees.{HaveTrees, first_negated, height, tree_count, truths}
use Rattle.lq_filter.specs.declared.header.Header.{Header}
use Rattle.lq_filter.specs.declared.header.Header.TheVariants as header
use Rattle.lq_filter.specs.declared.read.Test.{Test}
use Rattle.lq_filter.proofs.TreeLemmas.{length-truths, same_tree}

-- ---- headers from the last one back: those that come later stand first

first_negated-append : (later earlier : List Bool) → 0 < length later → first_negated (later ++ earlier) ≡ first_negated later ++ earlier
first_negated-append [] earlier some = absurd (omega (arith, some))
first_negated-append (truth ∷ later) earlier some = refl

truths-append : (truth : Test → Bool) (later earlier : List Header) → HaveTrees later
    → truths truth (later ++ earlier) ≡ truths truth later ++ truths truth earlier
truths-append truth [] earlier have = refl
truths-append truth (header.Test test ∷ later) earlier have = ap (λ l. truth test ∷ l) (truths-append truth later earlier have)
truths-append truth (header.Join join ∷ later) earlier have =
    let enough : join.count ≤ length (truths truth later) = omega (arith, have.0, length-truths truth later) in
    rw (truths-append truth later earlier have.1, take-append-le join.count (truths truth later) (truths truth earlier) enough, drop-append-le join.count (truths truth later) (truths truth earlier) enough) refl
truths-append truth (header.Negate ∷ later) earlier have =
    rw (truths-append truth later earlier have.1) (first_negated-append (truths truth later) (truths truth earlier) (omega (arith, have.0, length-truths truth later)))

tree_count-append : (later earlier : List Header) → HaveTrees later → tree_count (later ++ earlier) ≡ tree_count later + tree_count earlier
tree_count-append [] earlier have = omega arith
tree_count-append (header.Test test ∷ later) earlier have = omega (arith, tree_count-append later earlier have)
tree_count-append (header.Join join ∷ later) earlier have = omega (arith, have.0, tree_count-append later earlier have.1)
tree_count-append (header.Negate ∷ later) earlier have = tree_count-append later earlier have.1

HaveTrees-append : (later earlier : List Header) → HaveTrees later → HaveTrees earlier → HaveTrees (later ++ earlier)
HaveTrees-append [] earlier have before = before
HaveTrees-append (header.Test test ∷ later) earlier have before = HaveTrees-append later earlier have before
HaveTrees-append (header.Join join ∷ later) earlier have before =
    (omega (arith, have.0, tree_count-append later earlier have.1), HaveTrees-append later earlier have.1 before)
HaveTrees-append (header.Negate ∷ later) earlier have before =
    (omega (arith, have.0, tree_count-append later earlier have.1), HaveTrees-append later earlier have.1 before)

have_earlier : (later earlier : List Header) → HaveTrees (later ++ earlier) → HaveTrees earlier
have_earlier [] earlier have = have
have_earlier (header.Test test ∷ later) earlier have = have_earlier later earlier have
have_earlier (header.Join join ∷ later) earlier have = have_earlier later earlier have.1
have_earlier (header.Negate ∷ later) earlier have = have_earlier later earlier have.1

-- ---- headers with the sizes of their trees

headers_both : (nodes more : List SizedHeader) → reverse (headers_of_nodes (nodes ++ more)) ≡ reverse (headers_of_nodes more) ++ reverse (headers_of_nodes nodes)
headers_both nodes more = rw (map-append (λ (each : SizedHeader). each.header) nodes more, reverse-append (headers_of_nodes nodes) (headers_of_nodes more)) refl

have_first : (more : List SizedHeader) (count : ℕ) → HaveTrees (reverse (headers_of_nodes more)) → HaveTrees (reverse (headers_of_nodes (take count more)))
have_first more count have =
    let parts : reverse (headers_of_nodes more) ≡ reverse (headers_of_nodes (drop count more)) ++ reverse (headers_of_nodes (take count more))
    = ap (λ (nodes : List SizedHeader). reverse (headers_of_nodes nodes)) (sym (take-append-drop count more)) ∙ headers_both (take count more) (drop count more) in
    have_earlier (reverse (headers_of_nodes (drop count more))) (reverse (headers_of_nodes (take count more))) (subst HaveTrees parts have)

module _ (nodes more : List SizedHeader) (have : HaveTrees (reverse (headers_of_nodes more))) where
  truths_both : (truth : Test → Bool) (count : ℕ)
      → truths_before truth (nodes ++ more) (length nodes + count) ≡ truths_before truth more count ++ truths truth (reverse (headers_of_nodes nodes))
  truths_both truth count =
      ap (λ (first : List SizedHeader). truths truth (reverse (headers_of_nodes first))) (take-append-add nodes more count)
      ∙ ap (truths truth) (headers_both nodes (take count more))
      ∙ truths-append truth (reverse (headers_of_nodes (take count more))) (reverse (headers_of_nodes nodes)) (have_first more count have)

  tree_after : (count size : ℕ) → IsTree more count size → IsTree (nodes ++ more) (length nodes + count) size
  tree_after count size is = record {
    some = is.some;
    within = omega (arith, is.within);
    tree = λ truth. omega (arith, is.tree truth, ap length (truths_both truth count), length-append (truths_before truth more count) (truths truth (reverse (headers_of_nodes nodes))));
    earlier = λ truth.
        let before : List Bool = truths truth (reverse (headers_of_nodes nodes)) in
        let place : length nodes + (count - size) ≡ length nodes + count - size = omega (arith, is.within) in
        ap (drop 1) (truths_both truth count)
        ∙ drop-append-le 1 (truths_before truth more count) before (omega (arith, is.tree truth))
        ∙ ap (λ trees. trees ++ before) (is.earlier truth)
        ∙ sym (truths_both truth (count - size))
        ∙ ap (truths_before truth (nodes ++ more)) place;
  }

  linked_both : AreLinkedTrees nodes → AreLinkedTrees more → AreLinkedTrees (nodes ++ more)
  linked_both first second = record {
    each = λ place other some within. elim (cases_lt (length nodes) place) [
      | inl beyond ↦
          let at : length nodes + (place - length nodes) ≡ place = omega (arith, beyond) in
          let node : get_or (nodes ++ more) (place - 1) other ≡ get_or more (place - length nodes - 1) other
          = get_or-append_right nodes more (place - 1) other (omega (arith, beyond)) ∙ ap (λ k. get_or more k other) (omega (arith, beyond)) in
          rw (node) (subst (λ k. IsTree (nodes ++ more) k (get_or more (place - length nodes - 1) other).size) at
          (tree_after (place - length nodes) (get_or more (place - length nodes - 1) other).size
          (second.each (place - length nodes) other (omega (arith, beyond)) (omega (arith, within, length-append nodes more)))))
      | inr before ↦ rw (get_or_append_left nodes more other (place - 1) (omega (arith, some, before))) (same_tree nodes more place (get_or nodes (place - 1) other).size before (first.each place other some before))
    ];
  }

pub stacked_both : (nodes more : List SizedHeader) (trees later : ℕ) → AreStacked nodes trees → AreStacked more later → AreStacked (nodes ++ more) (trees + later)
stacked_both nodes more trees later first second = record {
  linked = linked_both nodes more second.trees_before first.linked second.linked;
  count = omega (arith, first.count, second.count, ap tree_count (headers_both nodes more), tree_count-append (reverse (headers_of_nodes more)) (reverse (headers_of_nodes nodes)) second.trees_before);
  trees_before = subst HaveTrees (sym (headers_both nodes more)) (HaveTrees-append (reverse (headers_of_nodes more)) (reverse (headers_of_nodes nodes)) second.trees_before first.trees_before);
}

pub height_both : (nodes more : List SizedHeader) → HaveTrees (reverse (headers_of_nodes more)) → height (headers_of_nodes (nodes ++ more)) ≡ height (headers_of_nodes nodes) + height (headers_of_nodes more)
height_both nodes more have = omega (arith, ap tree_count (headers_both nodes more), tree_count-append (reverse (headers_of_nodes more)) (reverse (headers_of_nodes nodes)) have)
