-- The trees of headers, one header after the other.
use Rattle.std.proofs.Common.{◌≡◌, ℕ, zero, suc, ◌+◌, ◌-◌, ◌<◌, ◌≤◌, Bool, true, false, List, [], ◌∷◌, ◌++◌, length, take, drop, filter, reverse, get_or, refl, sym, ap, ◌∙◌, inl, inr, subst, arith, length-drop}
use Rattle.std.proofs.Math.Logic.{⊎_elim}
use Rattle.std.proofs.lemmas.Bool.{cases_Bool, cases_lt}
use Rattle.std.proofs.lemmas.List.{drop-drop, get_or_append_left, get_or_at, length-append, length-map, length-reverse, map-append, reverse-append, take-append-le, take_all, take_more}
use Rattle.lq_filter.specs.Linked.{AreLinkedTrees, AreStacked, IsTree, SizedHeader, headers_of_nodes, truths_before}
use Rattle.lq_filter.specs.Trees.{HaveTrees, first_negated, has_pattern, height, holds, some_or_all, pattern_count, tree_count, truths}
use Rattle.lq_filter.specs.declared.header.Header.{Header}
use Rattle.lq_filter.specs.declared.header.Header.TheVariants as header
use Rattle.lq_filter.specs.declared.header.Join.{Join}
use Rattle.lq_filter.specs.declared.read.Test.{Test}

-- ---- how many trees

length-first_negated : (trees : List Bool) → length (first_negated trees) ≡ length trees
length-first_negated [] = refl
length-first_negated (truth ∷ trees) = refl

drop-first_negated : (trees : List Bool) → drop 1 (first_negated trees) ≡ drop 1 trees
drop-first_negated [] = refl
drop-first_negated (truth ∷ trees) = refl

pub length-truths : (truth : Test → Bool) (headers : List Header) → length (truths truth headers) ≡ tree_count headers
length-truths truth [] = refl
length-truths truth (header.Test test ∷ earlier) = omega (arith, length-truths truth earlier)
length-truths truth (header.Join join ∷ earlier) = omega (arith, length-truths truth earlier, length-drop join.count (truths truth earlier))
length-truths truth (header.Negate ∷ earlier) = length-first_negated (truths truth earlier) ∙ length-truths truth earlier

-- ---- one header more

headers_more : (nodes : List SizedHeader) (node : SizedHeader) → reverse (headers_of_nodes (nodes ++ node ∷ [])) ≡ node.header ∷ reverse (headers_of_nodes nodes)
headers_more nodes node = rw (map-append (λ (each : SizedHeader). each.header) nodes (node ∷ []), reverse-append (headers_of_nodes nodes) (node.header ∷ [])) refl

have_more : (nodes : List SizedHeader) (node : SizedHeader) → HaveTrees (node.header ∷ reverse (headers_of_nodes nodes)) → HaveTrees (reverse (headers_of_nodes (nodes ++ node ∷ [])))
have_more nodes node have = subst HaveTrees (sym (headers_more nodes node)) have

pub height_more : (nodes : List SizedHeader) (node : SizedHeader) → height (headers_of_nodes (nodes ++ node ∷ [])) ≡ tree_count (node.header ∷ reverse (headers_of_nodes nodes))
height_more nodes node = ap tree_count (headers_more nodes node)

-- the truths up to a place, by the header before it
pub truths_at : (truth : Test → Bool) (nodes : List SizedHeader) (place : ℕ) (node : SizedHeader) → 0 < place → place ≤ length nodes
    → truths_before truth nodes place ≡ truths truth ((get_or nodes (place - 1) node).header ∷ reverse (headers_of_nodes (take (place - 1) nodes)))
truths_at truth nodes place node some within =
    let next : place ≡ place - 1 + 1 = omega arith in
    let more : take place nodes ≡ take (place - 1) nodes ++ get_or nodes (place - 1) node ∷ [] = ap (λ n. take n nodes) next ∙ take_more nodes (place - 1) node (omega arith) in
    ap (truths truth) (ap (λ (first : List SizedHeader). reverse (headers_of_nodes first)) more ∙ headers_more (take (place - 1) nodes) (get_or nodes (place - 1) node))

same_truths : (truth : Test → Bool) (nodes more : List SizedHeader) (place : ℕ) → place ≤ length nodes
    → truths_before truth (nodes ++ more) place ≡ truths_before truth nodes place
same_truths truth nodes more place within = ap (λ (first : List SizedHeader). truths truth (reverse (headers_of_nodes first))) (take-append-le place nodes more within)

pub same_tree : (nodes more : List SizedHeader) (place size : ℕ) → place ≤ length nodes → IsTree nodes place size → IsTree (nodes ++ more) place size
same_tree nodes more place size within is = record {
  some = is.some;
  within = is.within;
  tree = λ truth. rw (same_truths truth nodes more place within) (is.tree truth);
  earlier = λ truth. rw (same_truths truth nodes more place within, same_truths truth nodes more (place - size) (omega arith)) (is.earlier truth);
}

-- what a header that is added has to be
pub record IsNext (nodes : List SizedHeader) (node : SizedHeader) : Type 0 where
  pub some : 0 < node.size
  pub within : node.size ≤ length nodes + 1
  pub tree : (truth : Test → Bool) → 0 < length (truths truth (node.header ∷ reverse (headers_of_nodes nodes)))
  pub earlier : (truth : Test → Bool) →
      drop 1 (truths truth (node.header ∷ reverse (headers_of_nodes nodes))) ≡ truths_before truth nodes (length nodes + 1 - node.size)

next_tree : (nodes : List SizedHeader) (node : SizedHeader) → IsNext nodes node → IsTree (nodes ++ node ∷ []) (length nodes + 1) node.size
next_tree nodes node next =
    let whole : take (length nodes + 1) (nodes ++ node ∷ []) ≡ nodes ++ node ∷ [] = take_all (length nodes + 1) (nodes ++ node ∷ []) (omega (arith, length-append nodes (node ∷ []))) in
    let last = λ (truth : Test → Bool). let same : truths_before truth (nodes ++ node ∷ []) (length nodes + 1) ≡ truths truth (node.header ∷ reverse (headers_of_nodes nodes)) = ap (λ (first : List SizedHeader). truths truth (reverse (headers_of_nodes first))) whole ∙ ap (truths truth) (headers_more nodes node) in same in
    record {
      some = next.some;
      within = next.within;
      tree = λ truth. rw (last truth) (next.tree truth);
      earlier = λ truth. rw (last truth, same_truths truth nodes (node ∷ []) (length nodes + 1 - node.size) (omega (arith, next.some))) (next.earlier truth);
    }

pub AreLinked-more : (nodes : List SizedHeader) (node : SizedHeader) → AreLinkedTrees nodes → IsNext nodes node → AreLinkedTrees (nodes ++ node ∷ [])
AreLinked-more nodes node linked next = record {
  each = λ place other some within. elim (cases_lt (length nodes) place) [
    | inl beyond ↦
        let last : place ≡ length nodes + 1 = omega (arith, length-append nodes (node ∷ [])) in
        rw (last, get_or_at nodes node [] other (length nodes + 1 - 1) (omega arith)) (next_tree nodes node next)
    | inr before ↦ rw (get_or_append_left nodes (node ∷ []) other (place - 1) (omega arith)) (same_tree nodes (node ∷ []) place (get_or nodes (place - 1) other).size before (linked.each place other some before))
  ];
}

-- ---- by header

-- all headers
pub whole_truths : (truth : Test → Bool) (nodes : List SizedHeader) → truths_before truth nodes (length nodes) ≡ truths truth (reverse (headers_of_nodes nodes))
whole_truths truth nodes = ap (λ (first : List SizedHeader). truths truth (reverse (headers_of_nodes first))) (take_all (length nodes) nodes (omega arith))

-- the last trees begin at a place
abbrev BeginAt : List SizedHeader → ℕ → ℕ → Type 0
BeginAt nodes count start = (truth : Test → Bool) → drop count (truths_before truth nodes (length nodes)) ≡ truths_before truth nodes start

next_test : (nodes : List SizedHeader) (test : Test) → IsNext nodes (record { header = header.Test test; size = 1 })
next_test nodes test = record {
  some = omega arith;
  within = omega arith;
  tree = λ truth. omega arith;
  earlier = λ truth. sym (ap (truths_before truth nodes) (omega arith) ∙ whole_truths truth nodes);
}

place_after : (nodes : List SizedHeader) (start : ℕ) → start ≤ length nodes → start ≡ length nodes + 1 - (length nodes - start + 1)
place_after nodes start within = omega arith

next_join : (nodes : List SizedHeader) (join : Join) (start : ℕ) → start ≤ length nodes → BeginAt nodes join.count start
    → IsNext nodes (record { header = header.Join join; size = length nodes - start + 1 })
next_join nodes join start within begin = record {
  some = omega arith;
  within = omega arith;
  tree = λ truth. omega arith;
  earlier = λ truth. ap (drop join.count) (sym (whole_truths truth nodes)) ∙ begin truth ∙ ap (truths_before truth nodes) (place_after nodes start within);
}

next_negate : (nodes : List SizedHeader) (start : ℕ) → start ≤ length nodes → 0 < height (headers_of_nodes nodes) → BeginAt nodes 1 start
    → IsNext nodes (record { header = header.Negate; size = length nodes - start + 1 })
next_negate nodes start within enough begin = record {
  some = omega arith;
  within = omega arith;
  tree = λ truth. omega (arith, enough, length-first_negated (truths truth (reverse (headers_of_nodes nodes))), length-truths truth (reverse (headers_of_nodes nodes)));
  earlier = λ truth. drop-first_negated (truths truth (reverse (headers_of_nodes nodes))) ∙ ap (drop 1) (sym (whole_truths truth nodes)) ∙ begin truth ∙ ap (truths_before truth nodes) (place_after nodes start within);
}

pub stacked_test : (nodes : List SizedHeader) (trees : ℕ) (test : Test) → AreStacked nodes trees
    → AreStacked (nodes ++ record { header = header.Test test; size = 1 } ∷ []) (trees + 1)
stacked_test nodes trees test is = record {
  linked = AreLinked-more nodes (record { header = header.Test test; size = 1 }) is.linked (next_test nodes test);
  count = omega (arith, is.count, height_more nodes (record { header = header.Test test; size = 1 }));
  trees_before = have_more nodes (record { header = header.Test test; size = 1 }) is.trees_before;
}

pub stacked_join : (nodes : List SizedHeader) (trees : ℕ) (join : Join) (start : ℕ) → AreStacked nodes trees → join.count ≤ trees → start ≤ length nodes → BeginAt nodes join.count start
    → AreStacked (nodes ++ record { header = header.Join join; size = length nodes - start + 1 } ∷ []) (trees - join.count + 1)
stacked_join nodes trees join start is enough within begin = record {
  linked = AreLinked-more nodes (record { header = header.Join join; size = length nodes - start + 1 }) is.linked (next_join nodes join start within begin);
  count = omega (arith, is.count, height_more nodes (record { header = header.Join join; size = length nodes - start + 1 }));
  trees_before = have_more nodes (record { header = header.Join join; size = length nodes - start + 1 }) (omega (arith, enough, is.count), is.trees_before);
}

pub stacked_negate : (nodes : List SizedHeader) (trees : ℕ) (start : ℕ) → AreStacked nodes trees → 0 < trees → start ≤ length nodes → BeginAt nodes 1 start
    → AreStacked (nodes ++ record { header = header.Negate; size = length nodes - start + 1 } ∷ []) trees
stacked_negate nodes trees start is some within begin = record {
  linked = AreLinked-more nodes (record { header = header.Negate; size = length nodes - start + 1 }) is.linked (next_negate nodes start within (omega (arith, is.count)) begin);
  count = omega (arith, is.count, height_more nodes (record { header = header.Negate; size = length nodes - start + 1 }));
  trees_before = have_more nodes (record { header = header.Negate; size = length nodes - start + 1 }) (omega (arith, some, is.count), is.trees_before);
}

-- ---- where trees begin

-- before the first tree no tree is left
pub begun : (nodes : List SizedHeader) (count taken start : ℕ) → count ≤ height (headers_of_nodes nodes) → taken < count → BeginAt nodes taken start → 0 < start
begun nodes count taken zero enough low begin =
    let always : Test → Bool = λ _. true in
    let left : length (drop taken (truths_before always nodes (length nodes))) ≡ 0 = ap length (begin always) in
    let all : length (truths_before always nodes (length nodes)) ≡ height (headers_of_nodes nodes) = ap length (whole_truths always nodes) ∙ length-truths always (reverse (headers_of_nodes nodes)) in
    absurd (omega (arith, left, all, length-drop taken (truths_before always nodes (length nodes))))
begun nodes count taken (suc start) enough low begin = omega arith

pub begin_earlier : (nodes : List SizedHeader) (taken start size : ℕ) → IsTree nodes start size → BeginAt nodes taken start → BeginAt nodes (taken + 1) (start - size)
begin_earlier nodes taken start size tree begin truth =
    sym (drop-drop 1 taken (truths_before truth nodes (length nodes))) ∙ ap (drop 1) (begin truth) ∙ tree.earlier truth

count_within : (headers : List Header) → tree_count headers ≤ length headers
count_within [] = omega arith
count_within (header.Test test ∷ earlier) = omega (arith, count_within earlier)
count_within (header.Join join ∷ earlier) = omega (arith, count_within earlier)
count_within (header.Negate ∷ earlier) = omega (arith, count_within earlier)

pub height_within : (nodes : List SizedHeader) → height (headers_of_nodes nodes) ≤ length nodes
height_within nodes = omega (arith, count_within (reverse (headers_of_nodes nodes)), length-reverse (headers_of_nodes nodes), length-map nodes (λ (node : SizedHeader). node.header))

-- the trees of all headers, joined by and
pub all_trees : (truth : Test → Bool) (nodes : List SizedHeader)
    → some_or_all false (take (length nodes) (truths_before truth nodes (length nodes))) ≡ holds truth (headers_of_nodes nodes)
all_trees truth nodes =
    let few : length (truths_before truth nodes (length nodes)) ≤ length nodes
    = omega (arith, ap length (whole_truths truth nodes), length-truths truth (reverse (headers_of_nodes nodes)), height_within nodes) in
    ap (some_or_all false) (take_all (length nodes) (truths_before truth nodes (length nodes)) few ∙ whole_truths truth nodes)

-- ---- patterns

pub pattern_nodes : (nodes : List SizedHeader) → length (filter (λ node. has_pattern node.header) nodes) ≡ pattern_count (headers_of_nodes nodes)
pattern_nodes [] = refl
pattern_nodes (node ∷ nodes) = ⊎_elim
    (λ (is : has_pattern node.header ≡ true). rw is (ap suc (pattern_nodes nodes)))
    (λ (other : has_pattern node.header ≡ false). rw other (pattern_nodes nodes))
    (cases_Bool (has_pattern node.header))
