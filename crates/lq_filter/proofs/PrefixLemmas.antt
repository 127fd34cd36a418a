-- Headers as the prefix expressions of trees.
use Rattle.std.proofs.Common.{◌≡◌, ℕ, zero, suc, ◌-◌, ◌<◌, ◌≤◌, Bool, false, List, [], ◌∷◌, ◌++◌, length, take, drop, reverse, refl, sym, ap, ◌∙◌, arith, append_assoc}
use Rattle.std.proofs.lemmas.List.{append-nil, drop_at, take_at}
use Rattle.lq_filter.specs.Prefixes.{AreTrees, Tree, Trees, Tested, Joined, Negated, NoTree, Then, all_hold, count_of, prefix_of, prefixes_of, truth_of, truths_of}
use Rattle.lq_filter.specs.Trees.{HaveTrees, holds, some_or_all, tree_count, truths}
use Rattle.lq_filter.specs.declared.header.Header.{Header}
use Rattle.lq_filter.specs.declared.header.Header.TheVariants as header
use Rattle.lq_filter.specs.declared.read.Test.{Test}

-- ---- what trees hold

length-truths_of : (truth : Test → Bool) (trees : Trees) → length (truths_of truth trees) ≡ count_of trees
length-truths_of truth NoTree = refl
length-truths_of truth (Then tree trees) = omega (arith, length-truths_of truth trees)

first_joined : (any : Bool) (count : ℕ) (first rest : List Bool) → length first ≡ count
    → some_or_all any (take count (first ++ rest)) ∷ drop count (first ++ rest) ≡ some_or_all any first ∷ rest
first_joined any count first rest all = rw (take_at first rest count all, drop_at first rest count all) refl

mutual
  truths-prefix_of : (truth : Test → Bool) (tree : Tree) (rest : List Header) → truths truth (prefix_of tree ++ rest) ≡ truth_of truth tree ∷ truths truth rest
  truths-prefix_of truth (Tested test) rest = refl
  truths-prefix_of truth (Joined any trees) rest =
      rw (truths-prefixes_of truth trees rest) (first_joined any (count_of trees) (truths_of truth trees) (truths truth rest) (length-truths_of truth trees))
  truths-prefix_of truth (Negated tree) rest = rw (truths-prefix_of truth tree rest) refl

  truths-prefixes_of : (truth : Test → Bool) (trees : Trees) (rest : List Header) → truths truth (prefixes_of trees ++ rest) ≡ truths_of truth trees ++ truths truth rest
  truths-prefixes_of truth NoTree rest = refl
  truths-prefixes_of truth (Then tree trees) rest =
      rw (append_assoc (prefix_of tree) (prefixes_of trees) rest, truths-prefix_of truth tree (prefixes_of trees ++ rest), truths-prefixes_of truth trees rest) refl

pub holds_trees : (truth : Test → Bool) (headers : List Header) (trees : Trees) → AreTrees headers trees → holds truth headers ≡ all_hold truth trees
holds_trees truth headers trees are =
    let all : truths truth (prefixes_of trees) ≡ truths_of truth trees
    = ap (truths truth) (sym (append-nil (prefixes_of trees))) ∙ truths-prefixes_of truth trees [] ∙ append-nil (truths_of truth trees) in
    ap (some_or_all false) (ap (truths truth) are.same ∙ all)

-- ---- the trees of headers

-- the first so many trees, and the others
record Parts (trees : Trees) (count : ℕ) : Type 0 where
  first : Trees
  rest : Trees
  same : prefixes_of trees ≡ prefixes_of first ++ prefixes_of rest
  counted : count_of first ≡ count
  left : count_of rest ≡ count_of trees - count

parts_of : (count : ℕ) (trees : Trees) → count ≤ count_of trees → Parts trees count
parts_of zero trees enough = record { first = NoTree; rest = trees; same = refl; counted = refl; left = omega arith }
parts_of (suc count) NoTree enough = absurd (omega arith)
parts_of (suc count) (Then tree trees) enough =
    let parts = parts_of count trees (omega arith) in
    record {
      first = Then tree parts.first;
      rest = parts.rest;
      same = ap (λ (headers : List Header). prefix_of tree ++ headers) parts.same ∙ sym (append_assoc (prefix_of tree) (prefixes_of parts.first) (prefixes_of parts.rest));
      counted = omega (arith, parts.counted);
      left = omega (arith, parts.left);
    }

pub record IsRead (headers : List Header) : Type 0 where
  pub trees : Trees
  pub same : headers ≡ prefixes_of trees
  pub counted : count_of trees ≡ tree_count headers

negated_read : (earlier : List Header) (trees : Trees) → earlier ≡ prefixes_of trees → count_of trees ≡ tree_count earlier → 0 < tree_count earlier → IsRead (header.Negate ∷ earlier)
negated_read earlier NoTree same counted some = absurd (omega arith)
negated_read earlier (Then tree trees) same counted some = record {
  trees = Then (Negated tree) trees;
  same = ap (λ (headers : List Header). header.Negate ∷ headers) same;
  counted = omega arith;
}

pub read_of : (headers : List Header) → HaveTrees headers → IsRead headers
read_of [] have = record { trees = NoTree; same = refl; counted = refl }
read_of (header.Test test ∷ earlier) have =
    let read = read_of earlier have in
    record {
      trees = Then (Tested test) read.trees;
      same = ap (λ (headers : List Header). header.Test test ∷ headers) read.same;
      counted = omega (arith, read.counted);
    }
read_of (header.Join join ∷ earlier) have =
    let read = read_of earlier have.1 in
    let parts = parts_of join.count read.trees (omega (arith, have.0, read.counted)) in
    record {
      trees = Then (Joined join.any parts.first) parts.rest;
      same = rw (parts.counted, ← parts.same, ← read.same) refl;
      counted = omega (arith, parts.left, read.counted);
    }
read_of (header.Negate ∷ earlier) have =
    let read = read_of earlier have.1 in
    negated_read earlier read.trees read.same read.counted have.0

pub are_trees : (headers : List Header) → HaveTrees (reverse headers) → (trees : Trees) × AreTrees headers trees
are_trees headers have = let read = read_of (reverse headers) have in (read.trees, record { same = read.same })
