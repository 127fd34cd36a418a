-- Trees of tests, and their prefix expressions: what `And`, `Or` and `Negate` make of filters.
use Rattle.std.specs.Prelude.{◌≡◌, ◌+◌, ℕ, Bool, false, not, List, [], ◌∷◌, ◌++◌, reverse}
use Rattle.lq_filter.specs.Trees.{some_or_all}
use Rattle.lq_filter.specs.declared.header.Header.{Header}
use Rattle.lq_filter.specs.declared.header.Header.TheVariants as header
use Rattle.lq_filter.specs.declared.read.Test.{Test}

-- A tree is a test, trees of which one is enough or all have to hold, or the opposite of a tree.
mutual
  pub data Tree : Type 0 where
    Tested : Test → Tree
    Joined : Bool → Trees → Tree
    Negated : Tree → Tree

  pub data Trees : Type 0 where
    NoTree : Trees
    Then : Tree → Trees → Trees

abbrev pub count_of : Trees → ℕ
count_of NoTree = 0
count_of (Then tree trees) = 1 + count_of trees

-- whether a tree holds, by the truths of the tests
abbrev mutual
  pub truth_of : (Test → Bool) → Tree → Bool
  truth_of truth (Tested test) = truth test
  truth_of truth (Joined any trees) = some_or_all any (truths_of truth trees)
  truth_of truth (Negated tree) = not (truth_of truth tree)

  pub truths_of : (Test → Bool) → Trees → List Bool
  truths_of truth NoTree = []
  truths_of truth (Then tree trees) = truth_of truth tree ∷ truths_of truth trees

-- a tree as a prefix expression, and trees one after the other
abbrev mutual
  pub prefix_of : Tree → List Header
  prefix_of (Tested test) = header.Test test ∷ []
  prefix_of (Joined any trees) =
      header.Join (record { count = count_of trees; any = any }) ∷ prefixes_of trees
  prefix_of (Negated tree) = header.Negate ∷ prefix_of tree

  pub prefixes_of : Trees → List Header
  prefixes_of NoTree = []
  prefixes_of (Then tree trees) = prefix_of tree ++ prefixes_of trees

-- headers, read from the last one back to the first, are the prefix expressions of trees
pub record AreTrees (headers : List Header) (trees : Trees) : Type 0 where
  pub same : reverse headers ≡ prefixes_of trees

-- whether all trees hold; without a tree that is so
abbrev pub all_hold : (Test → Bool) → Trees → Bool
all_hold truth trees = some_or_all false (truths_of truth trees)
