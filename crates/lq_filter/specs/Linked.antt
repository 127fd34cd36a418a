-- Headers with the sizes of their trees: where the tree before another one ends.
use Rattle.std.specs.Prelude.{◌≡◌, ◌-◌, ◌<◌, ◌≤◌, ℕ, Bool, List, drop, length, map, reverse}
use Rattle.std.specs.Prelude.{slice_index_or, take}
use Rattle.lq_filter.specs.Trees.{HaveTrees, height, truths}
use Rattle.lq_filter.specs.declared.header.Header.{Header}
use Rattle.lq_filter.specs.declared.read.Test.{Test}

-- a header, and how many headers the tree that ends with it has
pub record SizedHeader : Type 0 where
  pub header : Header
  pub size : ℕ

abbrev pub headers_of_nodes : List SizedHeader → List Header
headers_of_nodes nodes = map (λ node. node.header) nodes

-- the truths of the trees that the first so many headers are, the last tree first
abbrev pub truths_before : (Test → Bool) → List SizedHeader → ℕ → List Bool
truths_before truth nodes place = truths truth (reverse (headers_of_nodes (take place nodes)))

-- a tree with so many headers ends at a place, and the trees before it are those that end where it
-- begins
pub record IsTree (nodes : List SizedHeader) (place size : ℕ) : Type 0 where
  pub some : 0 < size
  pub within : size ≤ place
  pub tree : (truth : Test → Bool) → 0 < length (truths_before truth nodes place)
  pub earlier : (truth : Test → Bool) →
      drop 1 (truths_before truth nodes place) ≡ truths_before truth nodes (place - size)

-- each header ends a tree of its size
pub record AreLinkedTrees (nodes : List SizedHeader) : Type 0 where
  pub each : (place : ℕ) (node : SizedHeader) → 0 < place → place ≤ length nodes →
      IsTree nodes place (slice_index_or nodes (place - 1) node).size

-- the nodes of a stack, and the number of trees that is kept beside them
pub record AreStacked (nodes : List SizedHeader) (trees : ℕ) : Type 0 where
  pub linked : AreLinkedTrees nodes
  pub count : trees ≡ height (headers_of_nodes nodes)
  pub trees_before : HaveTrees (reverse (headers_of_nodes nodes))
