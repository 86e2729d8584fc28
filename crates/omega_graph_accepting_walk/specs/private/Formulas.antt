-- An acceptance formula as a list of nodes, each after its parts.
use Rattle.std.specs.Prelude.{◌≡◌, ℕ, ◌<◌, false, List, [], ◌∷◌, ◌++◌, length, map, slice_index_or, All}
use Rattle.omega_hoa_acceptance.specs.Acceptance.{AccTree, conjunction, constant, disjunction, fin, inf}
use Rattle.omega_hoa_acceptance.specs.declared.formula.AccNode.{AccNode}
use Rattle.omega_hoa_acceptance.specs.declared.formula.AccNode.TheVariants as plain
use Rattle.omega_graph_accepting_walk.specs.declared.node.Node.{Node}
use Rattle.omega_graph_accepting_walk.specs.declared.node.Node.TheVariants.{And, Constant, Fin, Inf, Or}

-- the formula of a node, from those of its parts
abbrev pub node_tree : (ℕ → AccTree) → Node → AccTree
node_tree trees (Constant value) = constant value
node_tree trees (Inf negated set) = inf negated set
node_tree trees (Fin negated set) = fin negated set
node_tree trees (And left right) = conjunction (trees left) (trees right)
node_tree trees (Or left right) = disjunction (trees left) (trees right)

-- the formula at a place, or `f` past the last one
abbrev pub tree_among : List AccTree → ℕ → AccTree
tree_among trees place = slice_index_or trees place (constant false)

-- formulas, followed by those of nodes
abbrev pub trees_after : List AccTree → List Node → List AccTree
trees_after trees [] = trees
trees_after trees (node ∷ nodes) =
    trees_after (trees ++ node_tree (tree_among trees) node ∷ []) nodes

-- the formula of the node at a place
unfoldable pub tree_at : List Node → ℕ → AccTree
tree_at nodes place = tree_among (trees_after [] nodes) place

-- the parts of a node come before it, and its formula is built from theirs
abbrev pub IsNode : (ℕ → AccTree) → ℕ → Node → Type 0
IsNode trees place (Constant value) = trees place ≡ constant value
IsNode trees place (Inf negated set) = trees place ≡ inf negated set
IsNode trees place (Fin negated set) = trees place ≡ fin negated set
IsNode trees place (And left right) =
    (left < place) × (right < place) × (trees place ≡ conjunction (trees left) (trees right))
IsNode trees place (Or left right) =
    (left < place) × (right < place) × (trees place ≡ disjunction (trees left) (trees right))

-- this holds of each node of a list
abbrev pub IsFormula : List Node → Type 0
IsFormula nodes = (place : ℕ) (node : Node) → place < length nodes
    → IsNode (tree_at nodes) place (slice_index_or nodes place node)

-- the parts of a node are among the first `count` places
abbrev pub IsMade : ℕ → Node → Type 0
IsMade count (Constant value) = Unit {0}
IsMade count (Inf negated set) = Unit {0}
IsMade count (Fin negated set) = Unit {0}
IsMade count (And left right) = (left < count) × (right < count)
IsMade count (Or left right) = (left < count) × (right < count)

-- the nodes form a formula, and each place of a list is that of a node
pub record ArePartsOf (nodes : List Node) (places : List ℕ) : Type 0 where
  pub formula : IsFormula nodes
  pub within : All (λ place. place < length nodes) places

-- the formulas at places
abbrev pub trees_at : List Node → List ℕ → List AccTree
trees_at nodes places = map (tree_at nodes) places

-- formulas with that of a node in place of its parts, which are the first ones; they are as before if one is missing
abbrev pub trees_with : List AccTree → AccNode → List AccTree
trees_with trees (plain.Constant value) = constant value ∷ trees
trees_with trees (plain.Inf negated set) = inf negated set ∷ trees
trees_with trees (plain.Fin negated set) = fin negated set ∷ trees
trees_with (right ∷ left ∷ trees) plain.And = conjunction left right ∷ trees
trees_with (right ∷ left ∷ trees) plain.Or = disjunction left right ∷ trees
trees_with trees operator = trees

-- `count` formulas are enough for the parts of a node
abbrev pub HasParts : ℕ → AccNode → Type 0
HasParts count plain.And = 1 < count
HasParts count plain.Or = 1 < count
HasParts count atom = Unit {0}

-- formulas are enough for the parts of the first of these nodes, and with its own in place of them for the others
abbrev pub HaveParts : List AccTree → List AccNode → Type 0
HaveParts trees [] = Unit {0}
HaveParts trees (node ∷ nodes) = HasParts (length trees) node × HaveParts (trees_with trees node) nodes

-- formulas with those of nodes in place of their parts
abbrev pub trees_left : List AccTree → List AccNode → List AccTree
trees_left trees [] = trees
trees_left trees (node ∷ nodes) = trees_left (trees_with trees node) nodes
