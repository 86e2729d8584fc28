-- How an acceptance formula lies in memory: its tree in postfix order.
use Rattle.std.specs.Prelude.{◌≡◌, ℕ, ◌≤◌, false, List, [], ◌∷◌, ◌++◌}
use Rattle.std.specs.Coded.{Coded, code_by, coded_list}
use Rattle.omega_hoa_acceptance.specs.Acceptance.{AccTree, acc_depth, conjunction}
use Rattle.omega_hoa_acceptance.specs.Acceptance.{constant, disjunction, fin, inf}
use Rattle.omega_hoa_expression.specs.Limits.{most_depth}
pub use Rattle.omega_hoa_acceptance.specs.Postfix.{acc_postfix}
use Rattle.omega_hoa_expression.specs.Joins.{regrouped}
use Rattle.omega_hoa_acceptance.specs.contracts.formula.AccNode as node
use Rattle.omega_hoa_acceptance.specs.declared.formula.AccNode.{AccNode}
use Rattle.omega_hoa_acceptance.specs.declared.formula.AccNode.TheVariants.{And, Constant, Fin, Inf, Or}
use Rattle.std.proofs.Common.{append-nil, ap, refl, sym, ◌∙◌}

-- the tree on top, or a constant if there is none
abbrev pub acc_top : List AccTree → AccTree
acc_top [] = constant false
acc_top (tree ∷ trees) = tree

-- the trees below the top
abbrev pub acc_below : List AccTree → List AccTree
acc_below [] = []
acc_below (tree ∷ trees) = trees

-- the trees that nodes leave of those before them
abbrev pub acc_trees_of : List AccTree → List AccNode → List AccTree
acc_trees_of trees [] = trees
acc_trees_of trees (Constant value ∷ nodes) = acc_trees_of (constant value ∷ trees) nodes
acc_trees_of trees (Inf negated set ∷ nodes) = acc_trees_of (inf negated set ∷ trees) nodes
acc_trees_of trees (Fin negated set ∷ nodes) = acc_trees_of (fin negated set ∷ trees) nodes
acc_trees_of trees (And ∷ nodes) = acc_trees_of
    (conjunction (acc_top (acc_below trees)) (acc_top trees) ∷ acc_below (acc_below trees)) nodes
acc_trees_of trees (Or ∷ nodes) = acc_trees_of
    (disjunction (acc_top (acc_below trees)) (acc_top trees) ∷ acc_below (acc_below trees)) nodes

-- the tree of nodes in postfix order
abbrev pub acc_tree_of : List AccNode → AccTree
acc_tree_of nodes = acc_top (acc_trees_of [] nodes)

-- a tree in postfix order leaves that tree
pub acc_trees_of-postfix : (tree : AccTree) (trees : List AccTree) (rest : List AccNode)
    → acc_trees_of trees (acc_postfix tree ++ rest) ≡ acc_trees_of (tree ∷ trees) rest
acc_trees_of-postfix (constant value) trees rest = refl
acc_trees_of-postfix (inf negated set) trees rest = refl
acc_trees_of-postfix (fin negated set) trees rest = refl
acc_trees_of-postfix (conjunction left right) trees rest =
    ap (acc_trees_of trees) (regrouped (acc_postfix left) (acc_postfix right) And rest)
    ∙ (acc_trees_of-postfix left trees (acc_postfix right ++ And ∷ rest)
    ∙ acc_trees_of-postfix right (left ∷ trees) (And ∷ rest))
acc_trees_of-postfix (disjunction left right) trees rest =
    ap (acc_trees_of trees) (regrouped (acc_postfix left) (acc_postfix right) Or rest)
    ∙ (acc_trees_of-postfix left trees (acc_postfix right ++ Or ∷ rest)
    ∙ acc_trees_of-postfix right (left ∷ trees) (Or ∷ rest))

-- postfix order gives its tree back
pub acc_tree_of-postfix : (tree : AccTree) → acc_tree_of (acc_postfix tree) ≡ tree
acc_tree_of-postfix tree = ap acc_tree_of (sym (append-nil (acc_postfix tree)))
    ∙ ap acc_top (acc_trees_of-postfix tree [] [])

-- a tree is stored as its nodes
abbrev pub acc_code : Coded AccTree
acc_code = code_by (List AccNode)
    (coded_list node.the_row.coded) acc_postfix acc_tree_of acc_tree_of-postfix

-- nodes that are a tree in postfix order, with its depth, which is within the limit
pub record IsAcc (nodes : List AccNode) (deep : ℕ) : Type 0 where
  pub flat : acc_postfix (acc_tree_of nodes) ≡ nodes
  pub depth_is : acc_depth (acc_tree_of nodes) ≡ deep
  pub shallow : deep ≤ most_depth
