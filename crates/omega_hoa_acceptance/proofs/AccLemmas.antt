-- Acceptance formulas in postfix order: what makes nodes a formula.
use Rattle.std.proofs.Common.{◌≡◌, ℕ, ◌≤◌, List, [], ◌∷◌, ◌++◌, ap, append_assoc, arith, sym, ◌∙◌}
use Rattle.omega_hoa_acceptance.specs.Acceptance.{AccTree, acc_depth, conjunction, constant, disjunction, fin, inf}
use Rattle.omega_hoa_expression.specs.Limits.{most_depth}
use Rattle.omega_hoa_acceptance.specs.private.layout.Acceptance.{IsAcc, acc_postfix, acc_tree_of, acc_tree_of-postfix}
use Rattle.omega_hoa_acceptance.specs.declared.formula.AccNode.{AccNode}
use Rattle.omega_hoa_acceptance.specs.declared.formula.AccNode.TheVariants.{And, Or}

-- a tree's nodes give that tree
pub acc_tree-is : (tree : AccTree) (nodes : List AccNode) → nodes ≡ acc_postfix tree → acc_tree_of nodes ≡ tree
acc_tree-is tree nodes flat = ap acc_tree_of flat ∙ acc_tree_of-postfix tree

-- a tree's nodes and depth are a formula
pub IsAcc-of : (tree : AccTree) (nodes : List AccNode) (deep : ℕ)
    → nodes ≡ acc_postfix tree → deep ≡ acc_depth tree → deep ≤ most_depth → IsAcc nodes deep
IsAcc-of tree nodes deep flat depth_is shallow =
    let is : acc_tree_of nodes ≡ tree = acc_tree-is tree nodes flat in
    record { flat = ap acc_postfix is ∙ sym flat; depth_is = ap acc_depth is ∙ sym depth_is; shallow = shallow }

-- a formula's nodes are those of the tree that is seen
pub acc_nodes-seen : (tree : AccTree) (nodes : List AccNode) (deep : ℕ) → IsAcc nodes deep → acc_tree_of nodes ≡ tree → nodes ≡ acc_postfix tree
acc_nodes-seen tree nodes deep is seen = sym is.flat ∙ ap acc_postfix seen

-- the nodes of two formulas and `&`
pub acc_nodes-conjunction : (left right : AccTree) (one other both all : List AccNode)
    → one ≡ acc_postfix left → other ≡ acc_postfix right → both ≡ one ++ other → all ≡ both ++ And ∷ []
    → all ≡ acc_postfix (conjunction left right)
acc_nodes-conjunction left right one other both all is_left is_right joined ended =
    let regrouped = append_assoc (acc_postfix left) (acc_postfix right) (And ∷ []) in cc

-- the nodes of two formulas and `|`
pub acc_nodes-disjunction : (left right : AccTree) (one other both all : List AccNode)
    → one ≡ acc_postfix left → other ≡ acc_postfix right → both ≡ one ++ other → all ≡ both ++ Or ∷ []
    → all ≡ acc_postfix (disjunction left right)
acc_nodes-disjunction left right one other both all is_left is_right joined ended =
    let regrouped = append_assoc (acc_postfix left) (acc_postfix right) (Or ∷ []) in cc

-- a formula has a depth
pub acc_depth-positive : (tree : AccTree) → 1 ≤ acc_depth tree
acc_depth-positive (constant value) = omega arith
acc_depth-positive (inf negated set) = omega arith
acc_depth-positive (fin negated set) = omega arith
acc_depth-positive (conjunction left right) = omega arith
acc_depth-positive (disjunction left right) = omega arith

-- formulas with the same nodes are the same
pub acc_postfix-same : (one other : AccTree) → acc_postfix one ≡ acc_postfix other → one ≡ other
acc_postfix-same one other same = sym (acc_tree_of-postfix one) ∙ (ap acc_tree_of same ∙ acc_tree_of-postfix other)
