-- How a label lies in memory: its tree in postfix order.
use Rattle.std.specs.Prelude.{◌≡◌, ◌≤◌, false, List, [], ◌∷◌, ◌++◌}
use Rattle.std.specs.Coded.{Coded, code_by, coded_list}
use Rattle.omega_hoa_label.specs.Label.{LabelTree, conjunction, constant, disjunction}
use Rattle.omega_hoa_label.specs.Label.{label_depth, negation, proposition}
use Rattle.omega_hoa_expression.specs.Limits.{most_depth}
use Rattle.omega_hoa_expression.specs.Joins.{regrouped}
use Rattle.omega_hoa_label.specs.Postfix.{postfix}
use Rattle.omega_hoa_label.specs.contracts.label.LabelNode as node
use Rattle.omega_hoa_label.specs.declared.label.LabelNode.{LabelNode}
use Rattle.omega_hoa_label.specs.declared.label.LabelNode.TheVariants.{Alias, And, Constant, Group}
use Rattle.omega_hoa_label.specs.declared.label.LabelNode.TheVariants.{Not, Or, Proposition}
use Rattle.std.proofs.Common.{append_assoc, append-nil, ap, refl, sym, ◌∙◌}

-- the tree on top, or a constant if there is none
abbrev pub top : List LabelTree → LabelTree
top [] = constant false
top (tree ∷ trees) = tree

-- the trees below the top
abbrev pub below : List LabelTree → List LabelTree
below [] = []
below (tree ∷ trees) = trees

-- the trees that a node leaves of those before it; an alias or parentheses, which no label has, leave them as they are
abbrev pub joined : List LabelTree → LabelNode → List LabelTree
joined trees (Constant value) = constant value ∷ trees
joined trees (Proposition number) = proposition number ∷ trees
joined trees Not = negation (top trees) ∷ below trees
joined trees And = conjunction (top (below trees)) (top trees) ∷ below (below trees)
joined trees Or = disjunction (top (below trees)) (top trees) ∷ below (below trees)
joined trees (Alias count) = trees
joined trees Group = trees

-- the trees that nodes leave of those before them
abbrev pub trees_of : List LabelTree → List LabelNode → List LabelTree
trees_of trees [] = trees
trees_of trees (next ∷ nodes) = trees_of (joined trees next) nodes

-- the tree of nodes in postfix order
abbrev pub tree_of : List LabelNode → LabelTree
tree_of nodes = top (trees_of [] nodes)

-- a tree in postfix order leaves that tree
pub trees_of-postfix : (tree : LabelTree) (trees : List LabelTree) (rest : List LabelNode)
    → trees_of trees (postfix tree ++ rest) ≡ trees_of (tree ∷ trees) rest
trees_of-postfix (constant value) trees rest = refl
trees_of-postfix (proposition number) trees rest = refl
trees_of-postfix (negation part) trees rest =
    ap (trees_of trees) (append_assoc (postfix part) (Not ∷ []) rest)
    ∙ trees_of-postfix part trees (Not ∷ rest)
trees_of-postfix (conjunction left right) trees rest =
    ap (trees_of trees) (regrouped (postfix left) (postfix right) And rest)
    ∙ (trees_of-postfix left trees (postfix right ++ And ∷ rest)
    ∙ trees_of-postfix right (left ∷ trees) (And ∷ rest))
trees_of-postfix (disjunction left right) trees rest =
    ap (trees_of trees) (regrouped (postfix left) (postfix right) Or rest)
    ∙ (trees_of-postfix left trees (postfix right ++ Or ∷ rest)
    ∙ trees_of-postfix right (left ∷ trees) (Or ∷ rest))

-- postfix order gives its tree back
pub tree_of-postfix : (tree : LabelTree) → tree_of (postfix tree) ≡ tree
tree_of-postfix tree = ap (λ nodes. top (trees_of [] nodes)) (sym (append-nil (postfix tree)))
    ∙ ap top (trees_of-postfix tree [] [])

-- a tree is stored as its nodes
abbrev pub label_code : Coded LabelTree
label_code = code_by (List LabelNode) (coded_list node.the_row.coded) postfix tree_of tree_of-postfix

-- nodes that are a tree in postfix order, which is not too deep
pub record IsLabelInPostfix (nodes : List LabelNode) : Type 0 where
  pub flat : postfix (tree_of nodes) ≡ nodes
  pub shallow : label_depth (tree_of nodes) ≤ most_depth
