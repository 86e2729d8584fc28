-- How a label as it is written lies in memory: its tree in postfix order, and its alias names one after another.
use Rattle.std.specs.Prelude.{◌≡◌, ℕ, false, List, [], ◌∷◌, ◌++◌, length, take, drop}
use Rattle.std.specs.Coded.{Coded, code_by, coded_list, coded×, coded_ℕ}
use Rattle.omega_hoa_label.specs.Raw.{RawLabelTree, alias, conjunction, constant}
use Rattle.omega_hoa_label.specs.Raw.{disjunction, group, negation, proposition, raw_depth}
use Rattle.omega_hoa_expression.specs.Depth.{counted}
use Rattle.omega_hoa_expression.specs.Joins.{regrouped}
use Rattle.omega_hoa_label.specs.Postfix.{alias_names, raw_postfix}
use Rattle.omega_hoa_label.specs.contracts.label.LabelNode as node
use Rattle.omega_hoa_label.specs.declared.label.LabelNode.{LabelNode}
use Rattle.omega_hoa_label.specs.declared.label.LabelNode.TheVariants.{Alias, And, Constant, Group}
use Rattle.omega_hoa_label.specs.declared.label.LabelNode.TheVariants.{Not, Or, Proposition}
use Rattle.std.proofs.Common.{append_assoc, append-nil, ap, refl, sym, ◌∙◌}
use Rattle.std.proofs.Math.Seq.{drop-append_seam, take-append_seam}

-- the tree on top, or a constant if there is none
abbrev pub raw_top : List RawLabelTree → RawLabelTree
raw_top [] = constant false
raw_top (tree ∷ trees) = tree

-- the trees below the top
abbrev pub raw_below : List RawLabelTree → List RawLabelTree
raw_below [] = []
raw_below (tree ∷ trees) = trees

-- the trees that nodes leave of those before them, if these names are left
abbrev pub raw_trees_of : List RawLabelTree → List ℕ → List LabelNode → List RawLabelTree
raw_trees_of trees names [] = trees
raw_trees_of trees names (Constant value ∷ nodes) = raw_trees_of (constant value ∷ trees) names nodes
raw_trees_of trees names (Proposition number ∷ nodes) =
    raw_trees_of (proposition number ∷ trees) names nodes
raw_trees_of trees names (Alias count ∷ nodes) =
    raw_trees_of (alias (take count names) ∷ trees) (drop count names) nodes
raw_trees_of trees names (Not ∷ nodes) =
    raw_trees_of (negation (raw_top trees) ∷ raw_below trees) names nodes
raw_trees_of trees names (And ∷ nodes) =
    raw_trees_of (conjunction (raw_top (raw_below trees)) (raw_top trees)
    ∷ raw_below (raw_below trees)) names nodes
raw_trees_of trees names (Or ∷ nodes) =
    raw_trees_of (disjunction (raw_top (raw_below trees)) (raw_top trees)
    ∷ raw_below (raw_below trees)) names nodes
raw_trees_of trees names (Group ∷ nodes) =
    raw_trees_of (group (raw_top trees) ∷ raw_below trees) names nodes

-- the tree of nodes in postfix order and their names
abbrev pub raw_tree_of : List LabelNode → List ℕ → RawLabelTree
raw_tree_of nodes names = raw_top (raw_trees_of [] names nodes)

-- a tree in postfix order leaves that tree, and the names after its own
pub raw_trees_of-postfix : (tree : RawLabelTree)
    (trees : List RawLabelTree) (names : List ℕ) (rest : List LabelNode)
    → raw_trees_of trees (alias_names tree ++ names) (raw_postfix tree ++ rest)
    ≡ raw_trees_of (tree ∷ trees) names rest
raw_trees_of-postfix (constant value) trees names rest = refl
raw_trees_of-postfix (proposition number) trees names rest = refl
raw_trees_of-postfix (alias name) trees names rest =
    ap (λ front. raw_trees_of (alias front ∷ trees) (drop (length name) (name ++ names)) rest)
    (take-append_seam name names)
    ∙ ap (λ back. raw_trees_of (alias name ∷ trees) back rest) (drop-append_seam name names)
raw_trees_of-postfix (negation part) trees names rest =
    ap (raw_trees_of trees (alias_names part ++ names))
    (append_assoc (raw_postfix part) (Not ∷ []) rest)
    ∙ raw_trees_of-postfix part trees names (Not ∷ rest)
raw_trees_of-postfix (group part) trees names rest =
    ap (raw_trees_of trees (alias_names part ++ names))
    (append_assoc (raw_postfix part) (Group ∷ []) rest)
    ∙ raw_trees_of-postfix part trees names (Group ∷ rest)
raw_trees_of-postfix (conjunction left right) trees names rest =
    ap (λ more. raw_trees_of trees more (raw_postfix (conjunction left right) ++ rest))
    (append_assoc (alias_names left) (alias_names right) names)
    ∙ (ap (raw_trees_of trees (alias_names left ++ (alias_names right ++ names)))
    (regrouped (raw_postfix left) (raw_postfix right) And rest)
    ∙ (raw_trees_of-postfix left trees (alias_names right ++ names) (raw_postfix right ++ And ∷ rest)
    ∙ raw_trees_of-postfix right (left ∷ trees) names (And ∷ rest)))
raw_trees_of-postfix (disjunction left right) trees names rest =
    ap (λ more. raw_trees_of trees more (raw_postfix (disjunction left right) ++ rest))
    (append_assoc (alias_names left) (alias_names right) names)
    ∙ (ap (raw_trees_of trees (alias_names left ++ (alias_names right ++ names)))
    (regrouped (raw_postfix left) (raw_postfix right) Or rest)
    ∙ (raw_trees_of-postfix left trees (alias_names right ++ names) (raw_postfix right ++ Or ∷ rest)
    ∙ raw_trees_of-postfix right (left ∷ trees) names (Or ∷ rest)))

-- postfix order and the names give their tree back
pub raw_tree_of-postfix : (tree : RawLabelTree)
    → raw_tree_of (raw_postfix tree) (alias_names tree) ≡ tree
raw_tree_of-postfix tree =
    ap (λ nodes. raw_tree_of nodes (alias_names tree)) (sym (append-nil (raw_postfix tree)))
    ∙ (ap (λ names. raw_tree_of (raw_postfix tree ++ []) names) (sym (append-nil (alias_names tree)))
    ∙ ap raw_top (raw_trees_of-postfix tree [] [] []))

-- a tree is stored as its nodes and names
abbrev pub raw_label_code : Coded RawLabelTree
raw_label_code =
    code_by (List LabelNode × List ℕ) (coded× (coded_list node.the_row.coded) (coded_list coded_ℕ))
    (λ tree. (raw_postfix tree, alias_names tree))
    (λ stored. raw_tree_of stored.0 stored.1) raw_tree_of-postfix

-- nodes and names that are a tree in postfix order, with its depth as it is counted
pub record IsRawLabel (nodes : List LabelNode) (names : List ℕ) (deep : ℕ) : Type 0 where
  pub flat : raw_postfix (raw_tree_of nodes names) ≡ nodes
  pub named : alias_names (raw_tree_of nodes names) ≡ names
  pub depth_is : counted (raw_depth (raw_tree_of nodes names)) ≡ deep
