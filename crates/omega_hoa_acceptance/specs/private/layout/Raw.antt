-- How an acceptance formula as it is written lies in memory: its tree in postfix order,
-- and its atoms' names one after another.
use Rattle.std.specs.Prelude.{◌≡◌, ℕ, false, List, [], ◌∷◌, ◌++◌, length, take, drop}
use Rattle.std.specs.Coded.{Coded, code_by, coded_list, coded×, coded_ℕ}
use Rattle.omega_hoa_expression.specs.Depth.{counted}
use Rattle.omega_hoa_acceptance.specs.Raw.{RawAccTree, atom, conjunction, constant}
use Rattle.omega_hoa_acceptance.specs.Raw.{disjunction, group, raw_acc_depth}
use Rattle.omega_hoa_expression.specs.Joins.{regrouped}
use Rattle.omega_hoa_acceptance.specs.contracts.raw.RawAccNode as node
use Rattle.omega_hoa_acceptance.specs.declared.raw.RawAccNode.{RawAccNode}
use Rattle.omega_hoa_acceptance.specs.declared.raw.RawAccNode.TheVariants.{And, Atom, Constant, Group, Or}
use Rattle.std.proofs.Common.{append_assoc, append-nil, ap, refl, sym, ◌∙◌}
use Rattle.std.proofs.Math.Seq.{drop-append_seam, take-append_seam}

-- a tree in postfix order: its parts, and then its operator; of an atom the length of its name
abbrev pub raw_acc_postfix : RawAccTree → List RawAccNode
raw_acc_postfix (constant value) = Constant value ∷ []
raw_acc_postfix (atom name negated set) = Atom (length name) negated set ∷ []
raw_acc_postfix (conjunction left right) =
    raw_acc_postfix left ++ (raw_acc_postfix right ++ And ∷ [])
raw_acc_postfix (disjunction left right) = raw_acc_postfix left ++ (raw_acc_postfix right ++ Or ∷ [])
raw_acc_postfix (group part) = raw_acc_postfix part ++ Group ∷ []

-- the atoms' names of a tree from left to right, joined
abbrev pub atom_names : RawAccTree → List ℕ
atom_names (constant value) = []
atom_names (atom name negated set) = name
atom_names (conjunction left right) = atom_names left ++ atom_names right
atom_names (disjunction left right) = atom_names left ++ atom_names right
atom_names (group part) = atom_names part

-- the tree on top, or a constant if there is none
abbrev pub raw_acc_top : List RawAccTree → RawAccTree
raw_acc_top [] = constant false
raw_acc_top (tree ∷ trees) = tree

-- the trees below the top
abbrev pub raw_acc_below : List RawAccTree → List RawAccTree
raw_acc_below [] = []
raw_acc_below (tree ∷ trees) = trees

-- the trees that nodes leave of those before them, if these names are left
abbrev pub raw_acc_trees_of : List RawAccTree → List ℕ → List RawAccNode → List RawAccTree
raw_acc_trees_of trees names [] = trees
raw_acc_trees_of trees names (Constant value ∷ nodes) =
    raw_acc_trees_of (constant value ∷ trees) names nodes
raw_acc_trees_of trees names (Atom count negated set ∷ nodes) =
    raw_acc_trees_of (atom (take count names) negated set ∷ trees) (drop count names) nodes
raw_acc_trees_of trees names (And ∷ nodes) =
    raw_acc_trees_of (conjunction (raw_acc_top (raw_acc_below trees)) (raw_acc_top trees)
    ∷ raw_acc_below (raw_acc_below trees)) names nodes
raw_acc_trees_of trees names (Or ∷ nodes) =
    raw_acc_trees_of (disjunction (raw_acc_top (raw_acc_below trees)) (raw_acc_top trees)
    ∷ raw_acc_below (raw_acc_below trees)) names nodes
raw_acc_trees_of trees names (Group ∷ nodes) =
    raw_acc_trees_of (group (raw_acc_top trees) ∷ raw_acc_below trees) names nodes

-- the tree of nodes in postfix order and their names
abbrev pub raw_acc_tree_of : List RawAccNode → List ℕ → RawAccTree
raw_acc_tree_of nodes names = raw_acc_top (raw_acc_trees_of [] names nodes)

-- a tree in postfix order leaves that tree, and the names after its own
pub raw_acc_trees_of-postfix : (tree : RawAccTree)
    (trees : List RawAccTree) (names : List ℕ) (rest : List RawAccNode)
    → raw_acc_trees_of trees (atom_names tree ++ names) (raw_acc_postfix tree ++ rest)
    ≡ raw_acc_trees_of (tree ∷ trees) names rest
raw_acc_trees_of-postfix (constant value) trees names rest = refl
raw_acc_trees_of-postfix (atom name negated set) trees names rest =
    ap (λ front. raw_acc_trees_of (atom front negated set ∷ trees)
    (drop (length name) (name ++ names)) rest) (take-append_seam name names)
    ∙ ap (λ back. raw_acc_trees_of (atom name negated set ∷ trees) back rest)
    (drop-append_seam name names)
raw_acc_trees_of-postfix (group part) trees names rest =
    ap (raw_acc_trees_of trees (atom_names part ++ names))
    (append_assoc (raw_acc_postfix part) (Group ∷ []) rest)
    ∙ raw_acc_trees_of-postfix part trees names (Group ∷ rest)
raw_acc_trees_of-postfix (conjunction left right) trees names rest =
    ap (λ more. raw_acc_trees_of trees more (raw_acc_postfix (conjunction left right) ++ rest))
    (append_assoc (atom_names left) (atom_names right) names)
    ∙ (ap (raw_acc_trees_of trees (atom_names left ++ (atom_names right ++ names)))
    (regrouped (raw_acc_postfix left) (raw_acc_postfix right) And rest)
    ∙ (raw_acc_trees_of-postfix left trees (atom_names right ++ names) (raw_acc_postfix right ++ And ∷ rest)
    ∙ raw_acc_trees_of-postfix right (left ∷ trees) names (And ∷ rest)))
raw_acc_trees_of-postfix (disjunction left right) trees names rest =
    ap (λ more. raw_acc_trees_of trees more (raw_acc_postfix (disjunction left right) ++ rest))
    (append_assoc (atom_names left) (atom_names right) names)
    ∙ (ap (raw_acc_trees_of trees (atom_names left ++ (atom_names right ++ names)))
    (regrouped (raw_acc_postfix left) (raw_acc_postfix right) Or rest)
    ∙ (raw_acc_trees_of-postfix left trees (atom_names right ++ names) (raw_acc_postfix right ++ Or ∷ rest)
    ∙ raw_acc_trees_of-postfix right (left ∷ trees) names (Or ∷ rest)))

-- postfix order and the names give their tree back
pub raw_acc_tree_of-postfix : (tree : RawAccTree)
    → raw_acc_tree_of (raw_acc_postfix tree) (atom_names tree) ≡ tree
raw_acc_tree_of-postfix tree =
    ap (λ nodes. raw_acc_tree_of nodes (atom_names tree)) (sym (append-nil (raw_acc_postfix tree)))
    ∙ (ap (λ names. raw_acc_tree_of (raw_acc_postfix tree ++ []) names)
    (sym (append-nil (atom_names tree))) ∙ ap raw_acc_top (raw_acc_trees_of-postfix tree [] [] []))

-- a tree is stored as its nodes and names
abbrev pub raw_acc_code : Coded RawAccTree
raw_acc_code =
    code_by (List RawAccNode × List ℕ) (coded× (coded_list node.the_row.coded) (coded_list coded_ℕ))
    (λ tree. (raw_acc_postfix tree, atom_names tree))
    (λ stored. raw_acc_tree_of stored.0 stored.1) raw_acc_tree_of-postfix

-- nodes and names that are a tree in postfix order, with its depth as it is counted
pub record IsRawAcc (nodes : List RawAccNode) (names : List ℕ) (deep : ℕ) : Type 0 where
  pub flat : raw_acc_postfix (raw_acc_tree_of nodes names) ≡ nodes
  pub named : atom_names (raw_acc_tree_of nodes names) ≡ names
  pub depth_is : counted (raw_acc_depth (raw_acc_tree_of nodes names)) ≡ deep
