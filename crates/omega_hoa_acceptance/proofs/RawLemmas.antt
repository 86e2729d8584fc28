-- Acceptance formulas as they are written in postfix order: what makes nodes and names a formula.
use Rattle.std.proofs.Common.{◌≡◌, ℕ, List, [], ◌∷◌, ◌++◌, ap, append_assoc, sym, ◌∙◌, ◌+◌, max, refl}
use Rattle.omega_hoa_acceptance.specs.Raw.{RawAccTree, conjunction, disjunction, group, raw_acc_depth}
use Rattle.omega_hoa_expression.specs.Depth.{counted}
use Rattle.omega_hoa_acceptance.specs.private.layout.Raw.{IsRawAcc, atom_names, raw_acc_postfix, raw_acc_tree_of, raw_acc_tree_of-postfix}
use Rattle.omega_hoa_acceptance.specs.private.layout.Joining.{IsJoining, joined_by}
use Rattle.omega_hoa_acceptance.specs.declared.raw.RawAccNode.{RawAccNode}
use Rattle.omega_hoa_acceptance.specs.declared.raw.RawAccNode.TheVariants.{And, Atom, Constant, Group, Or}

-- nodes and names are those of a tree
pub record AreOfAcc (tree : RawAccTree) (nodes : List RawAccNode) (names : List ℕ) : Type 0 where
  pub flat : nodes ≡ raw_acc_postfix tree
  pub named : names ≡ atom_names tree

-- a tree's nodes and names give that tree
pub raw_acc_tree-is : (tree : RawAccTree) (nodes : List RawAccNode) (names : List ℕ) → AreOfAcc tree nodes names → raw_acc_tree_of nodes names ≡ tree
raw_acc_tree-is tree nodes names are =
    ap (λ more. raw_acc_tree_of more names) are.flat ∙ (ap (λ more. raw_acc_tree_of (raw_acc_postfix tree) more) are.named ∙ raw_acc_tree_of-postfix tree)

-- a tree's nodes, names and depth are a formula
pub IsRawAcc-of : (tree : RawAccTree) (nodes : List RawAccNode) (names : List ℕ) (deep : ℕ)
    → AreOfAcc tree nodes names → deep ≡ counted (raw_acc_depth tree) → IsRawAcc nodes names deep
IsRawAcc-of tree nodes names deep are depth_is =
    let is : raw_acc_tree_of nodes names ≡ tree = raw_acc_tree-is tree nodes names are in
    record {
      flat = ap raw_acc_postfix is ∙ sym are.flat;
      named = ap atom_names is ∙ sym are.named;
      depth_is = ap (λ of. counted (raw_acc_depth of)) is ∙ sym depth_is;
    }

-- a formula's nodes and names are those of the tree that is seen
pub AreOfAcc-seen : (tree : RawAccTree) (nodes : List RawAccNode) (names : List ℕ) (deep : ℕ)
    → IsRawAcc nodes names deep → raw_acc_tree_of nodes names ≡ tree → AreOfAcc tree nodes names
AreOfAcc-seen tree nodes names deep is seen = record { flat = sym is.flat ∙ ap raw_acc_postfix seen; named = sym is.named ∙ ap atom_names seen }

-- the nodes of a formula in parentheses
pub AreOfAcc-group : (part : RawAccTree) (one all : List RawAccNode) (names : List ℕ)
    → AreOfAcc part one names → all ≡ one ++ Group ∷ [] → AreOfAcc (group part) all names
AreOfAcc-group part one all names are ended = record { flat = ended ∙ ap (λ nodes. nodes ++ Group ∷ []) are.flat; named = are.named }

-- the nodes and names of two formulas and `&`
pub AreOfAcc-conjunction : (left right : RawAccTree) (one other both all : List RawAccNode) (these those names : List ℕ)
    → AreOfAcc left one these → AreOfAcc right other those → both ≡ one ++ other → all ≡ both ++ And ∷ [] → names ≡ these ++ those
    → AreOfAcc (conjunction left right) all names
AreOfAcc-conjunction left right one other both all these those names is_left is_right joined ended named =
    let regrouped = append_assoc (raw_acc_postfix left) (raw_acc_postfix right) (And ∷ []) in
    let left_flat = is_left.flat in
    let right_flat = is_right.flat in
    let left_named = is_left.named in
    let right_named = is_right.named in
    record { flat = cc; named = cc }

-- the nodes and names of two formulas and `|`
pub AreOfAcc-disjunction : (left right : RawAccTree) (one other both all : List RawAccNode) (these those names : List ℕ)
    → AreOfAcc left one these → AreOfAcc right other those → both ≡ one ++ other → all ≡ both ++ Or ∷ [] → names ≡ these ++ those
    → AreOfAcc (disjunction left right) all names
AreOfAcc-disjunction left right one other both all these those names is_left is_right joined ended named =
    let regrouped = append_assoc (raw_acc_postfix left) (raw_acc_postfix right) (Or ∷ []) in
    let left_flat = is_left.flat in
    let right_flat = is_right.flat in
    let left_named = is_left.named in
    let right_named = is_right.named in
    record { flat = cc; named = cc }

-- the nodes and names of two parts and an operator
AreOfAcc-joined : (operator : RawAccNode) (left right : RawAccTree) (one other all : List RawAccNode) (these those names : List ℕ) → IsJoining operator
    → AreOfAcc left one these → AreOfAcc right other those → all ≡ (one ++ other) ++ operator ∷ [] → names ≡ these ++ those
    → AreOfAcc (joined_by operator left right) all names
AreOfAcc-joined (Constant value) left right one other all these those names joins is_left is_right ended named = absurd joins
AreOfAcc-joined (Atom count negated set) left right one other all these those names joins is_left is_right ended named = absurd joins
AreOfAcc-joined Group left right one other all these those names joins is_left is_right ended named = absurd joins
AreOfAcc-joined And left right one other all these those names joins is_left is_right ended named =
    AreOfAcc-conjunction left right one other (one ++ other) all these those names is_left is_right refl ended named
AreOfAcc-joined Or left right one other all these those names joins is_left is_right ended named =
    AreOfAcc-disjunction left right one other (one ++ other) all these those names is_left is_right refl ended named

-- the same of what was taken apart, appended and put together again
pub AreOfAcc-appended : (operator : RawAccNode) (left right : RawAccTree) (one other first second all made : List RawAccNode) (these those before more names last : List ℕ)
    → IsJoining operator → AreOfAcc left one these → AreOfAcc right other those → first ≡ one → before ≡ these → second ≡ other → more ≡ those
    → all ≡ (first ++ second) ++ operator ∷ [] → names ≡ before ++ more → made ≡ all → last ≡ names → AreOfAcc (joined_by operator left right) made last
AreOfAcc-appended operator left right one other first second all made these those before more names last joins is_left is_right opened opened_names lent lent_names flat named closed closed_names =
    let nodes : made ≡ (one ++ other) ++ operator ∷ [] = cc in
    let names_last : last ≡ these ++ those = cc in
    AreOfAcc-joined operator left right one other made these those last joins is_left is_right nodes names_last

-- an operator has one more than its deeper part
pub joined_deep : (operator : RawAccNode) (left right : RawAccTree) → raw_acc_depth (joined_by operator left right) ≡ max (raw_acc_depth left) (raw_acc_depth right) + 1
joined_deep (Constant value) left right = refl
joined_deep (Atom count negated set) left right = refl
joined_deep Group left right = refl
joined_deep And left right = refl
joined_deep Or left right = refl
