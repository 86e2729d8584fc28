-- Labels as they are written in postfix order: what makes nodes and names a label.
use Rattle.std.proofs.Common.{◌≡◌, ℕ, List, [], ◌∷◌, ◌++◌, ap, append_assoc, sym, ◌∙◌, ◌+◌, max, refl}
use Rattle.omega_hoa_label.specs.Raw.{RawLabelTree, conjunction, disjunction, group, negation, raw_depth}
use Rattle.omega_hoa_expression.specs.Depth.{counted}
use Rattle.omega_hoa_label.specs.private.layout.Raw.{IsRawLabel, raw_tree_of, raw_tree_of-postfix}
use Rattle.omega_hoa_label.specs.Postfix.{AreOf, alias_names, raw_postfix}
use Rattle.omega_hoa_label.specs.private.layout.Joining.{IsJoining, joined_by}
use Rattle.omega_hoa_label.specs.declared.label.LabelNode.{LabelNode}
use Rattle.omega_hoa_label.specs.declared.label.LabelNode.TheVariants.{Alias, And, Constant, Group, Not, Or, Proposition}

-- a tree's nodes and names give that tree
pub raw_tree-is : (tree : RawLabelTree) (nodes : List LabelNode) (names : List ℕ) → AreOf tree nodes names → raw_tree_of nodes names ≡ tree
raw_tree-is tree nodes names are =
    ap (λ more. raw_tree_of more names) are.flat ∙ (ap (λ more. raw_tree_of (raw_postfix tree) more) are.named ∙ raw_tree_of-postfix tree)

-- a tree's nodes, names and depth are a label
pub IsRawLabel-of : (tree : RawLabelTree) (nodes : List LabelNode) (names : List ℕ) (deep : ℕ)
    → AreOf tree nodes names → deep ≡ counted (raw_depth tree) → IsRawLabel nodes names deep
IsRawLabel-of tree nodes names deep are depth_is =
    let is : raw_tree_of nodes names ≡ tree = raw_tree-is tree nodes names are in
    record {
      flat = ap raw_postfix is ∙ sym are.flat;
      named = ap alias_names is ∙ sym are.named;
      depth_is = ap (λ of. counted (raw_depth of)) is ∙ sym depth_is;
    }

-- a label's nodes and names are those of the tree that is seen
pub AreOf-seen : (tree : RawLabelTree) (nodes : List LabelNode) (names : List ℕ) (deep : ℕ)
    → IsRawLabel nodes names deep → raw_tree_of nodes names ≡ tree → AreOf tree nodes names
AreOf-seen tree nodes names deep is seen = record { flat = sym is.flat ∙ ap raw_postfix seen; named = sym is.named ∙ ap alias_names seen }

-- the nodes of a label and `!`
pub AreOf-negation : (part : RawLabelTree) (one all : List LabelNode) (names : List ℕ)
    → AreOf part one names → all ≡ one ++ Not ∷ [] → AreOf (negation part) all names
AreOf-negation part one all names are ended = record { flat = ended ∙ ap (λ nodes. nodes ++ Not ∷ []) are.flat; named = are.named }

-- the nodes of a label in parentheses
pub AreOf-group : (part : RawLabelTree) (one all : List LabelNode) (names : List ℕ)
    → AreOf part one names → all ≡ one ++ Group ∷ [] → AreOf (group part) all names
AreOf-group part one all names are ended = record { flat = ended ∙ ap (λ nodes. nodes ++ Group ∷ []) are.flat; named = are.named }

-- the nodes and names of two labels and `&`
pub AreOf-conjunction : (left right : RawLabelTree) (one other both all : List LabelNode) (these those names : List ℕ)
    → AreOf left one these → AreOf right other those → both ≡ one ++ other → all ≡ both ++ And ∷ [] → names ≡ these ++ those
    → AreOf (conjunction left right) all names
AreOf-conjunction left right one other both all these those names is_left is_right joined ended named =
    let regrouped = append_assoc (raw_postfix left) (raw_postfix right) (And ∷ []) in
    let left_flat = is_left.flat in
    let right_flat = is_right.flat in
    let left_named = is_left.named in
    let right_named = is_right.named in
    record { flat = cc; named = cc }

-- the nodes and names of two labels and `|`
pub AreOf-disjunction : (left right : RawLabelTree) (one other both all : List LabelNode) (these those names : List ℕ)
    → AreOf left one these → AreOf right other those → both ≡ one ++ other → all ≡ both ++ Or ∷ [] → names ≡ these ++ those
    → AreOf (disjunction left right) all names
AreOf-disjunction left right one other both all these those names is_left is_right joined ended named =
    let regrouped = append_assoc (raw_postfix left) (raw_postfix right) (Or ∷ []) in
    let left_flat = is_left.flat in
    let right_flat = is_right.flat in
    let left_named = is_left.named in
    let right_named = is_right.named in
    record { flat = cc; named = cc }

-- the nodes and names of two parts and an operator
pub AreOf-joined : (operator : LabelNode) (left right : RawLabelTree) (one other all : List LabelNode) (these those names : List ℕ) → IsJoining operator
    → AreOf left one these → AreOf right other those → all ≡ (one ++ other) ++ operator ∷ [] → names ≡ these ++ those
    → AreOf (joined_by operator left right) all names
AreOf-joined (Constant value) left right one other all these those names joins is_left is_right ended named = absurd joins
AreOf-joined (Proposition number) left right one other all these those names joins is_left is_right ended named = absurd joins
AreOf-joined (Alias count) left right one other all these those names joins is_left is_right ended named = absurd joins
AreOf-joined Not left right one other all these those names joins is_left is_right ended named = absurd joins
AreOf-joined Group left right one other all these those names joins is_left is_right ended named = absurd joins
AreOf-joined And left right one other all these those names joins is_left is_right ended named =
    AreOf-conjunction left right one other (one ++ other) all these those names is_left is_right refl ended named
AreOf-joined Or left right one other all these those names joins is_left is_right ended named =
    AreOf-disjunction left right one other (one ++ other) all these those names is_left is_right refl ended named

-- an operator has one more than its deeper part
pub joined_deep : (operator : LabelNode) (left right : RawLabelTree) → raw_depth (joined_by operator left right) ≡ max (raw_depth left) (raw_depth right) + 1
joined_deep (Constant value) left right = refl
joined_deep (Proposition number) left right = refl
joined_deep (Alias count) left right = refl
joined_deep Not left right = refl
joined_deep Group left right = refl
joined_deep And left right = refl
joined_deep Or left right = refl
