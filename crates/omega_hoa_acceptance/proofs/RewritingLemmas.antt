-- The nodes of a formula that is made of another are those of its tree.
use Rattle.std.proofs.Common.{◌≡◌, ℕ, ◌+◌, List, [], ◌∷◌, ◌++◌, ap, map, refl, ◌∙◌, max}
use Rattle.std.proofs.lemmas.List.{map-append}
use Rattle.omega_hoa_acceptance.specs.Acceptance.{AccTree, acc_depth}
use Rattle.omega_hoa_acceptance.specs.Acceptance as acc
use Rattle.omega_hoa_acceptance.specs.Dual.{dual}
use Rattle.omega_hoa_acceptance.specs.Moving.{moved_after}
use Rattle.omega_hoa_acceptance.specs.private.layout.Acceptance.{acc_postfix}
use Rattle.omega_hoa_acceptance.specs.private.layout.Rewriting.{dual_node, moved_node}
use Rattle.omega_hoa_acceptance.specs.declared.formula.AccNode.{AccNode}
use Rattle.omega_hoa_acceptance.specs.declared.formula.AccNode.TheVariants.{And, Or}

-- two parts and an operator, node by node
map-joined : (f : AccNode → AccNode) (left right : List AccNode) (last : AccNode)
    → map f (left ++ (right ++ last ∷ [])) ≡ map f left ++ (map f right ++ f last ∷ [])
map-joined f left right last = map-append f left (right ++ last ∷ []) ∙ ap (λ more. map f left ++ more) (map-append f right (last ∷ []))

-- parts that are the same, joined
same-joined : (one left other right : List AccNode) (last : AccNode) → one ≡ left → other ≡ right
    → one ++ (other ++ last ∷ []) ≡ left ++ (right ++ last ∷ [])
same-joined one left other right last is_left is_right = ap (λ nodes. nodes ++ (other ++ last ∷ [])) is_left ∙ ap (λ nodes. left ++ (nodes ++ last ∷ [])) is_right

pub dual-postfix : (tree : AccTree) → map dual_node (acc_postfix tree) ≡ acc_postfix (dual tree)
dual-postfix (acc.constant value) = refl
dual-postfix (acc.inf negated set) = refl
dual-postfix (acc.fin negated set) = refl
dual-postfix (acc.conjunction left right) =
    map-joined dual_node (acc_postfix left) (acc_postfix right) And ∙ same-joined _ _ _ _ Or (dual-postfix left) (dual-postfix right)
dual-postfix (acc.disjunction left right) =
    map-joined dual_node (acc_postfix left) (acc_postfix right) Or ∙ same-joined _ _ _ _ And (dual-postfix left) (dual-postfix right)

pub moved-postfix : (before : ℕ) (tree : AccTree) → map (moved_node before) (acc_postfix tree) ≡ acc_postfix (moved_after before tree)
moved-postfix before (acc.constant value) = refl
moved-postfix before (acc.inf negated set) = refl
moved-postfix before (acc.fin negated set) = refl
moved-postfix before (acc.conjunction left right) =
    map-joined (moved_node before) (acc_postfix left) (acc_postfix right) And ∙ same-joined _ _ _ _ And (moved-postfix before left) (moved-postfix before right)
moved-postfix before (acc.disjunction left right) =
    map-joined (moved_node before) (acc_postfix left) (acc_postfix right) Or ∙ same-joined _ _ _ _ Or (moved-postfix before left) (moved-postfix before right)

-- operators of parts as deep are as deep
same-deep : (one left other right : ℕ) → one ≡ left → other ≡ right → max one other + 1 ≡ max left right + 1
same-deep one left other right is_left is_right = ap (λ depth. max depth other + 1) is_left ∙ ap (λ depth. max left depth + 1) is_right

-- the dual is as deep
pub dual-deep : (tree : AccTree) → acc_depth (dual tree) ≡ acc_depth tree
dual-deep (acc.constant value) = refl
dual-deep (acc.inf negated set) = refl
dual-deep (acc.fin negated set) = refl
dual-deep (acc.conjunction left right) = same-deep _ _ _ _ (dual-deep left) (dual-deep right)
dual-deep (acc.disjunction left right) = same-deep _ _ _ _ (dual-deep left) (dual-deep right)

-- a formula with other numbers is as deep
pub moved-deep : (before : ℕ) (tree : AccTree) → acc_depth (moved_after before tree) ≡ acc_depth tree
moved-deep before (acc.constant value) = refl
moved-deep before (acc.inf negated set) = refl
moved-deep before (acc.fin negated set) = refl
moved-deep before (acc.conjunction left right) = same-deep _ _ _ _ (moved-deep before left) (moved-deep before right)
moved-deep before (acc.disjunction left right) = same-deep _ _ _ _ (moved-deep before left) (moved-deep before right)
