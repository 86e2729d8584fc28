-- Labels in postfix order: their count of nodes, and their depth.
use Rattle.std.proofs.Common.{◌≡◌, ◌+◌, [], ◌∷◌, ◌++◌, ◌≤◌, length, ap, refl, ◌∙◌, arith, length-append}
use Rattle.omega_hoa_label.specs.Label.{LabelTree, conjunction, constant, disjunction, label_depth, label_size, negation, proposition}
use Rattle.omega_hoa_label.specs.Postfix.{postfix}
use Rattle.omega_hoa_label.specs.declared.label.LabelNode.TheVariants.{And, Not, Or}

-- there is a node for each atom and operator
pub length-postfix : (tree : LabelTree) → length (postfix tree) ≡ label_size tree
length-postfix (constant value) = refl
length-postfix (proposition number) = refl
length-postfix (negation part) = length-append (postfix part) (Not ∷ []) ∙ ap (λ n. n + 1) (length-postfix part)
length-postfix (conjunction left right) =
    omega (arith, length-append (postfix left) (postfix right ++ And ∷ []), length-append (postfix right) (And ∷ []), length-postfix left, length-postfix right)
length-postfix (disjunction left right) =
    omega (arith, length-append (postfix left) (postfix right ++ Or ∷ []), length-append (postfix right) (Or ∷ []), length-postfix left, length-postfix right)

-- each label is at least one deep
pub depth-positive : (tree : LabelTree) → 1 ≤ label_depth tree
depth-positive (constant value) = omega arith
depth-positive (proposition number) = omega arith
depth-positive (negation part) = omega arith
depth-positive (conjunction left right) = omega arith
depth-positive (disjunction left right) = omega arith
