-- Labels as trees of boxes, and which of these are labels.
use Rattle.std.specs.Prelude.{◌≡◌, ◌≤◌, nat_lt, if◌then◌else◌, Option, None, Some}
use Rattle.omega_text.specs.Cases.{never, or_automaton, or_memory}
use Rattle.omega_text.specs.declared.refusal.Refusal.{Refusal}
use Rattle.omega_text.specs.declared.refusal.automaton.AutomatonFault.{AutomatonFault}
use Rattle.omega_text.specs.declared.refusal.automaton.AutomatonFault.TheVariants.{Expansion, TooDeep}
use Rattle.omega_hoa_label.specs.Label.{LabelTree, conjunction, constant, disjunction}
use Rattle.omega_hoa_label.specs.Label.{label_depth, label_size, negation, proposition}
use Rattle.omega_hoa_expression.specs.Limits.{most_depth, most_size}
use Rattle.omega_hoa_label.specs.declared.shape.LabelShape.{LabelShape, And', Constant}
use Rattle.omega_hoa_label.specs.declared.shape.LabelShape.{Not', Or', Proposition}

-- the label that a tree of boxes is
abbrev pub label_tree_of_shape : LabelShape → LabelTree
label_tree_of_shape (Constant value) = constant value
label_tree_of_shape (Proposition number) = proposition number
label_tree_of_shape (Not' p part) = negation (label_tree_of_shape part)
label_tree_of_shape (And' p left q right) =
    conjunction (label_tree_of_shape left) (label_tree_of_shape right)
label_tree_of_shape (Or' p left q right) =
    disjunction (label_tree_of_shape left) (label_tree_of_shape right)

-- the label is neither too deep nor too large
pub record FitsALabel (tree : LabelTree) : Type 0 where
  pub shallow : label_depth tree ≤ most_depth
  pub small : label_size tree ≤ most_size

-- the fault of a label: its depth, or else its size
abbrev pub fault_of_label : LabelTree → Option AutomatonFault
fault_of_label tree =
    if nat_lt most_depth (label_depth tree) then Some TooDeep
    else (if nat_lt most_size (label_size tree) then Some Expansion else None)

-- a refusal by the fault of a label, or want of memory
abbrev pub IsOversized : LabelTree → Refusal → Type 0
IsOversized tree = or_automaton (λ fault. fault_of_label tree ≡ Some fault) (or_memory never)
