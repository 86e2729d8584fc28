-- Labels as trees, once aliases are replaced and parentheses gone: depth, size and truth (HOA v1, label expressions).
use Rattle.std.specs.Prelude.{ℕ, ◌+◌, max, Bool, not, ◌&&◌, ◌||◌, List, [], ◌∷◌, ◌++◌}

-- a label
pub data LabelTree : Type 0 where
  constant : Bool → LabelTree
  proposition : ℕ → LabelTree
  negation : LabelTree → LabelTree
  conjunction : LabelTree → LabelTree → LabelTree
  disjunction : LabelTree → LabelTree → LabelTree

-- an atom has depth 1, and an operator one more than its deeper part
abbrev pub label_depth : LabelTree → ℕ
label_depth (constant value) = 1
label_depth (proposition number) = 1
label_depth (negation part) = label_depth part + 1
label_depth (conjunction left right) = max (label_depth left) (label_depth right) + 1
label_depth (disjunction left right) = max (label_depth left) (label_depth right) + 1

-- the tree nodes of a label: its atoms and operators
abbrev pub label_size : LabelTree → ℕ
label_size (constant value) = 1
label_size (proposition number) = 1
label_size (negation part) = label_size part + 1
label_size (conjunction left right) = label_size left + label_size right + 1
label_size (disjunction left right) = label_size left + label_size right + 1

-- the propositions of a label from left to right, each as often as it occurs
abbrev pub propositions : LabelTree → List ℕ
propositions (constant value) = []
propositions (proposition number) = number ∷ []
propositions (negation part) = propositions part
propositions (conjunction left right) = propositions left ++ propositions right
propositions (disjunction left right) = propositions left ++ propositions right

-- whether a label is true if exactly these propositions hold
abbrev pub truth : (ℕ → Bool) → LabelTree → Bool
truth held (constant value) = value
truth held (proposition number) = held number
truth held (negation part) = not (truth held part)
truth held (conjunction left right) = truth held left && truth held right
truth held (disjunction left right) = truth held left || truth held right
