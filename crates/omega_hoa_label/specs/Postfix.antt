-- A label as nodes, each behind its parts: without aliases and parentheses, and as it is written.
use Rattle.std.specs.Prelude.{◌≡◌, ◌≤◌, ℕ, length, List, [], ◌∷◌, ◌++◌}
use Rattle.omega_hoa_expression.specs.Depth.{counted}
use Rattle.omega_hoa_expression.specs.Limits.{most_depth}
use Rattle.omega_hoa_label.specs.Label.{LabelTree, conjunction, constant, disjunction}
use Rattle.omega_hoa_label.specs.Label.{label_depth, negation, proposition}
use Rattle.omega_hoa_label.specs.Raw as raw
use Rattle.omega_hoa_label.specs.Raw.{RawLabelTree, raw_depth}
use Rattle.omega_hoa_label.specs.declared.label.LabelNode.{LabelNode}
use Rattle.omega_hoa_label.specs.declared.label.LabelNode.TheVariants.{Alias, And, Constant, Group}
use Rattle.omega_hoa_label.specs.declared.label.LabelNode.TheVariants.{Not, Or, Proposition}

-- a tree in postfix order: its parts, and then its operator
abbrev pub postfix : LabelTree → List LabelNode
postfix (constant value) = Constant value ∷ []
postfix (proposition number) = Proposition number ∷ []
postfix (negation part) = postfix part ++ Not ∷ []
postfix (conjunction left right) = postfix left ++ (postfix right ++ And ∷ [])
postfix (disjunction left right) = postfix left ++ (postfix right ++ Or ∷ [])

-- the nodes are a label, whole
abbrev pub IsInPostfix : List LabelNode → Type 0
IsInPostfix nodes = (tree : LabelTree) × (nodes ≡ postfix tree)

-- the nodes are a label, whole, and it is not too deep
pub record IsShallowInPostfix (nodes : List LabelNode) : Type 0 where
  pub tree : LabelTree
  pub flat : nodes ≡ postfix tree
  pub shallow : label_depth tree ≤ most_depth

-- a label as it is written in postfix order; of an alias the length of its name
abbrev pub raw_postfix : RawLabelTree → List LabelNode
raw_postfix (raw.constant value) = Constant value ∷ []
raw_postfix (raw.proposition number) = Proposition number ∷ []
raw_postfix (raw.alias name) = Alias (length name) ∷ []
raw_postfix (raw.negation part) = raw_postfix part ++ Not ∷ []
raw_postfix (raw.conjunction left right) = raw_postfix left ++ (raw_postfix right ++ And ∷ [])
raw_postfix (raw.disjunction left right) = raw_postfix left ++ (raw_postfix right ++ Or ∷ [])
raw_postfix (raw.group part) = raw_postfix part ++ Group ∷ []

-- the alias names of a label from left to right, joined
abbrev pub alias_names : RawLabelTree → List ℕ
alias_names (raw.constant value) = []
alias_names (raw.proposition number) = []
alias_names (raw.alias name) = name
alias_names (raw.negation part) = alias_names part
alias_names (raw.conjunction left right) = alias_names left ++ alias_names right
alias_names (raw.disjunction left right) = alias_names left ++ alias_names right
alias_names (raw.group part) = alias_names part

-- the nodes and names are those of a label as it is written
pub record AreOf (tree : RawLabelTree) (nodes : List LabelNode) (names : List ℕ) : Type 0 where
  pub flat : nodes ≡ raw_postfix tree
  pub named : names ≡ alias_names tree

-- the nodes and names are a label as it is written, whole, with its depth as it is counted
pub record IsRawInPostfix (nodes : List LabelNode) (names : List ℕ) (deep : ℕ) : Type 0 where
  pub tree : RawLabelTree
  pub are : AreOf tree nodes names
  pub deep_is : deep ≡ counted (raw_depth tree)
