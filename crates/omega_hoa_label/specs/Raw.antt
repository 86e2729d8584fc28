-- Labels as they are written, with alias names and parentheses (HOA v1, label expressions).
use Rattle.std.specs.Prelude.{ℕ, ◌+◌, Bool, List, [], ◌∷◌, ◌++◌, max}

-- a label as it is written; the name of an alias that comes from a text begins with its `@`
pub data RawLabelTree : Type 0 where
  constant : Bool → RawLabelTree
  proposition : ℕ → RawLabelTree
  alias : List ℕ → RawLabelTree
  negation : RawLabelTree → RawLabelTree
  conjunction : RawLabelTree → RawLabelTree → RawLabelTree
  disjunction : RawLabelTree → RawLabelTree → RawLabelTree
  group : RawLabelTree → RawLabelTree

-- an atom has depth 1, parentheses add one, and an operator has one more than its deeper part
abbrev pub raw_depth : RawLabelTree → ℕ
raw_depth (constant value) = 1
raw_depth (proposition number) = 1
raw_depth (alias name) = 1
raw_depth (negation part) = raw_depth part + 1
raw_depth (conjunction left right) = max (raw_depth left) (raw_depth right) + 1
raw_depth (disjunction left right) = max (raw_depth left) (raw_depth right) + 1
raw_depth (group part) = raw_depth part + 1

-- the propositions of a label from left to right, each as often as it occurs; the propositions of aliases' definitions
-- are left out
abbrev pub raw_propositions : RawLabelTree → List ℕ
raw_propositions (constant value) = []
raw_propositions (proposition number) = number ∷ []
raw_propositions (alias name) = []
raw_propositions (negation part) = raw_propositions part
raw_propositions (conjunction left right) = raw_propositions left ++ raw_propositions right
raw_propositions (disjunction left right) = raw_propositions left ++ raw_propositions right
raw_propositions (group part) = raw_propositions part
