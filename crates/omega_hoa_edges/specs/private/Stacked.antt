-- Labels in postfix order one after the other, and the conjuncts that are found from the last to the first.
use Rattle.std.specs.Prelude.{◌≡◌, ℕ, Bool, true, false, List, [], ◌∷◌, ◌++◌, length, map, reverse}
use Rattle.std.specs.List.{flat_map}
use Rattle.indexmap.specs.IndexSet.{insert_all}
use Rattle.omega_hoa_label.specs.Label.{LabelTree}
use Rattle.omega_hoa_label.specs.Postfix.{postfix}
use Rattle.omega_hoa_label.specs.declared.label.LabelNode.{LabelNode}
use Rattle.omega_hoa_label.specs.declared.label.LabelNode.TheVariants.{Alias, And, Constant, Group}
use Rattle.omega_hoa_label.specs.declared.label.LabelNode.TheVariants.{Not, Or, Proposition}
use Rattle.omega_hoa_edges.specs.Conjuncts.{conjuncts, same_label}

-- the nodes of labels one after the other, the first in the list behind the others
abbrev pub stacked : List LabelTree → List LabelNode
stacked [] = []
stacked (label ∷ labels) = stacked labels ++ postfix label

-- the conjuncts of a label, the last first
abbrev pub conjuncts_back : LabelTree → List LabelTree
conjuncts_back label = reverse (conjuncts label)

-- the nodes that are left are those of labels with the same conjuncts as the last label of the nodes
abbrev pub AreOpened : (nodes left : List LabelNode) → Type 0
AreOpened nodes left =
    (label : LabelTree) (labels : List LabelTree) → nodes ≡ stacked (label ∷ labels)
    → (parts : List LabelTree) × (left ≡ stacked (parts ++ labels))
    × (conjuncts_back label ≡ flat_map conjuncts_back parts)

-- the last label of the nodes is its only conjunct
abbrev pub EndInConjunct : List LabelNode → Type 0
EndInConjunct nodes = (label : LabelTree) (labels : List LabelTree)
    → nodes ≡ stacked (label ∷ labels) → conjuncts label ≡ label ∷ []

-- whether a node joins conjuncts or is `t`
abbrev pub joins : LabelNode → Bool
joins And = true
joins (Constant true) = true
joins (Constant false) = false
joins (Proposition number) = false
joins (Alias count) = false
joins Not = false
joins Group = false
joins Or = false

-- whether a node is `!`
abbrev pub is_not : LabelNode → Bool
is_not Not = true
is_not And = false
is_not (Constant value) = false
is_not (Proposition number) = false
is_not (Alias count) = false
is_not Group = false
is_not Or = false

-- the number of nodes of the last label of the nodes
abbrev pub IsLastLength : List LabelNode → ℕ → Type 0
IsLastLength nodes count = (label : LabelTree) (labels : List LabelTree)
    → nodes ≡ stacked (label ∷ labels) → count ≡ length (postfix label)

-- how many parts a node has; an alias has none
abbrev pub part_count : LabelNode → ℕ
part_count (Constant value) = 0
part_count (Proposition number) = 0
part_count (Alias count) = 0
part_count Not = 1
part_count Group = 1
part_count And = 2
part_count Or = 2

-- so many labels more make the last label of the nodes whole, in front of the nodes that are left
abbrev pub AreWanted : (nodes left : List LabelNode) → ℕ → Type 0
AreWanted nodes left count =
    (label : LabelTree) (labels : List LabelTree) → nodes ≡ stacked (label ∷ labels)
    → (parts : List LabelTree) × (length parts ≡ count) × (left ≡ stacked (parts ++ labels))

-- the nodes are those before a last `!`, if there is one
abbrev pub IsBeforeNot : List LabelNode → List LabelNode → Type 0
IsBeforeNot nodes before = nodes ≡ before ++ Not ∷ []

-- the nodes do not end in `!`
abbrev pub EndInNoNot : List LabelNode → Type 0
EndInNoNot nodes = (before : List LabelNode) → nodes ≡ before ++ Not ∷ [] → ⊥

-- the nodes that are left are those of labels, and their conjuncts and those found are those of the label of the nodes
abbrev pub AreFound : (nodes left : List LabelNode) → List (List LabelNode) → Type 0
AreFound nodes left found =
    (label : LabelTree) → nodes ≡ postfix label
    → (labels : List LabelTree) × (left ≡ stacked labels)
    × (found ++ map postfix (flat_map conjuncts_back labels) ≡ map postfix (conjuncts_back label))

-- the nodes that are left are those of labels, and adding these to those found adds all to the old ones
abbrev pub AreAdded : (old all : List LabelTree) (left : List (List LabelNode))
    (found : List LabelTree) → Type 0
AreAdded old all left found = (rest : List LabelTree) × (left ≡ map postfix rest)
    × (insert_all same_label found rest ≡ insert_all same_label old all)
