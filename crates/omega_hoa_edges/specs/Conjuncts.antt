-- The conjunction of two labels in which no conjunct stands twice.
use Rattle.std.specs.Prelude.{Bool, true, List, [], ◌∷◌, ◌++◌, fold}
use Rattle.indexmap.specs.IndexSet.{insert_all}
use Rattle.omega_hoa_label.specs.Label.{LabelTree, conjunction, constant, negation}
use Rattle.omega_hoa_label.specs.contracts.label.LabelPartialEq.TheImpl as label

-- the conjuncts of a label from left to right: what its outer `&` join, but for `t`, and without `!` in pairs
abbrev pub conjuncts : LabelTree → List LabelTree
conjuncts (constant true) = []
conjuncts (conjunction left right) = conjuncts left ++ conjuncts right
conjuncts (negation (negation part)) = conjuncts part
conjuncts other = other ∷ []

-- whether two labels are the same, by `==` of labels: node by node
abbrev pub same_label : LabelTree → LabelTree → Bool
same_label one other = label.ghosts.eq one other

-- labels, each once, where it first stands
abbrev pub each_once : List LabelTree → List LabelTree
each_once labels = insert_all same_label [] labels

-- the conjunction of labels, from the left, `t` if there is none
abbrev pub all_of : List LabelTree → LabelTree
all_of [] = constant true
all_of (first ∷ others) = fold conjunction first others

-- the conjunction of two labels: of the conjuncts of both, each once
abbrev pub joined : LabelTree → LabelTree → LabelTree
joined one other = all_of (each_once (conjuncts one ++ conjuncts other))
