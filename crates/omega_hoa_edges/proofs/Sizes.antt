-- Labels joined are no larger than their conjunction.
use Rattle.std.proofs.Common.{◌≡◌, ℕ, ◌+◌, ◌≤◌, Bool, true, false, if◌then◌else◌, List, [], ◌∷◌, ◌++◌, fold, arith}
use Rattle.std.specs.List.{list_any}
use Rattle.indexmap.specs.IndexSet.{insert_all, insert_key}
use Rattle.omega_hoa_label.specs.Label.{LabelTree, conjunction, constant, disjunction, label_size, negation, proposition}
use Rattle.omega_hoa_edges.specs.Conjuncts.{all_of, conjuncts, each_once, joined, same_label}

-- the sizes of labels, and one more for each
abbrev sizes : List LabelTree → ℕ
sizes [] = 0
sizes (label ∷ labels) = (label_size label + 1) + sizes labels

sizes-append : (labels others : List LabelTree) → sizes (labels ++ others) ≡ sizes labels + sizes others
sizes-append [] others = omega arith
sizes-append (label ∷ labels) others = omega (arith, sizes-append labels others)

insert_sizes : (found : List LabelTree) (label : LabelTree) → sizes (insert_key same_label found label) ≤ sizes found + (label_size label + 1)
insert_sizes found label = choose (list_any (same_label label) found)
  where
    choose : (b : Bool) → sizes (if b then found else found ++ label ∷ []) ≤ sizes found + (label_size label + 1)
    choose true = omega arith
    choose false = omega (arith, sizes-append found (label ∷ []))

insert_all_sizes : (found labels : List LabelTree) → sizes (insert_all same_label found labels) ≤ sizes found + sizes labels
insert_all_sizes found [] = omega arith
insert_all_sizes found (label ∷ labels) =
    omega (arith, insert_all_sizes (insert_key same_label found label) labels, insert_sizes found label)

-- a label is as large as its conjuncts with an `&` between each two, or larger
conjuncts_sizes : (label : LabelTree) → sizes (conjuncts label) ≤ label_size label + 1
conjuncts_sizes (constant true) = omega arith
conjuncts_sizes (constant false) = omega arith
conjuncts_sizes (proposition number) = omega arith
conjuncts_sizes (negation (constant value)) = omega arith
conjuncts_sizes (negation (proposition number)) = omega arith
conjuncts_sizes (negation (negation part)) = omega (arith, conjuncts_sizes part)
conjuncts_sizes (negation (conjunction left right)) = omega arith
conjuncts_sizes (negation (disjunction left right)) = omega arith
conjuncts_sizes (conjunction left right) =
    omega (arith, sizes-append (conjuncts left) (conjuncts right), conjuncts_sizes left, conjuncts_sizes right)
conjuncts_sizes (disjunction left right) = omega arith

fold_sizes : (first : LabelTree) (others : List LabelTree) → label_size (fold conjunction first others) ≡ label_size first + sizes others
fold_sizes first [] = omega arith
fold_sizes first (other ∷ others) = omega (arith, fold_sizes (conjunction first other) others)

some_size : (label : LabelTree) → 1 ≤ label_size label
some_size (constant value) = omega arith
some_size (proposition number) = omega arith
some_size (negation part) = omega arith
some_size (conjunction left right) = omega arith
some_size (disjunction left right) = omega arith

all_of_small : (labels : List LabelTree) (most : ℕ) → 1 ≤ most → sizes labels ≤ most + 1 → label_size (all_of labels) ≤ most
all_of_small [] most some small = some
all_of_small (first ∷ others) most some small = omega (arith, fold_sizes first others, small)

-- two labels joined are no larger than their conjunction
pub joined_small : (one other : LabelTree) → label_size (joined one other) ≤ label_size (conjunction one other)
joined_small one other =
    all_of_small (each_once (conjuncts one ++ conjuncts other)) (label_size (conjunction one other))
    (some_size (conjunction one other))
    (omega (arith, insert_all_sizes [] (conjuncts one ++ conjuncts other), conjuncts_sizes (conjunction one other)))
