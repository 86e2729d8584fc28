-- Labels over other propositions: each proposition has a number there.
use Rattle.std.specs.Prelude.{ℕ, List, slice_index_or}
use Rattle.omega_hoa_label.specs.Label.{LabelTree, conjunction, constant, disjunction, negation, proposition}

-- the number of a proposition there; `places` gives it for each proposition, and it is 0 for those beyond
abbrev pub number_among : List ℕ → ℕ → ℕ
number_among places number = slice_index_or places number 0

-- a label over those propositions
abbrev pub relabelled : List ℕ → LabelTree → LabelTree
relabelled places (constant value) = constant value
relabelled places (proposition number) = proposition (number_among places number)
relabelled places (negation part) = negation (relabelled places part)
relabelled places (conjunction left right) =
    conjunction (relabelled places left) (relabelled places right)
relabelled places (disjunction left right) =
    disjunction (relabelled places left) (relabelled places right)
