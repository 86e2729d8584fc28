-- The labels of the edges of a state that are judged: each alone, and each two together.
use Rattle.std.specs.Prelude.{◌≡◌, ℕ, List, slice_get, Some}
use Rattle.omega_hoa_label.specs.Label.{LabelTree, conjunction}
use Rattle.omega_hoa_label.specs.Shape.{FitsALabel}
use Rattle.omega_hoa_satisfiable.specs.Undecided.{IsHardLabel}
use Rattle.omega_hoa_edges.specs.Letters.{IsPair}

-- the label of an edge
abbrev pub IsOne : List LabelTree → LabelTree → Type 0
IsOne labels label = (index : ℕ) × (slice_get labels index ≡ Some label)

-- the conjunction of two of the labels
abbrev pub IsBoth : List LabelTree → LabelTree → Type 0
IsBoth labels label = (one : LabelTree)
    × ((other : LabelTree) × IsPair labels one other × (label ≡ conjunction one other))

-- the label of an edge is too deep or too large
abbrev pub HasLargeEdge : List LabelTree → Type 0
HasLargeEdge labels = (label : LabelTree) × IsOne labels label × (FitsALabel label → ⊥)

-- the labels of two edges together are too deep or too large
abbrev pub HasLargeBoth : List LabelTree → Type 0
HasLargeBoth labels = (label : LabelTree) × IsBoth labels label × (FitsALabel label → ⊥)

-- the labels of two edges together may be left undecided
abbrev pub HasUndecidedBoth : List LabelTree → Type 0
HasUndecidedBoth labels = (label : LabelTree) × IsBoth labels label × IsHardLabel label

-- the conjunction of each two labels is neither too deep nor too large
abbrev pub BothFit : List LabelTree → Type 0
BothFit labels = (label : LabelTree) → IsBoth labels label → FitsALabel label
