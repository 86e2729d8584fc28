-- Two edges of a state that can be taken together, which is at one letter, and the first such two.
use Rattle.std.specs.Prelude.{◌≡◌, ◌⊎◌, ℕ, ◌<◌, List, slice_get, Some}
use Rattle.omega_hoa_label.specs.Label.{LabelTree, conjunction}
use Rattle.omega_hoa_label.specs.Shape.{FitsALabel}
use Rattle.omega_hoa_satisfiable.specs.Satisfiable.{IsSatisfiable}
use Rattle.omega_hoa_satisfiable.specs.Undecided.{IsHardLabel}

-- two edges of a state, by their indices, of which the first comes before the second, and their labels
pub record AreTwoEdges (labels : List LabelTree) (first second : ℕ)
    (one other : LabelTree) : Type 0 where
  pub in_order : first < second
  pub first_is : slice_get labels first ≡ Some one
  pub second_is : slice_get labels second ≡ Some other

-- two edges of a state can be taken together: at some letter both of their labels are true
pub record CanBeTakenTogether (labels : List LabelTree) (first second : ℕ) : Type 0 where
  pub one : LabelTree
  pub other : LabelTree
  pub edges : AreTwoEdges labels first second one other
  pub letter : IsSatisfiable (conjunction one other)

-- whether a label can be true may be left undecided: it is too deep or too large, or hard to judge
abbrev pub MayBeUndecided : LabelTree → Type 0
MayBeUndecided label = (FitsALabel label → ⊥) ⊎ IsHardLabel label

-- if a label can be true, then that may be left undecided
abbrev pub IsPassedLabel : LabelTree → Type 0
IsPassedLabel label = IsSatisfiable label → MayBeUndecided label

-- if two edges of a state can be taken together, then that may be left undecided
abbrev pub IsPassedOver : List LabelTree → (first second : ℕ) → Type 0
IsPassedOver labels first second = (one other : LabelTree)
    → AreTwoEdges labels first second one other → IsPassedLabel (conjunction one other)

-- two edges come before two others: by the first of both, and then by the second
abbrev pub ComeBefore : (one other first second : ℕ) → Type 0
ComeBefore one other first second = (one < first) ⊎ ((one ≡ first) × (other < second))

-- the first two edges of a state that can be taken together, but for those of which that may be left undecided
pub record IsFirstChoice (labels : List LabelTree) (first second : ℕ) : Type 0 where
  pub together : CanBeTakenTogether labels first second
  pub before : (one other : ℕ) → ComeBefore one other first second → IsPassedOver labels one other

-- of each two edges of a state that can be taken together, that may be left undecided
abbrev pub AreAllPassedOver : List LabelTree → Type 0
AreAllPassedOver labels = (first second : ℕ) → IsPassedOver labels first second
