-- Letters, which are the sets of propositions that hold at once. At which of them two edges of a state can be taken.
use Rattle.std.specs.Prelude.{◌≡◌, ℕ, ◌<◌, List, slice_get, Some}
use Rattle.omega_hoa_label.specs.Label.{LabelTree, conjunction}
use Rattle.omega_hoa_satisfiable.specs.Satisfiable.{IsSatisfiable}

-- the labels of two different edges of a state, in their order
pub record IsPair (labels : List LabelTree) (one other : LabelTree) : Type 0 where
  pub first : ℕ
  pub second : ℕ
  pub in_order : first < second
  pub first_is : slice_get labels first ≡ Some one
  pub second_is : slice_get labels second ≡ Some other

-- at some letter two edges can be taken
abbrev pub HasClash : List LabelTree → Type 0
HasClash labels =
    (one : LabelTree) × ((other : LabelTree)
    × IsPair labels one other × IsSatisfiable (conjunction one other))

-- at each letter at most one edge can be taken
abbrev pub AreExclusive : List LabelTree → Type 0
AreExclusive labels = HasClash labels → ⊥
