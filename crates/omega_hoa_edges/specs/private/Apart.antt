-- Labels of a state that are judged two by two.
use Rattle.std.specs.Prelude.{◌≡◌, ℕ, ◌<◌, ◌≤◌, Bool, true, List, slice_get, Some}
use Rattle.omega_hoa_label.specs.Label.{LabelTree, conjunction, disjunction, label_size, truth}
use Rattle.omega_hoa_satisfiable.specs.Satisfiable.{IsSatisfiable}
use Rattle.omega_hoa_satisfiable.specs.Tables.{IsWideTable}
use Rattle.omega_hoa_satisfiable.specs.declared.wide_table.WideTable.{WideTable}
use Rattle.omega_hoa_label.specs.Shape.{FitsALabel}

-- two labels fit together, and at no letter both are true
pub record IsApart (one other : LabelTree) : Type 0 where
  pub fits : FitsALabel (conjunction one other)
  pub apart : IsSatisfiable (conjunction one other) → ⊥

-- the label at `second` is apart from the labels at places below `count`
abbrev pub IsApartFrom : List LabelTree → ℕ → ℕ → Type 0
IsApartFrom labels second count =
    (first : ℕ) (one other : LabelTree) → first < count → slice_get labels first ≡ Some one
    → slice_get labels second ≡ Some other → IsApart one other

-- each label at a place below `count` is apart from those before it
abbrev pub AreApartTo : List LabelTree → ℕ → Type 0
AreApartTo labels count = (second : ℕ) → second < count → IsApartFrom labels second second

-- the table is that of a label which is true wherever one of the first labels is; these are small
pub record AreAddedUp (labels : List LabelTree) (count : ℕ) (table : WideTable) : Type 0 where
  pub any : LabelTree
  pub tabled : IsWideTable any table
  pub small : (place : ℕ) (label : LabelTree) → place < count → slice_get labels place ≡ Some label
      → label_size label ≤ 127
  pub holds : (place : ℕ) (label : LabelTree) → place < count → slice_get labels place ≡ Some label
      → (letter : ℕ → Bool) → truth letter label ≡ true → truth letter any ≡ true

-- a small label was added to the table of another one, with which it can't be true
pub record IsAddedApart (one label : LabelTree) (new : WideTable) : Type 0 where
  pub small : label_size label ≤ 127
  pub apart : IsSatisfiable (conjunction one label) → ⊥
  pub tabled : IsWideTable (disjunction one label) new
