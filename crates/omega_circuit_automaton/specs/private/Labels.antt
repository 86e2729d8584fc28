-- Labels of edges as a text writes them, by when they are true.
use Rattle.std.specs.Prelude.{◌≡◌, ◌≤◌, ℕ, Bool, true, Option, None, Some, IfNone, IfSome}
use Rattle.omega_hoa_label.specs.Label.{LabelTree, truth}
use Rattle.omega_hoa_label.specs.Raw.{RawLabelTree, conjunction}
use Rattle.omega_hoa_label.specs.Writing.{label_text, label_written}

-- a label as it is written, whose top operator binds at least so tightly, and which is true at such letters
pub record IsLabelAt (rank : ℕ) (holds : (ℕ → Bool) → Bool) (written : RawLabelTree) : Type 0 where
  pub tree : LabelTree
  pub is : written ≡ label_written tree
  pub binds : rank ≤ (label_text tree).rank
  pub exact : (letter : ℕ → Bool) → truth letter tree ≡ holds letter

-- a conjunction that is true at such letters, or none if that is each letter
pub record IsConjunction (holds : (ℕ → Bool) → Bool) (label : Option RawLabelTree) : Type 0 where
  pub some : IfSome label (IsLabelAt 2 holds)
  pub none : IfNone label ((letter : ℕ → Bool) → holds letter ≡ true)

-- the conjunction of two labels; none is true at each letter
abbrev pub conjunction_of : Option RawLabelTree → RawLabelTree → RawLabelTree
conjunction_of None more = more
conjunction_of (Some label) more = conjunction label more
