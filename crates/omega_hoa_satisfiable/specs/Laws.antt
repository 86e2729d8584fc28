-- What the laws of cubes say.
use Rattle.std.specs.Prelude.{◌≡◌, ℕ, ◌≤◌, Bool, true}
use Rattle.omega_hoa_expression.specs.Limits.{most_size}
use Rattle.omega_hoa_label.specs.Label.{LabelTree, label_size, truth}
use Rattle.omega_hoa_satisfiable.specs.Cubes.{IsNormal, cubes, cubes_hold}
use Rattle.omega_hoa_satisfiable.specs.Undecided.{IsHardLabel}

-- a label is true exactly if all literals of some cube of it are
abbrev pub LabelsAreTheirCubes : Type 0
LabelsAreTheirCubes =
    (held : ℕ → Bool) (tree : LabelTree) → cubes_hold held (cubes true tree) ≡ truth held tree

-- a label in disjunctive normal form that is not too large is never left undecided
abbrev pub NormalFormsAreDecided : Type 0
NormalFormsAreDecided = (tree : LabelTree) → IsNormal tree → label_size tree ≤ most_size
    → IsHardLabel tree → ⊥
