-- Formulas of runs without marks.
use Rattle.std.proofs.Common.{◌≡◌, true, false, not, [], ◌∷◌, refl}
use Rattle.omega_hoa_acceptance.specs.Acceptance.{AccTree, accepts, conjunction, constant, disjunction, fin, inf}
use Rattle.omega_hoa_acceptance.specs.Judging.{holds_by_atoms}

-- what holds by its atoms, where `Inf` holds if its set has a `!`, holds without marks
pub unmarked_by_atoms : (tree : AccTree) → holds_by_atoms (λ negated set. negated) (λ negated set. not negated) tree ≡ accepts ([] ∷ []) tree
unmarked_by_atoms (constant value) = refl
unmarked_by_atoms (inf true set) = refl
unmarked_by_atoms (inf false set) = refl
unmarked_by_atoms (fin true set) = refl
unmarked_by_atoms (fin false set) = refl
unmarked_by_atoms (conjunction left right) =
    let one = unmarked_by_atoms left in let other = unmarked_by_atoms right in cc
unmarked_by_atoms (disjunction left right) =
    let one = unmarked_by_atoms left in let other = unmarked_by_atoms right in cc
