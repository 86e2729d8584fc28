-- Whether an acceptance formula holds, if it is known which of its atoms hold.
use Rattle.std.specs.Prelude.{ℕ, Bool, ◌&&◌, ◌||◌}
use Rattle.omega_hoa_acceptance.specs.Acceptance.{AccTree, conjunction, constant, disjunction, fin, inf}

-- whether a formula holds if the first function says which atoms `Inf` hold, and the second which atoms `Fin`
abbrev pub holds_by_atoms : (Bool → ℕ → Bool) → (Bool → ℕ → Bool) → AccTree → Bool
holds_by_atoms infs fins (constant value) = value
holds_by_atoms infs fins (inf negated set) = infs negated set
holds_by_atoms infs fins (fin negated set) = fins negated set
holds_by_atoms infs fins (conjunction left right) =
    holds_by_atoms infs fins left && holds_by_atoms infs fins right
holds_by_atoms infs fins (disjunction left right) =
    holds_by_atoms infs fins left || holds_by_atoms infs fins right
