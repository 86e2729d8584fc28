-- The formulas of parity kinds, and the generalized Büchi formulas (HOA v1, acceptance names).
use Rattle.std.specs.Prelude.{ℕ, ◌-◌, zero, suc, Bool, true, false, if◌then◌else◌, List, [], ◌∷◌}
use Rattle.omega_hoa_parity_kind.specs.Priority.{has_parity}
use Rattle.omega_hoa_parity_kind.specs.declared.kind.Order.{Order}
use Rattle.omega_hoa_parity_kind.specs.declared.kind.Order.TheVariants.{Max, Min}
use Rattle.omega_hoa_parity_kind.specs.declared.kind.Parity.{Parity}
use Rattle.omega_hoa_parity_kind.specs.declared.kind.Parity.TheVariants.{Even, Odd}
use Rattle.omega_hoa_parity_kind.specs.declared.kind.ParityKind.{ParityKind}
use Rattle.omega_hoa_acceptance.specs.Acceptance.{AccTree, conjunction, constant, disjunction, fin, inf}

-- the first of the last sets, as many as are left: for max they end with 0, for min with the greatest
abbrev pub first_left : Order → ℕ → ℕ → ℕ
first_left Max count following = following
first_left Min count following = count - suc following

-- the last sets of a kind, as many as are left: for max they fall to 0, for min they rise to the greatest
abbrev pub sets_left : Order → ℕ → ℕ → List ℕ
sets_left order count zero = []
sets_left order count (suc following) =
    first_left order count following ∷ sets_left order count following

-- the truth of a parity formula without sets (this project's choice)
abbrev pub without_sets : Order → Parity → Bool
without_sets Max Even = false
without_sets Max Odd = true
without_sets Min Even = true
without_sets Min Odd = false

-- the atom of a set: `Inf` if it has the named parity, else `Fin`
abbrev pub atom_of : Parity → ℕ → AccTree
atom_of parity set = if has_parity parity set then inf false set else fin false set

-- the atom of a set and the formula of the sets after it
abbrev pub joined_to : Parity → ℕ → AccTree → AccTree
joined_to parity set rest = if has_parity parity set then disjunction (inf false set) rest
    else conjunction (fin false set) rest

-- the parity formula of a list of sets, the deciding ones first
abbrev pub formula_of : Order → Parity → List ℕ → AccTree
formula_of order parity [] = constant (without_sets order parity)
formula_of order parity (set ∷ []) = atom_of parity set
formula_of order parity (set ∷ next ∷ rest) =
    joined_to parity set (formula_of order parity (next ∷ rest))

-- the parity formula of a kind
abbrev pub parity_formula : ParityKind → AccTree
parity_formula kind = formula_of kind.order kind.parity (sets_left kind.order kind.count kind.count)

-- the generalized Büchi formula of a count of sets: every set occurs, grouped to the left
abbrev pub buchi_formula : ℕ → AccTree
buchi_formula zero = constant true
buchi_formula (suc zero) = inf false zero
buchi_formula (suc (suc set)) = conjunction (buchi_formula (suc set)) (inf false (suc set))
