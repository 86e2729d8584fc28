-- Parity formulas hold exactly if the greatest priority is even, and generalized Büchi formulas exactly if every set
-- occurs.
use Rattle.std.specs.Prelude.{◌≡◌, ℕ, ◌<◌, ◌%◌, ◌↔◌, false, IsTrue, All, List, length, map}
use Rattle.omega_hoa_parity_kind.specs.Priority.{greatest_number, priority_of}
use Rattle.omega_hoa_parity_kind.specs.declared.kind.ParityKind.{ParityKind}
use Rattle.omega_hoa_acceptance.specs.Acceptance.{accepts, occurs}
use Rattle.omega_hoa_acceptance.specs.Kind.{buchi_formula, parity_formula}

-- for each kind and each list of mark sets that is not empty,
-- the parity formula holds exactly if the greatest priority is even
abbrev pub ParityIsPriority : Type 0
ParityIsPriority = (kind : ParityKind) (forever : List (List ℕ)) → 0 < length forever
    → All (λ marks. All (λ mark. mark < kind.count) marks) forever
    → (IsTrue (accepts forever (parity_formula kind))
    ↔ (greatest_number (map (priority_of kind) forever) % 2 ≡ 0))

-- for each count of sets and each list of mark sets, the generalized Büchi formula holds exactly if every set occurs
abbrev pub BuchiIsEverySet : Type 0
BuchiIsEverySet = (count : ℕ) (forever : List (List ℕ))
    → (IsTrue (accepts forever (buchi_formula count))
    ↔ ((set : ℕ) → set < count → IsTrue (occurs forever false set)))
