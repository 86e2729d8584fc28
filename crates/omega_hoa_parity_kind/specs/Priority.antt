-- The priority of marks for a parity kind (HOA v1, acceptance names).
use Rattle.std.specs.Prelude.{ℕ, ◌+◌, ◌-◌, ◌%◌, Bool, ◌==◌, if◌then◌else◌, List, [], ◌∷◌, max, min}
use Rattle.omega_hoa_parity_kind.specs.declared.kind.Order.{Order}
use Rattle.omega_hoa_parity_kind.specs.declared.kind.Order.TheVariants.{Max, Min}
use Rattle.omega_hoa_parity_kind.specs.declared.kind.Parity.{Parity}
use Rattle.omega_hoa_parity_kind.specs.declared.kind.Parity.TheVariants.{Even, Odd}
use Rattle.omega_hoa_parity_kind.specs.declared.kind.ParityKind.{ParityKind}

-- whether a number has the parity
abbrev pub has_parity : Parity → ℕ → Bool
has_parity Even number = number % 2 == 0
has_parity Odd number = number % 2 == 1

-- one more than the greatest mark, 0 if there is none
abbrev pub beyond : List ℕ → ℕ
beyond [] = 0
beyond (mark ∷ marks) = max (mark + 1) (beyond marks)

-- the least mark, the count of sets if there is none
abbrev pub least_mark : ℕ → List ℕ → ℕ
least_mark count [] = count
least_mark count (mark ∷ marks) = min mark (least_mark count marks)

-- the least number of the parity that is at least the count
abbrev pub least_from : Parity → ℕ → ℕ
least_from parity count = if has_parity parity count then count else count + 1

-- The priority of marks. For max it is the greatest mark plus one or two, and no marks count as -1. For min it is the
-- least number of the parity from the count on, less the least mark, and no marks count as the count.
abbrev pub priority_by : Order → Parity → ℕ → List ℕ → ℕ
priority_by Max Even count marks = beyond marks + 1
priority_by Max Odd count marks = beyond marks
priority_by Min parity count marks = least_from parity count - least_mark count marks

-- the priority of marks for a kind
abbrev pub priority_of : ParityKind → List ℕ → ℕ
priority_of kind marks = priority_by kind.order kind.parity kind.count marks

-- the greatest of some numbers, 0 if there are none
abbrev pub greatest_number : List ℕ → ℕ
greatest_number [] = 0
greatest_number (number ∷ numbers) = max number (greatest_number numbers)
