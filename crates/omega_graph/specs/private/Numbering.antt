-- States numbered in the order in which they first come.
use Rattle.std.specs.Prelude.{◌≡◌, ℕ, ◌<◌, List, length, map, All, slice_index}
use Rattle.omega_graph.specs.declared.numbering.StateNumbering.{StateNumbering}

-- a state has a number so far: the state of its number is itself
abbrev pub IsKnown : List ℕ → List ℕ → ℕ → Type 0
IsKnown numbers states state = (slice_index numbers state < length states)
    × (slice_index states (slice_index numbers state) ≡ state)

-- a state is given a number, and other states keep theirs
pub record Numbers (numbers states : List ℕ) (state number : ℕ)
    (numbers' states' : List ℕ) : Type 0 where
  pub known : IsKnown numbers' states' state
  pub number_is : number ≡ slice_index numbers' state
  pub kept : (other : ℕ) → IsKnown numbers states other
      → IsKnown numbers' states' other × (slice_index numbers' other ≡ slice_index numbers other)

-- the numbers of the states of a list, and the state of each number
pub record IsNumbering (listed numbers states : List ℕ) : Type 0 where
  pub number : ℕ → ℕ
  pub numbers_are : numbers ≡ map number listed
  pub known : All
      (λ state. (number state < length states) × (slice_index states (number state) ≡ state)) listed

-- so it is with a numbering of the states of a list
abbrev pub IsNumberingOf : List ℕ → StateNumbering → Type 0
IsNumberingOf listed numbering = IsNumbering listed numbering.numbers.items numbering.states.items
