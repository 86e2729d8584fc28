-- The numbers of a list in falling order, each once, with how often the list has each.
use Rattle.std.specs.Prelude.{◌≡◌, ℕ, ◌<◌, ◌≤◌, ◌+◌, ◌-◌, List, length, map, slice_index}
use Rattle.omega_game_values.specs.declared.priority_counts.PriorityCount.{PriorityCount}
use Rattle.omega_game_values.specs.Bound.{occurrences, IsStrictlyFalling}

-- no number is above the one before it
abbrev pub IsFalling : List ℕ → Type 0
IsFalling xs = (k : ℕ) → k + 1 < length xs → slice_index xs (k + 1) ≤ slice_index xs k

-- the priorities that are counted
abbrev pub counted_priorities : List PriorityCount → List ℕ
counted_priorities counts = map (λ count. count.priority) counts

-- how many nodes have each
abbrev pub counted_nodes : List PriorityCount → List ℕ
counted_nodes counts = map (λ count. count.nodes) counts

-- the number is the priority that is counted last
abbrev pub EndsIn : List PriorityCount → ℕ → Type 0
EndsIn counts number =
    (0 < length counts) × (slice_index (counted_priorities counts) (length counts - 1) ≡ number)

-- the numbers of a falling list, each once, and how often the list has each
pub record AreTallied (xs numbers times : List ℕ) : Type 0 where
  pub falling : IsStrictlyFalling numbers
  pub count : length times ≡ length numbers
  pub counted : (k : ℕ) → k < length numbers
      → slice_index times k ≡ occurrences xs (slice_index numbers k)
  pub listed : (k : ℕ) → k < length numbers → 0 < occurrences xs (slice_index numbers k)
  pub all : (q : ℕ) → 0 < occurrences xs q
      → (k : ℕ) × (k < length numbers) × (slice_index numbers k ≡ q)
  pub last : 0 < length numbers
      → slice_index numbers (length numbers - 1) ≡ slice_index xs (length xs - 1)
