-- Which priorities are in use, by how many nodes, and the bound on lifts that they make (Jurdziński 2000).
use Rattle.std.specs.Prelude.{◌≡◌, ℕ, zero, suc, ◌+◌, ◌*◌, ◌^◌, ◌<◌, ◌≤◌, ◌==◌, Option, List, [], ◌∷◌, length}
use Rattle.std.specs.Prelude.{map, max, filter, fold, count_by, nat_lt, slice_index, MatchOption}
use Rattle.omega_game_values.specs.declared.player.Player.{Player}
use Rattle.omega_game_values.specs.declared.priority_counts.PriorityCount.{PriorityCount}
use Rattle.omega_game_values.specs.Player.{loses}

-- how many nodes have the priority, of nodes with these priorities
abbrev pub occurrences : List ℕ → ℕ → ℕ
occurrences priorities q = count_by (λ p. p == q) priorities

-- the numbers below n, the greatest first
unfoldable pub below_falling : ℕ → List ℕ
below_falling zero = []
below_falling (suc n) = n ∷ below_falling n

-- the greatest of the numbers, or 0
abbrev pub greatest : List ℕ → ℕ
greatest numbers = fold max 0 numbers

-- the priorities in use, the greatest first
abbrev pub priorities_in_use : List ℕ → List ℕ
priorities_in_use priorities =
    filter (λ q. nat_lt 0 (occurrences priorities q)) (below_falling (greatest priorities + 1))

-- each priority in use, the greatest first, with the number of nodes that have it
abbrev pub priority_counts : List ℕ → List PriorityCount
priority_counts priorities = map (λ q. record { priority = q; nodes = occurrences priorities q })
    (priorities_in_use priorities)

-- the priorities in use that lose for the player, the greatest first
abbrev pub losing_priorities : Player → List ℕ → List ℕ
losing_priorities player priorities = filter (loses player) (priorities_in_use priorities)

-- the product of the numbers, 1 if there are none
abbrev pub product : List ℕ → ℕ
product [] = 1
product (x ∷ xs) = x * product xs

-- P: the product over the priorities in use that lose for the player, of one more than how many nodes have each
abbrev pub product_of : Player → List ℕ → ℕ
product_of player priorities =
    product (map (λ q. 1 + occurrences priorities q) (losing_priorities player priorities))

-- B: the number of nodes times that product
abbrev pub bound_of : Player → List ℕ → ℕ
bound_of player priorities = length priorities * product_of player priorities

-- what is found is the number, or nothing if no `u128` is so great
abbrev pub GivesU128 : Option ℕ → ℕ → Type 0
GivesU128 found number = MatchOption found (2 ^ 128 ≤ number) (λ b. b ≡ number)

-- each number is below the one before it
abbrev pub IsStrictlyFalling : List ℕ → Type 0
IsStrictlyFalling xs = (k : ℕ) → k + 1 < length xs → slice_index xs (k + 1) < slice_index xs k
