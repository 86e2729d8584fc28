-- Games whose priorities are turned, so that the greatest decides as the least did.
use Rattle.std.specs.Prelude.{◌+◌, ◌*◌, ◌%◌, List, ℕ, count_by, map, nat_lt}
use Rattle.omega_game_values.specs.Bound.{priorities_in_use}
use Rattle.omega_game_values.specs.Game.{Node, priorities}
use Rattle.omega_pg.specs.game.Priorities.{with_priorities}

-- how many of the numbers are greater than p
abbrev pub greater_count : ℕ → List ℕ → ℕ
greater_count p numbers = count_by (λ q. nat_lt p q) numbers

-- the priority that stands for p if these are in use: of the same parity, and from it on twice the number of greater
-- priorities in use
abbrev pub turned_priority : List ℕ → ℕ → ℕ
turned_priority priorities p = p % 2 + 2 * greater_count p (priorities_in_use priorities)

-- the game with its priorities turned, in which the greatest decides as the least did
abbrev pub turned_game : List Node → List Node
turned_game nodes =
    with_priorities nodes (map (turned_priority (priorities nodes)) (priorities nodes))
