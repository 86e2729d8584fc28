-- Solutions of a game: a winner for each place and a strategy of each player, and when these are right.
use Rattle.std.specs.Prelude.{◌≡◌, ◌↔◌, ℕ, ◌<◌, Option, List, length, Contains, IsSome, slice_index_or}
use Rattle.std.specs.List.Sorted.{IsStrictlyIncreasing}
use Rattle.omega_game_values.specs.Game.{Node, owner_at}
use Rattle.omega_game_values.specs.Winning.{InRegion, IsStrategy, Wins, choice_at}
use Rattle.omega_game_values.specs.declared.player.Player.{Player}
use Rattle.omega_game_values.specs.declared.player.Player.TheVariants.{One, Zero}
use Rattle.omega_game_values.specs.declared.solution.Solution.{Solution}

-- the player's choices by place
abbrev pub choices_of : Solution → Player → List (Option ℕ)
choices_of solution Zero = solution.zero.choice
choices_of solution One = solution.one.choice

-- the winner at a place
abbrev pub winner_at : Solution → ℕ → Player
winner_at solution v = slice_index_or solution.winners v Zero

-- the places are those given to the player, who is their winner, in rising order
pub record ArePlacesGiven (solution : Solution) (player : Player) (places : List ℕ) : Type 0 where
  pub rising : IsStrictlyIncreasing places
  pub given : (v : ℕ)
      → Contains places v ↔ ((v < length solution.winners) × (winner_at solution v ≡ player))

-- a winner for each place, and strategies of both players that choose exactly where the owner wins
pub record IsSolution (nodes : List Node) (solution : Solution) : Type 0 where
  pub winners : length solution.winners ≡ length nodes
  pub strategies : (player : Player) → IsStrategy nodes player (choices_of solution player)
  pub chosen : (player : Player) (v : ℕ) → v < length nodes
      → IsSome (choice_at (choices_of solution player) v)
      ↔ ((owner_at nodes v ≡ player) × (winner_at solution v ≡ player))

-- the player's choices win from all nodes given to the player
abbrev pub WinsGiven : List Node → Solution → Player → Type 0
WinsGiven nodes solution player = (v : ℕ) → v < length nodes → winner_at solution v ≡ player
    → Wins nodes player (choices_of solution player) v

-- for each player the choices win from all nodes given to that player
abbrev pub WinsAsGiven : List Node → Solution → Type 0
WinsAsGiven nodes solution = (player : Player) → WinsGiven nodes solution player

-- each node is given to the player in whose region it is
abbrev pub GivesRegions : List Node → Solution → Type 0
GivesRegions nodes solution = (player : Player) (v : ℕ) → v < length nodes
    → (winner_at solution v ≡ player) ↔ InRegion nodes player v

-- an exact solution: each node is given to the player in whose region it is, and the choices win
pub record IsExactSolution (nodes : List Node) (solution : Solution) : Type 0 where
  pub fits : IsSolution nodes solution
  pub regions : GivesRegions nodes solution
  pub wins : WinsAsGiven nodes solution
