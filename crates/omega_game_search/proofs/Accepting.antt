-- A solution that is accepted is exact, since no node is in the regions of both players.
use Rattle.std.proofs.Common.{◌≡◌, ◌↔◌, ◌⊎◌, ℕ, ◌<◌, List, length, refl, inl, inr}
use Rattle.omega_game_values.specs.declared.player.Player.{Player}
use Rattle.omega_game_values.specs.declared.player.Player.TheVariants.{Zero, One}
use Rattle.omega_game_values.specs.declared.solution.Solution.{Solution}
use Rattle.omega_game_values.specs.Game.{Node, IsGame}
use Rattle.omega_game_values.specs.Solution.{IsExactSolution, choices_of, winner_at}
use Rattle.omega_game_values.specs.Winning.{InRegion, IsStrategy}
use Rattle.omega_game_region_laws.specs.Laws.{RegionsAreApart}
use Rattle.omega_game_search.specs.private.judging.Judging.{ChoosesWhereWon, IsAccepted}

-- a player is one of two
one_of_two : (player : Player) → (player ≡ Zero) ⊎ (player ≡ One)
one_of_two Zero = inl refl
one_of_two One = inr refl

module _ (nodes : List Node) (solution : Solution) where
  -- what is accepted is a strategy of each player
  strategies_of : IsAccepted nodes solution → (player : Player) → IsStrategy nodes player (choices_of solution player)
  strategies_of accepted Zero = accepted.zero
  strategies_of accepted One = accepted.one

  -- a node that is given to a player is in that player's region
  in_region : (player : Player) (v : ℕ) → IsAccepted nodes solution → v < length nodes → winner_at solution v ≡ player → InRegion nodes player v
  in_region player v accepted node given =
      record { node = node; choices = choices_of solution player; strategy = strategies_of accepted player; wins = accepted.wins player v node given }

  -- a node in the region of player 0 is given to player 0
  given-zero : (v : ℕ) → RegionsAreApart → IsGame nodes → IsAccepted nodes solution → v < length nodes → InRegion nodes Zero v → winner_at solution v ≡ Zero
  given-zero v apart game accepted node region = elim (one_of_two (winner_at solution v)) [
    | inl is ↦ is
    | inr is ↦ absurd (apart nodes v game region (in_region One v accepted node is))
  ]

  -- a node in the region of player 1 is given to player 1
  given-one : (v : ℕ) → RegionsAreApart → IsGame nodes → IsAccepted nodes solution → v < length nodes → InRegion nodes One v → winner_at solution v ≡ One
  given-one v apart game accepted node region = elim (one_of_two (winner_at solution v)) [
    | inl is ↦ absurd (apart nodes v game (in_region Zero v accepted node is) region)
    | inr is ↦ is
  ]

  -- each node is given to the player in whose region it is
  exactly : RegionsAreApart → IsGame nodes → IsAccepted nodes solution
      → (player : Player) (v : ℕ) → v < length nodes → (winner_at solution v ≡ player) ↔ InRegion nodes player v
  exactly apart game accepted Zero v node = (in_region Zero v accepted node, given-zero v apart game accepted node)
  exactly apart game accepted One v node = (in_region One v accepted node, given-one v apart game accepted node)

  -- both players' choices are made where they win
  chosen_for : ChoosesWhereWon nodes Zero solution.winners solution.zero.choice → ChoosesWhereWon nodes One solution.winners solution.one.choice
      → (player : Player) → ChoosesWhereWon nodes player solution.winners (choices_of solution player)
  chosen_for zero one Zero = zero
  chosen_for zero one One = one

  -- a solution that is accepted is exact
  pub is_exact : RegionsAreApart → IsGame nodes → length solution.winners ≡ length nodes
      → ChoosesWhereWon nodes Zero solution.winners solution.zero.choice → ChoosesWhereWon nodes One solution.winners solution.one.choice
      → IsAccepted nodes solution → IsExactSolution nodes solution
  is_exact apart game entries chosen_zero chosen_one accepted =
      let chosen : (player : Player) → ChoosesWhereWon nodes player solution.winners (choices_of solution player) =
      chosen_for chosen_zero chosen_one in
      record {
        fits = record {
          winners = entries;
          strategies = strategies_of accepted;
          chosen = λ player. (chosen player).chosen;
        };
        regions = exactly apart game accepted;
        wins = accepted.wins;
      }
