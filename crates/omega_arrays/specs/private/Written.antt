-- How solutions are written into arrays, and judged there.
use Rattle.std.specs.Prelude.{◌≡◌, ◌↔◌, ◌≢◌, ℕ, ◌<◌, ◌≤◌, List, slice_index, unwrap_or}
use Rattle.omega_game_values.specs.declared.solution.Solution.{Solution}
use Rattle.omega_game_values.specs.Game.{Node, owner_at}
use Rattle.omega_game_values.specs.Solution.{choices_of, winner_at}
use Rattle.omega_game_values.specs.Winning.{choice_at}
use Rattle.omega_arrays.specs.Arrays.{player_of}
use Rattle.omega_arrays.specs.Answer.{no_choice}

-- the entry of a place: its winner, and the winner's choice there or the mark
pub record IsEntry (solution : Solution) (winner choice place : ℕ) : Type 0 where
  pub player : winner ≤ 1
  pub winner_is : player_of winner ≡ winner_at solution place
  pub choice_is : choice
      ≡ unwrap_or (choice_at (choices_of solution (winner_at solution place)) place) no_choice

-- the entries of the places below a count
abbrev pub AreWritten : Solution → ℕ → (winners choices : List ℕ) → Type 0
AreWritten solution count winners choices =
    (v : ℕ) → v < count → IsEntry solution (slice_index winners v) (slice_index choices v) v

-- there is a choice exactly if the owner wins
abbrev pub ChoosesWhereWon : List Node → (winners choices : List ℕ) → ℕ → Type 0
ChoosesWhereWon nodes winners choices v =
    (slice_index choices v ≢ no_choice) ↔ (owner_at nodes v ≡ player_of (slice_index winners v))
