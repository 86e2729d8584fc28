-- What is said of a solution as arrays, and why nothing is.
use Rattle.std.specs.Prelude.{◌≡◌, ◌<◌, ℕ, List, Option, Some, None, length}
use Rattle.omega_text.specs.Cases.{never, or_game, or_memory, or_task}
use Rattle.omega_text.specs.declared.refusal.Refusal.{Refusal}
use Rattle.omega_text.specs.declared.refusal.task.TaskFault.TheVariants.{BadSolution}
use Rattle.omega_game.specs.declared.lasso.Lasso.{Lasso}
use Rattle.omega_game_values.specs.declared.player.Player.{Player}
use Rattle.omega_game_values.specs.declared.solution.Solution.{Solution}
use Rattle.omega_game_values.specs.Game.{Node}
use Rattle.omega_game_values.specs.Player.{player_number}
use Rattle.omega_game_values.specs.Solution.{IsSolution, WinsAsGiven, WinsGiven}
use Rattle.omega_answers_game.specs.Verify.{LosesGiven}
use Rattle.omega_arrays.specs.declared.judging.Verdict.{Verdict}
use Rattle.omega_arrays.specs.Answer.{solution_in}
use Rattle.omega_arrays.specs.Arrays.{GameArrays, nodes_in}
use Rattle.omega_arrays.specs.Room.{laid_over}
use Rattle.omega_arrays.specs.Shape.{IsSizeFault, IsSized}

-- a lasso shows that the choices of the least player whose choices do not win as given lose
pub record IsRefuted (nodes : List Node) (solution : Solution) (player : Player)
    (lasso : Lasso) : Type 0 where
  pub least : (other : Player) → player_number other < player_number player
      → WinsGiven nodes solution other
  pub loses : LosesGiven nodes solution player lasso

-- the solution is right, and this is said
pub record SaysRight (verdict : Verdict) (stem stem' cycle cycle' : List ℕ) : Type 0 where
  pub right : verdict.is_right ≡ 1
  pub zeros : (verdict.player ≡ 0) × (verdict.stem ≡ 0) × (verdict.cycle ≡ 0)
  pub kept : (stem' ≡ stem) × (cycle' ≡ cycle)

-- the player loses by a lasso, and this is said: its places are laid over the stem and the cycle
pub record SaysWrong (player : Player) (lasso : Lasso) (verdict : Verdict)
    (stem stem' cycle cycle' : List ℕ) : Type 0 where
  pub wrong : verdict.is_right ≡ 0
  pub number : verdict.player ≡ player_number player
  pub lengths : (verdict.stem ≡ length lasso.stem) × (verdict.cycle ≡ length lasso.cycle)
  pub stem_laid : stem' ≡ laid_over lasso.stem stem
  pub cycle_laid : cycle' ≡ laid_over lasso.cycle cycle

-- what was found is said
abbrev pub IsVerdictOf : Option (Player × Lasso) → Verdict
    → (stem stem' cycle cycle' : List ℕ) → Type 0
IsVerdictOf None verdict stem stem' cycle cycle' = SaysRight verdict stem stem' cycle cycle'
IsVerdictOf (Some found) verdict stem stem' cycle cycle' =
    SaysWrong found.0 found.1 verdict stem stem' cycle cycle'

-- what was found of a solution: nothing if for each player the choices win from all nodes given to that player
abbrev pub IsFinding : List Node → Solution → Option (Player × Lasso) → Type 0
IsFinding nodes solution None = WinsAsGiven nodes solution
IsFinding nodes solution (Some found) = IsRefuted nodes solution found.0 found.1

-- the solution is judged, and what was found is said
pub record IsJudgement (nodes : List Node) (solution : Solution) (verdict : Verdict)
    (stem stem' cycle cycle' : List ℕ) : Type 0 where
  pub found : Option (Player × Lasso)
  pub is_so : IsFinding nodes solution found
  pub reported : IsVerdictOf found verdict stem stem' cycle cycle'

-- the refusal of judging what should be a solution of a game: `BadSolution` or `Memory`
abbrev pub IsArraysSolutionRefusal : List Node → Solution → Refusal → Type 0
IsArraysSolutionRefusal nodes solution =
    or_task (λ fault. (fault ≡ BadSolution) × ¬ IsSolution nodes solution) (or_memory never)

-- the refusal of judging arrays: 13 or 14, or else that they hold no solution of the game
abbrev pub IsArraysJudgingRefusal : GameArrays → (winners choices : List ℕ) → Refusal → Type 0
IsArraysJudgingRefusal a winners choices =
    or_game (IsSizeFault a) (or_task (λ fault. IsSized a × (fault ≡ BadSolution)
    × ¬ IsSolution (nodes_in a) (solution_in winners choices)) (or_memory never))
