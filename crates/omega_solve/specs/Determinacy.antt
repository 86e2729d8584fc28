-- Each node is in exactly one of the two players' answers.
use Rattle.std.specs.Prelude.{◌≡◌, ◌⊎◌, ℕ, ◌<◌, Bool, true, false, Some, List, length, slice_get}
use Rattle.omega_game_values.specs.declared.player.Player.TheVariants.{Zero, One}
use Rattle.omega_game_values.specs.Game.{Node, IsGame}
use Rattle.omega_lift_laws.specs.Answer.{won_in}
use Rattle.omega_solve.specs.Solver.{SolverState, IsFinished, IsReached}

-- the place is won in exactly one of two answers
abbrev pub IsInOne : List Bool → List Bool → ℕ → Type 0
IsInOne zero one v =
    ((slice_get zero v ≡ Some true) × (slice_get one v ≡ Some false))
    ⊎ ((slice_get zero v ≡ Some false) × (slice_get one v ≡ Some true))

-- if a solver for each player has finished, each node is won in exactly one of the two answers
abbrev pub AnswersPartTheGame : Type 0
AnswersPartTheGame =
    (nodes : List Node) (zero one : SolverState) (v : ℕ)
    → IsGame nodes → zero.nodes ≡ nodes → one.nodes ≡ nodes → zero.player ≡ Zero → one.player ≡ One
    → IsReached zero → IsReached one → IsFinished zero → IsFinished one → v < length nodes
    → IsInOne (won_in zero.table.measures) (won_in one.table.measures) v
