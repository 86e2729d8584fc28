-- How the winners of a game that was read are judged.
use Rattle.std.specs.Prelude.{◌≡◌, ◌<◌, ◌++◌, [], Bool, true, false, List, ℕ, length}
use Rattle.omega_text.specs.Cases.{never, or_task}
use Rattle.omega_text.specs.declared.refusal.Refusal.{Refusal}
use Rattle.omega_text.specs.declared.refusal.task.TaskFault.{TaskFault}
use Rattle.omega_io.specs.declared.exit.Exit.{Exit}
use Rattle.omega_game_values.specs.declared.player.Player.{Player}
use Rattle.omega_game_values.specs.declared.solution.Solution.{Solution}
use Rattle.omega_game_values.specs.Game.{Node}
use Rattle.omega_game_values.specs.Solution.{winner_at}
use Rattle.omega_pg.specs.solution.Canonical.{solution_text}
use Rattle.omega_pg.specs.solution.Winners.{IsWinnersText}
use Rattle.omega_solve.specs.Limits.{most_lifts}
use Rattle.omega_answers_game.specs.Winners.{IsWinnersVerdict, given_at, wrong_line}
use Rattle.omega_answers_game.specs.declared.solve.asked.Asked.TheVariants.{Search}
use Rattle.omega_answers_game.specs.solve.Refusing.{IsWholeFault}

-- the two lists give the same at each place
abbrev pub GiveTheSame : List Player → List Player → Type 0
GiveTheSame winners given = (v : ℕ) → v < length winners → given_at given v ≡ given_at winners v

-- the first place at which the two lists differ
pub record IsFirstDifference (winners given : List Player) (place : ℕ) : Type 0 where
  pub inside : place < length winners
  pub differs : given_at given place ≡ given_at winners place → ⊥
  pub before : (v : ℕ) → v < place → given_at given v ≡ given_at winners v

-- the explanation that a solution makes, if it is asked
abbrev pub explanation_text : Bool → List Node → Solution → List ℕ
explanation_text false nodes solution = []
explanation_text true nodes solution = solution_text nodes solution

-- the lines after `no` that a solution makes for a place
abbrev pub refutation_lines : Bool → List Node → Solution → ℕ → List ℕ
refutation_lines explain nodes solution place =
    wrong_line nodes place (winner_at solution place) ++ explanation_text explain nodes solution

-- the text gives winners of the game, and the verdict on them is written
pub record AreWinnersJudged (game : List Node) (text : List ℕ) (explain : Bool) (exit : Exit)
    (output : List ℕ) : Type 0 where
  pub winners : List Player
  pub read : IsWinnersText game text winners
  pub verdict : IsWinnersVerdict game winners explain exit output

-- the text gives winners of the game, and solving the game has this fault
pub record IsUnsolvedGame (game : List Node) (text : List ℕ) (fault : TaskFault) : Type 0 where
  pub winners : List Player
  pub read : IsWinnersText game text winners
  pub fault_there : IsWholeFault game Search most_lifts fault

-- the refusal of solving it
abbrev pub IsUnsolvedRefusal : List Node → List ℕ → Refusal → Type 0
IsUnsolvedRefusal game text = or_task (IsUnsolvedGame game text) never
