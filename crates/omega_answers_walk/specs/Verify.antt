-- The answer of `verify --explain --names` for a game text, or a part of its game, and a solution text.
use Rattle.std.specs.Prelude.{◌≡◌, ◌<◌, true, List, Option, ℕ}
use Rattle.omega_game.specs.declared.lasso.Lasso.{Lasso}
use Rattle.omega_answers_game.specs.Verify.{IsJudgedGame, LosesGiven}
use Rattle.omega_io.specs.Answer.{answer_text}
use Rattle.omega_io.specs.declared.answer.Answer.TheVariants.{No, Yes}
use Rattle.omega_io.specs.declared.exit.Exit.{Exit}
use Rattle.omega_io.specs.declared.exit.Exit.TheVariants as exit
use Rattle.omega_game_values.specs.Game.{Node}
use Rattle.omega_game_values.specs.Player.{player_number}
use Rattle.omega_game_values.specs.Solution.{WinsAsGiven, WinsGiven}
use Rattle.omega_game_values.specs.declared.player.Player.{Player}
use Rattle.omega_game_values.specs.declared.solution.Solution.{Solution}
use Rattle.omega_pg.specs.solution.Text.{IsSolutionText}
use Rattle.omega_answers_walk.specs.Written.{walk_text}

-- `no`, and the walk of the player with the names of its nodes
abbrev pub named_text : List Node → Player → Lasso → List ℕ
named_text nodes player lasso =
    answer_text (No (walk_text true nodes player lasso.stem lasso.cycle))

-- `no` is explained: a lasso is written with names for the least player whose choices do not win as given
pub record IsNamedExplanation (nodes : List Node) (solution : Solution)
    (output : List ℕ) : Type 0 where
  pub player : Player
  pub least : (other : Player) → player_number other < player_number player
      → WinsGiven nodes solution other
  pub lasso : Lasso
  pub loses : LosesGiven nodes solution player lasso
  pub written : output ≡ named_text nodes player lasso

-- `yes` if for each player the choices win from all nodes given to that player, else an explained `no`, with an exit of
-- its own
abbrev pub IsNamedVerdict : List Node → Solution → Exit → List ℕ → Type 0
IsNamedVerdict nodes solution exit.Done output =
    WinsAsGiven nodes solution × (output ≡ answer_text Yes)
IsNamedVerdict nodes solution exit.No output = IsNamedExplanation nodes solution output

-- the answer of `verify --explain --names`: the texts are those of a game to be judged and of a solution of it, and the
-- verdict is written
pub record IsNamedVerifyAnswer (game_text : List ℕ) (from : Option ℕ) (text : List ℕ) (exit : Exit)
    (output : List ℕ) : Type 0 where
  pub game : List Node
  pub judged : IsJudgedGame game_text from game
  pub solution : Solution
  pub read : IsSolutionText game text solution
  pub verdict : IsNamedVerdict game solution exit output
