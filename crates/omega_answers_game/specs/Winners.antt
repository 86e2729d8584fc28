-- The answer of `verify --winners` for a game text, or a part of its game, and a solution text whose choices do not
-- matter.
use Rattle.std.specs.Prelude.{◌≡◌, ◌⊎◌, ◌<◌, ◌++◌, [], Bool, true, false, List}
use Rattle.std.specs.Prelude.{Option, ℕ, codes, decimal, length, slice_index_or}
use Rattle.omega_text.specs.Cases.{never, or_task}
use Rattle.omega_text.specs.declared.refusal.Refusal.{Refusal}
use Rattle.omega_text.specs.declared.refusal.task.TaskFault.{TaskFault}
use Rattle.omega_game_values.specs.declared.player.Player.{Player}
use Rattle.omega_game_values.specs.declared.player.Player.TheVariants.{Zero}
use Rattle.omega_game_values.specs.Game.{Node, identifier_at}
use Rattle.omega_game_values.specs.Winning.{InRegion}
use Rattle.omega_pg.specs.solution.Winners.{IsWinnersRefusal, IsWinnersText}
use Rattle.omega_solve.specs.Limits.{most_lifts}
use Rattle.omega_io.specs.Answer.{answer_text}
use Rattle.omega_io.specs.declared.answer.Answer.TheVariants.{No, Yes}
use Rattle.omega_io.specs.declared.exit.Exit.{Exit}
use Rattle.omega_io.specs.declared.exit.Exit.TheVariants as exit
use Rattle.omega_answers_game.specs.PlayerText.{player_text}
use Rattle.omega_answers_game.specs.Verify.{IsJudgedGame, IsJudgedGameRefusal}
use Rattle.omega_answers_game.specs.declared.solve.asked.Asked.TheVariants.{Search}
use Rattle.omega_answers_game.specs.solve.Refusing.{IsWholeFault}
use Rattle.omega_answers_game.specs.solve.Solution.{IsExactSolutionOf}

-- the winner that is given to the node at a place
abbrev pub given_at : List Player → ℕ → Player
given_at winners v = slice_index_or winners v Zero

-- each node is won by the winner that is given to it
abbrev pub AreWinners : List Node → List Player → Type 0
AreWinners nodes winners = (v : ℕ) → v < length nodes → InRegion nodes (given_at winners v) v

-- the first node that is not won by the winner given to it stands at the place, and the player wins it
pub record IsFirstWrong (nodes : List Node) (winners : List Player) (place : ℕ)
    (player : Player) : Type 0 where
  pub node : place < length nodes
  pub wins : InRegion nodes player place
  pub wrong : InRegion nodes (given_at winners place) place → ⊥
  pub before : (v : ℕ) → v < place → InRegion nodes (given_at winners v) v

-- a line with the node's identifier and its winner
abbrev pub wrong_line : List Node → ℕ → Player → List ℕ
wrong_line nodes place player = codes "node "
    ++ (decimal (identifier_at nodes place) ++ (codes " " ++ (player_text player ++ codes "\n")))

-- what explains the winners, if that is asked: the text of an exact solution
abbrev pub ExplainsWinners : Bool → List Node → List ℕ → Type 0
ExplainsWinners false nodes text = text ≡ []
ExplainsWinners true nodes text = IsExactSolutionOf nodes text

-- `no`, for the first node that is not won by the winner given to it
pub record RefutesWinners (nodes : List Node) (winners : List Player) (explain : Bool)
    (output : List ℕ) : Type 0 where
  pub place : ℕ
  pub player : Player
  pub first : IsFirstWrong nodes winners place player
  pub explanation : List ℕ
  pub explains : ExplainsWinners explain nodes explanation
  pub written : output ≡ answer_text (No (wrong_line nodes place player ++ explanation))

-- `yes` if each node is won by the winner that is given to it, else `no`, with an exit of its own
abbrev pub IsWinnersVerdict : List Node → List Player → Bool → Exit → List ℕ → Type 0
IsWinnersVerdict nodes winners explain exit.Done output =
    AreWinners nodes winners × (output ≡ answer_text Yes)
IsWinnersVerdict nodes winners explain exit.No output = RefutesWinners nodes winners explain output

-- the answer of `verify --winners`: the texts are those of a game to be judged and of its winners, and the verdict is
-- written
pub record IsWinnersAnswer (game_text : List ℕ) (from : Option ℕ) (text : List ℕ) (explain : Bool)
    (exit : Exit) (output : List ℕ) : Type 0 where
  pub game : List Node
  pub judged : IsJudgedGame game_text from game
  pub winners : List Player
  pub read : IsWinnersText game text winners
  pub verdict : IsWinnersVerdict game winners explain exit output

-- the one text is that of a game to be judged, and the other is refused as one of its winners
pub record RefusesWinners (game_text : List ℕ) (from : Option ℕ) (text : List ℕ)
    (refusal : Refusal) : Type 0 where
  pub game : List Node
  pub judged : IsJudgedGame game_text from game
  pub refused : IsWinnersRefusal game text refusal

-- the texts are those of a game to be judged and of its winners, and solving the game has this fault, with as many
-- lifts as a solver makes at most
pub record IsUnsolved (game_text : List ℕ) (from : Option ℕ) (text : List ℕ)
    (fault : TaskFault) : Type 0 where
  pub game : List Node
  pub judged : IsJudgedGame game_text from game
  pub winners : List Player
  pub read : IsWinnersText game text winners
  pub fault_there : IsWholeFault game Search most_lifts fault

-- the refusal of `verify --winners` that is of the game's text: that of the game to be judged, or that it is not solved
abbrev pub IsWinnersGameRefusal : List ℕ → Option ℕ → List ℕ → Refusal → Type 0
IsWinnersGameRefusal game_text from text refusal = IsJudgedGameRefusal game_text from refusal
    ⊎ or_task (IsUnsolved game_text from text) never refusal
