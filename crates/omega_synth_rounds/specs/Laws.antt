-- What a winning strategy in the parity game of rounds means for the rounds.
use Rattle.std.specs.Prelude.{ℕ, ◌<◌, List, length, Option}
use Rattle.omega_game_values.specs.Game.{Node}
use Rattle.omega_game_values.specs.declared.player.Player.TheVariants.{One, Zero}
use Rattle.omega_synth_rounds.specs.Extracting.{AreChosenAnswers, AreChosenQuestions, IsWinningFrom}
use Rattle.omega_synth_rounds.specs.Rounds.{AreAnswers, IsAnswering, IsAsking, IsRounds}
use Rattle.omega_synth_rounds.specs.RoundsGame.{IsRoundsGame}
use Rattle.omega_synth_rounds.specs.declared.rounds.Rounds.{Rounds}

-- the edges that player 0 chooses in winning from a state win the rounds from it, and answer questions
abbrev pub ChosenAnswersWin : Type 0
ChosenAnswersWin =
    (rounds : Rounds) (game : List Node) (choices : List (Option ℕ)) (kept : List ℕ) (start : ℕ)
    → IsRounds rounds → IsRoundsGame rounds game → start < length rounds.states
    → IsWinningFrom game Zero choices start → AreChosenAnswers rounds choices kept
    → IsAnswering rounds start kept × AreAnswers rounds kept

-- the questions that player 1 chooses in winning from a state win the rounds from it, and the kept edges answer them
abbrev pub ChosenQuestionsWin : Type 0
ChosenQuestionsWin =
    (rounds : Rounds) (game : List Node) (choices : List (Option ℕ)) (kept asked : List ℕ) (start : ℕ)
    → IsRounds rounds → IsRoundsGame rounds game → start < length rounds.states
    → IsWinningFrom game One choices start → AreChosenQuestions rounds choices kept asked
    → IsAsking rounds start kept asked × AreAnswers rounds kept
