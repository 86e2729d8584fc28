-- What choices in the parity game say of rounds: the edges that player 0 answers by, the questions that player 1 asks,
-- and the edges that answer these.
use Rattle.std.specs.Prelude.{◌≡◌, ◌↔◌, ℕ, ◌<◌, List, Contains, length, Option}
use Rattle.omega_game_values.specs.Game.{Node, owner_at}
use Rattle.omega_game_values.specs.Winning.{Chooses, IsStrategy, Wins}
use Rattle.omega_game_values.specs.declared.player.Player.{Player}
use Rattle.omega_synth_rounds.specs.Rounds.{answers_of, asked_in}
use Rattle.omega_synth_rounds.specs.RoundsGame.{edge_place, question_place}
use Rattle.omega_synth_rounds.specs.declared.rounds.Rounds.{Rounds}

-- the strategy wins from a place, and chooses at each place of the player from which it wins
pub record IsWinningFrom (game : List Node) (player : Player) (choices : List (Option ℕ))
    (v : ℕ) : Type 0 where
  pub strategy : IsStrategy game player choices
  pub wins : Wins game player choices v
  pub chosen : (w : ℕ) → w < length game → owner_at game w ≡ player → Wins game player choices w
      → (u : ℕ) × Chooses choices w u

-- two lists have the same numbers, however often and in whatever order
abbrev pub HaveSameNumbers : List ℕ → List ℕ → Type 0
HaveSameNumbers one other = (number : ℕ) → Contains one number ↔ Contains other number

-- player 0 chooses the edge at the question
pub record IsAnswerAt (rounds : Rounds) (choices : List (Option ℕ))
    (question number : ℕ) : Type 0 where
  pub asked : question < length rounds.questions
  pub below : number < length rounds.edges
  pub chosen : Chooses choices (question_place rounds question) (edge_place rounds number)

-- player 0 chooses the edge at some question
abbrev pub IsChosenAnswer : Rounds → List (Option ℕ) → ℕ → Type 0
IsChosenAnswer rounds choices number = (question : ℕ) × IsAnswerAt rounds choices question number

-- the kept edges are those that player 0 chooses
abbrev pub AreChosenAnswers : Rounds → List (Option ℕ) → List ℕ → Type 0
AreChosenAnswers rounds choices kept =
    (number : ℕ) → Contains kept number ↔ IsChosenAnswer rounds choices number

-- player 1 chooses the question in the state
pub record IsChosenQuestion (rounds : Rounds) (choices : List (Option ℕ))
    (state question : ℕ) : Type 0 where
  pub below : state < length rounds.states
  pub asked : question < length rounds.questions
  pub chosen : Chooses choices state (question_place rounds question)

-- the edge answers a question that player 1 chooses in some state
pub record IsKeptAnswer (rounds : Rounds) (choices : List (Option ℕ)) (number : ℕ) : Type 0 where
  pub state : ℕ
  pub question : ℕ
  pub chosen : IsChosenQuestion rounds choices state question
  pub answers : Contains (answers_of rounds question) number

-- by state the questions that player 1 chooses, and the kept edges are those that answer them
pub record AreChosenQuestions (rounds : Rounds) (choices : List (Option ℕ))
    (kept asked : List ℕ) : Type 0 where
  pub entries : length asked ≡ length rounds.states
  pub each : (state question : ℕ) → IsChosenQuestion rounds choices state question
      → asked_in asked state ≡ question
  pub answers : (number : ℕ) → Contains kept number ↔ IsKeptAnswer rounds choices number
