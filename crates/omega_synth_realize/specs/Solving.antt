-- The outcome of a game in rounds from a state, and the refusal where it is not decided.
use Rattle.std.specs.Prelude.{◌≡◌, ◌⊎◌, ℕ, false, true, List, [], ◌∷◌, Option}
use Rattle.std.specs.List.Sorted.{IsStrictlyIncreasing}
use Rattle.omega_text.specs.Cases.{never, or_game, or_memory, or_task}
use Rattle.omega_text.specs.declared.refusal.Refusal.{Refusal}
use Rattle.omega_text.specs.declared.refusal.task.TaskFault.{TaskFault}
use Rattle.omega_text.specs.declared.refusal.task.TaskFault.TheVariants.{Budget, TooWide}
use Rattle.omega_game_values.specs.Game.{Node, priorities}
use Rattle.omega_game_values.specs.Winning.{InRegion}
use Rattle.omega_game_values.specs.declared.player.Player.{Player}
use Rattle.omega_game_values.specs.declared.player.Player.TheVariants.{One, Zero}
use Rattle.omega_measure.specs.Table.{is_too_wide}
use Rattle.omega_solve.specs.budget.Observing.{AreMade}
use Rattle.omega_solve.specs.budget.Within.{EndsWithin, GoesOnAfter}
use Rattle.omega_solve.specs.Turns.{IsNarrow}
use Rattle.omega_synth_rounds.specs.Rounds.{AreMetAnswers, IsAnswering, IsAsking}
use Rattle.omega_synth_rounds.specs.RoundsGame.{FitsAGame, IsRoundsFault, IsRoundsGame}
use Rattle.omega_synth_rounds.specs.declared.rounds.Rounds.{Rounds}
use Rattle.omega_synth_realize.specs.declared.outcome.Outcome.{Outcome}
use Rattle.omega_synth_realize.specs.declared.outcome.Outcome.TheVariants.{Answered, Asked}

-- an outcome is right: player 0 wins by the kept edges, or player 1 by the questions asked. The kept edges answer
-- questions in states to which they lead, and are listed in rising order, each once
abbrev pub IsOutcome : Rounds → ℕ → Outcome → Type 0
IsOutcome rounds start (Answered kept) = IsAnswering rounds start kept
    × IsStrictlyIncreasing kept × AreMetAnswers rounds start kept
IsOutcome rounds start (Asked kept asked) =
    IsAsking rounds start kept asked × IsStrictlyIncreasing kept × AreMetAnswers rounds start kept

-- a lift is due when the budget is used up: for player 0, or for player 1 where player 0 does not win from the start
abbrev pub IsBudgetShort : List Node → ℕ → ℕ → Type 0
IsBudgetShort game start budget = GoesOnAfter game Zero budget
    ⊎ ((¬ InRegion game Zero start) × GoesOnAfter game One budget)

-- lifting in the game from a start within the budget has this fault: the game is too wide for one of the players, or
-- else a lift is due when the budget is used up
abbrev pub IsLiftingFault : List Node → ℕ → ℕ → TaskFault → Type 0
IsLiftingFault game start budget TooWide =
    (player : Player) × (is_too_wide player (priorities game) ≡ true)
IsLiftingFault game start budget Budget = IsNarrow game × IsBudgetShort game start budget
IsLiftingFault game start budget fault = ⊥

-- the winner of an outcome
abbrev pub winner_of : Outcome → Player
winner_of (Answered kept) = Zero
winner_of (Asked kept asked) = One

-- lifting for the player in the game ends within the budget
abbrev pub EndsFor : List Node → ℕ → Player → Type 0
EndsFor game budget player = (lifts : ℕ) × EndsWithin game player budget lifts

-- lifting found this winner within the budget: the game is too wide for neither player, and lifting for player 0 ends,
-- and for player 1 too if that is the winner
pub record IsLiftedFor (game : List Node) (budget : ℕ) (winner : Player) : Type 0 where
  pub narrow : IsNarrow game
  pub zero : EndsFor game budget Zero
  pub one : winner ≡ One → EndsFor game budget One

-- so it did in the game of the rounds
pub record IsLiftedInRounds (rounds : Rounds) (budget : ℕ) (winner : Player) : Type 0 where
  pub game : List Node
  pub game_is : IsRoundsGame rounds game
  pub lifted : IsLiftedFor game budget winner

-- the refusal of a game that is too wide for one of the players
abbrev pub IsWidthRefusal : List Node → Refusal → Type 0
IsWidthRefusal game = or_task (λ fault. (fault ≡ TooWide)
    × ((player : Player) × (is_too_wide player (priorities game) ≡ true))) never

-- the refusal of lifting in the game: such a fault, or want of memory
abbrev pub IsLiftingRefusal : List Node → ℕ → ℕ → Refusal → Type 0
IsLiftingRefusal game start budget =
    or_task (IsLiftingFault game start budget) (or_memory never)

-- the game of the rounds is not too large, and lifting in it from a start has this fault
pub record IsRoundsLiftingFault (rounds : Rounds) (start budget : ℕ) (fault : TaskFault) : Type 0 where
  pub fits : FitsAGame rounds
  pub game : List Node
  pub game_is : IsRoundsGame rounds game
  pub lifting : IsLiftingFault game start budget fault

-- the refusal of rounds that are not decided: the game is too large, or lifting has a fault, or want of memory
abbrev pub IsOutcomeRefusal : Rounds → ℕ → ℕ → Refusal → Type 0
IsOutcomeRefusal rounds start budget =
    or_game (IsRoundsFault rounds) (or_task (IsRoundsLiftingFault rounds start budget) (or_memory never))

-- runs were made for player 0 alone, or for player 0 and then for player 1
abbrev pub AreLifted : Option Refusal → List Player → Type 0
AreLifted refusal players =
    AreMade (Zero ∷ []) refusal players ⊎ AreMade (Zero ∷ One ∷ []) refusal players

-- the runs are such ones in this game
abbrev pub LiftsGame : List Node → Option Refusal → List Node → List Player → Type 0
LiftsGame game refusal nodes players = (nodes ≡ game) × AreLifted refusal players

-- the runs are such ones in the game of the rounds
abbrev pub LiftsRounds : Rounds → Option Refusal → List Node → List Player → Type 0
LiftsRounds rounds refusal nodes players = IsRoundsGame rounds nodes × AreLifted refusal players
