-- The refusal of `solve`: that of the text, or else the first fault of its game.
use Rattle.std.specs.Prelude.{◌≡◌, List, Option, Some, None, true, false, ℕ}
use Rattle.omega_text.specs.Cases.{never, or_memory, or_task}
use Rattle.omega_text.specs.declared.refusal.Refusal.{Refusal}
use Rattle.omega_text.specs.declared.refusal.task.TaskFault.{TaskFault}
use Rattle.omega_text.specs.declared.refusal.task.TaskFault.TheVariants.{Budget, TooWide, UnknownNode}
use Rattle.omega_game_values.specs.declared.player.Player.{Player}
use Rattle.omega_game_values.specs.Game.{Node, priorities}
use Rattle.omega_measure.specs.Table.{is_too_wide}
use Rattle.omega_pg.specs.game.Refusing.{IsRefusal}
use Rattle.omega_pg.specs.game.Text.{IsGameText}
use Rattle.omega_solve.specs.budget.Within.{GoesOnAfter}
use Rattle.omega_answers_game.specs.declared.solve.asked.Asked.{Asked}
use Rattle.omega_answers_game.specs.declared.solve.asked.Asked.TheVariants as way
use Rattle.omega_answers_game.specs.Part.{IsPartFrom, IsUnknownIdentifier}

-- the game is solved for this player: `asked` is for this player, or for both
abbrev pub IsSolvedFor : Asked → Player → Type 0
IsSolvedFor way.Both player = Unit {0}
IsSolvedFor way.Search player = Unit {0}
IsSolvedFor (way.Player one) player = player ≡ one

-- the game is too wide for a player for whom it is solved
pub record IsTooWide (nodes : List Node) (asked : Asked) : Type 0 where
  pub player : Player
  pub solved_for : IsSolvedFor asked player
  pub wide : is_too_wide player (priorities nodes) ≡ true

-- the game is too wide for no player for whom it is solved, and for one of them a lifting run of exactly the budget's
-- entries leaves a lift due
pub record IsOverBudget (nodes : List Node) (asked : Asked) (budget : ℕ) : Type 0 where
  pub narrow : (player : Player) → IsSolvedFor asked player
      → is_too_wide player (priorities nodes) ≡ false
  pub player : Player
  pub solved_for : IsSolvedFor asked player
  pub unfinished : GoesOnAfter nodes player budget

-- the fault of solving a whole game: it is too wide, or else the budget is used up
abbrev pub IsWholeFault : List Node → Asked → ℕ → TaskFault → Type 0
IsWholeFault nodes asked budget TooWide = IsTooWide nodes asked
IsWholeFault nodes asked budget Budget = IsOverBudget nodes asked budget
IsWholeFault nodes asked budget fault = ⊥

-- a refusal that no budget makes: the game is too wide for a player for whom it is solved, or memory
abbrev pub IsWideRefusal : List Node → Asked → Refusal → Type 0
IsWideRefusal nodes asked =
    or_task (λ fault. (fault ≡ TooWide) × IsTooWide nodes asked) (or_memory never)

-- the part that the node with the identifier reaches has this fault
pub record IsPartFault (game : List Node) (asked : Asked) (identifier budget : ℕ)
    (fault : TaskFault) : Type 0 where
  pub part : List Node
  pub part_of : IsPartFrom game identifier part
  pub fault_there : IsWholeFault part asked budget fault

-- the fault of solving a game, or the part that the node of a given identifier reaches; the first is that no node has
-- the identifier
abbrev pub IsSolveFault : List Node → Asked → Option ℕ → ℕ → TaskFault → Type 0
IsSolveFault game asked None budget fault = IsWholeFault game asked budget fault
IsSolveFault game asked (Some identifier) budget UnknownNode = IsUnknownIdentifier game identifier
IsSolveFault game asked (Some identifier) budget fault =
    IsPartFault game asked identifier budget fault

-- the refusal of solving a game that was read, or a part of it: its fault, or memory
abbrev pub IsSolveGameRefusal : List Node → Asked → Option ℕ → ℕ → Refusal → Type 0
IsSolveGameRefusal game asked from budget =
    or_task (IsSolveFault game asked from budget) (or_memory never)

-- the text is that of a game that has this fault
pub record IsSolveTaskFault (text : List ℕ) (asked : Asked) (from : Option ℕ) (budget : ℕ)
    (fault : TaskFault) : Type 0 where
  pub game : List Node
  pub read : IsGameText text game
  pub fault_there : IsSolveFault game asked from budget fault

-- the refusal of `solve`: the fault of the game, or else the refusal of the text
abbrev pub IsSolveRefusal : List ℕ → Asked → Option ℕ → ℕ → Refusal → Type 0
IsSolveRefusal text asked from budget =
    or_task (IsSolveTaskFault text asked from budget) (IsRefusal text)
