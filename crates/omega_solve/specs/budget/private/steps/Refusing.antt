-- The refusal of a run whose table fits.
use Rattle.std.specs.Prelude.{◌≡◌, List, ℕ}
use Rattle.omega_text.specs.Cases.{never, or_memory, or_task}
use Rattle.omega_text.specs.declared.refusal.Refusal.{Refusal}
use Rattle.omega_text.specs.declared.refusal.task.TaskFault.{TaskFault}
use Rattle.omega_text.specs.declared.refusal.task.TaskFault.TheVariants.{Budget}
use Rattle.omega_game_values.specs.declared.player.Player.{Player}
use Rattle.omega_game_values.specs.Game.{Node}
use Rattle.omega_solve.specs.budget.Within.{GoesOnAfter}

-- the budget is used up: a lifting run of exactly its entries leaves a lift due
abbrev pub IsBudgetFault : List Node → Player → ℕ → TaskFault → Type 0
IsBudgetFault nodes player budget fault = (fault ≡ Budget) × GoesOnAfter nodes player budget

-- the refusal of solving within a budget if the table fits: the budget is used up, or memory
abbrev pub IsBudgetRefusal : List Node → Player → ℕ → Refusal → Type 0
IsBudgetRefusal nodes player budget = or_task (IsBudgetFault nodes player budget) (or_memory never)
