-- What solving a game as arrays gives, and why it gives none.
use Rattle.std.specs.Prelude.{◌≡◌, ◌⊎◌, ℕ, Bool, true, false, List, Option, Some, None, min}
use Rattle.omega_text.specs.Cases.{never, or_game, or_memory, or_task}
use Rattle.omega_text.specs.declared.refusal.Refusal.{Refusal}
use Rattle.omega_game_values.specs.declared.player.Player.TheVariants.{One, Zero}
use Rattle.omega_game_values.specs.Game.{Node}
use Rattle.omega_solve.specs.Limits.{most_lifts}
use Rattle.omega_solve.specs.budget.Within.{EndsWithin}
use Rattle.omega_answers_game.specs.declared.solve.asked.Asked.TheVariants.{Both}
use Rattle.omega_answers_game.specs.solve.Refusing.{IsWholeFault}
use Rattle.omega_arrays.specs.declared.fault.ArrayFault.{ArrayFault}
use Rattle.omega_arrays.specs.declared.fault.ArrayFault.TheVariants.{BadShape, Refused}
use Rattle.omega_arrays.specs.declared.fault.WrongEntry.{WrongEntry}
use Rattle.omega_arrays.specs.declared.solving.Lifts.{Lifts}
use Rattle.omega_arrays.specs.Arrays.{GameArrays, nodes_in}
use Rattle.omega_arrays.specs.Shape.{IsSizeFault, IsSized}

-- the budget that counts: at most as many lifts as a solver makes
abbrev pub budget_of : ℕ → ℕ
budget_of budget = min budget most_lifts

-- each player's lifting run made these lifts, at most the budget and at most the bound, and left none due
abbrev pub EndBoth : List Node → ℕ → Lifts → Type 0
EndBoth nodes budget lifts =
    EndsWithin nodes Zero budget lifts.zero × EndsWithin nodes One budget lifts.one

-- these lifts were made: by both players' runs, or none if a search was requested
abbrev pub AreLifts : Bool → List Node → ℕ → Lifts → Type 0
AreLifts false nodes budget lifts = EndBoth nodes budget lifts
AreLifts true nodes budget lifts = ((lifts.zero ≡ 0) × (lifts.one ≡ 0)) ⊎ EndBoth nodes budget lifts

-- a wrong entry, or one of these refusals if no entry is wrong
abbrev pub or_shape : Option WrongEntry → (Refusal → Type 0) → ArrayFault → Type 0
or_shape wrong others (BadShape entry) = wrong ≡ Some entry
or_shape wrong others (Refused refusal) = (wrong ≡ None) × others refusal

-- the refusal of solving a game for both players: `TooWide`, `Budget` or `Memory`
abbrev pub IsWholeRefusal : List Node → ℕ → Refusal → Type 0
IsWholeRefusal nodes budget = or_task (IsWholeFault nodes Both budget) (or_memory never)

-- the refusal of solving the game that the arrays encode: that of its size, or else that of its game
abbrev pub IsArraysSolvingRefusal : GameArrays → ℕ → Refusal → Type 0
IsArraysSolvingRefusal a budget = or_game (IsSizeFault a)
    (or_task (λ fault. IsSized a × IsWholeFault (nodes_in a) Both budget fault) (or_memory never))
