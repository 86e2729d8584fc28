-- Refusals of deciding: those of the emptiness game, and those of solving it.
use Rattle.std.proofs.Common.{◌≡◌, ℕ, List, Ok, Err, Result, IfOk, IfErr, IsErrAnd, IsOk, OnOk, false, inl, inr, refl, subst, sym}
use Rattle.omega_text.specs.declared.refusal.Refusal.{Refusal}
use Rattle.omega_text.specs.declared.refusal.Refusal.TheVariants.{Automaton, Circuit, Game, Io, Memory, Task, Text}
use Rattle.omega_hoa_automaton.specs.Automaton.{Description}
use Rattle.omega_game_values.specs.Game.{Node, priorities}
use Rattle.omega_game_values.specs.declared.player.Player.TheVariants.{Zero}
use Rattle.omega_measure.specs.Table.{is_too_wide}
use Rattle.omega_solve.specs.budget.Within.{IsFound, IsSolvingRefusal}
use Rattle.omega_solve.specs.declared.budget.found.Found.{Found}
use Rattle.omega_empty.specs.EmptinessGame.{IsEmptinessGame}
use Rattle.omega_empty.specs.Refusing.{IsGameRefusal, IsGiven}
use Rattle.omega_empty.specs.Deciding.{IsEmptinessRefusal, IsSolvedWithin}

-- what is found in a game that is not too wide solves it within the budget
pub found_solved : (budget : ℕ) (given game : List Node) (answer : Result Found Refusal) → given ≡ game
    → (IsOk answer → is_too_wide Zero (priorities given) ≡ false) → IfOk answer (IsFound given Zero budget) → OnOk answer (IsSolvedWithin budget game)
found_solved budget given game (Err refusal) same fits is = tt
found_solved budget given game (Ok found) same fits is =
    subst (IsSolvedWithin budget) same (record { fits = fits refl; lifts = found.lifts; ends = is.ended })

-- what holds without the value of an answer holds of each answer
pub on_ok : {A : Type 0} (answer : Result A Refusal) (wanted : Type 0) → wanted → OnOk answer wanted
on_ok (Ok value) wanted holds = holds
on_ok (Err refusal) wanted holds = tt

-- an automaton without an emptiness game is not decided
pub ungiven_refused : (a : Description) (budget : ℕ) (refusal : Refusal) → IsGameRefusal a refusal → IsEmptinessRefusal a budget refusal
ungiven_refused a budget (Text fault) is = is
ungiven_refused a budget (Game fault) is = is
ungiven_refused a budget (Circuit fault) is = is
ungiven_refused a budget (Automaton fault) is = is
ungiven_refused a budget (Task fault) is = inl is
ungiven_refused a budget Memory is = tt
ungiven_refused a budget Io is = is

-- nor is one whose game is not solved
pub unsolved_refused : (a : Description) (budget : ℕ) (game : List Node) (refusal : Refusal) → IsGiven a → IsEmptinessGame a game → IsSolvingRefusal game Zero budget refusal → IsEmptinessRefusal a budget refusal
unsolved_refused a budget game (Text fault) given game_is is = is
unsolved_refused a budget game (Game fault) given game_is is = absurd is
unsolved_refused a budget game (Circuit fault) given game_is is = absurd is
unsolved_refused a budget game (Automaton fault) given game_is is = is
unsolved_refused a budget game (Task fault) given game_is is = inr (record { given = given; game = game; game_is = game_is; fault_there = is })
unsolved_refused a budget game Memory given game_is is = tt
unsolved_refused a budget game Io given game_is is = is

-- what holds of a refusal holds if it is passed on
pub passed_on : {A : Type 0} (answer : Result A Refusal) (refusal : Refusal) (wanted : Refusal → Type 0) → IsErrAnd answer (λ e. e ≡ refusal) → wanted refusal → IfErr answer wanted
passed_on (Ok value) refusal wanted is holds = tt
passed_on (Err error) refusal wanted is holds = subst wanted (sym is) holds
