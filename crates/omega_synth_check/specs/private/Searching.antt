-- A search of an automaton for a letter of the environment that a state that is reached does not answer.
use Rattle.std.specs.Prelude.{◌≡◌, ℕ, ◌<◌, Bool, false, List, Contains, Option, None, Some, length}
use Rattle.omega_hoa_automaton.specs.Automaton.{Description, IsAutomaton}
use Rattle.omega_hoa_automaton.specs.Branching.{has_universal_branching}
use Rattle.omega_synth_controllers.specs.Controllers.{Answers}
use Rattle.omega_synth_game.specs.RoundsOf.{holds_in}
use Rattle.omega_synth_check.specs.Judging.{AreInputs, IsAnswered}
use Rattle.omega_synth_check.specs.Lacks.{AreReachedSettled, IsSettled}
use Rattle.omega_synth_check.specs.Refusing.{IsHardEdge}
use Rattle.omega_synth_check.specs.declared.searching.Lacking.{Lacking}
use Rattle.omega_synth_check.specs.declared.search.ControllerSearch.{ControllerSearch}
use Rattle.omega_synth_check.specs.private.Leaving.{IsLeavingOf}
use Rattle.omega_synth_check.specs.private.Meeting.{state_at}

-- the parts of a search
pub record IsSearch (search : ControllerSearch) : Type 0 where
  pub automaton : IsAutomaton search.automaton.now
  pub plain : has_universal_branching search.automaton.now ≡ false
  pub leaving : IsLeavingOf search.automaton.now search.leaving.now

-- no edge of these answers the letter, by the propositions that hold
abbrev pub NoneAnswers : Description → (controlled numbers letter : List ℕ) → Type 0
NoneAnswers a controlled numbers letter =
    (number : ℕ) → Contains numbers number → ¬ Answers a controlled number (holds_in letter)

-- one of these edges answers the letter
abbrev pub SomeAnswers : Description → (controlled numbers : List ℕ) → (ℕ → Bool) → Type 0
SomeAnswers a controlled numbers given =
    (number : ℕ) × Contains numbers number × Answers a controlled number given

-- the state at a place does not answer the letter, which lists propositions of the environment alone
abbrev pub IsLackingIn : Description → (controlled states : List ℕ) → Lacking → Type 0
IsLackingIn a controlled states lacking =
    (lacking.place < length states)
    × (¬ IsAnswered a controlled (state_at states lacking.place) (holds_in lacking.letter))
    × AreInputs a controlled lacking.letter

-- what a state that was visited lacks: a letter that it does not answer, or nothing
abbrev pub IsVisited : Description → List ℕ → ℕ → Option (List ℕ) → Type 0
IsVisited a controlled state None = IsSettled a controlled state
IsVisited a controlled state (Some letter) =
    (¬ IsAnswered a controlled state (holds_in letter)) × AreInputs a controlled letter

-- what a search found: a state that lacks an answer, or that none does
abbrev pub IsSearched : Description → (controlled states : List ℕ) → Option Lacking → Type 0
IsSearched a controlled states None = AreReachedSettled a controlled
IsSearched a controlled states (Some lacking) = IsLackingIn a controlled states lacking

-- one of these edges may be given up undecided
abbrev pub HaveHardEdge : Description → List ℕ → Type 0
HaveHardEdge a numbers = (number : ℕ) × Contains numbers number × IsHardEdge a number
