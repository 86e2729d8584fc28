-- What a search for a state in which the environment has no letter shows on its way.
use Rattle.std.specs.Prelude.{ℕ, ◌<◌, Bool, List, Contains, Option, None, Some, length}
use Rattle.omega_hoa_automaton.specs.Automaton.{Description}
use Rattle.omega_synth_controllers.specs.Controllers.{Answers}
use Rattle.omega_synth_check.specs.Judging.{IsReached}
use Rattle.omega_synth_check.specs.WaysOut.{HasLetterIn, IsBlocked}
use Rattle.omega_synth_check.specs.declared.without_letter.Blocked.{Blocked}
use Rattle.omega_synth_check.specs.private.Meeting.{state_at}

-- what a visit to a state shows: that the environment has a letter there, or that it has none
abbrev pub IsVisitedFor : Description → (controlled : List ℕ) → (out : ℕ → Bool) → ℕ
    → Option ℕ → Type 0
IsVisitedFor a controlled out state None = HasLetterIn a controlled out state
IsVisitedFor a controlled out state (Some number) = IsBlocked a controlled out state number

-- what a search found: a state among those that were met in which the environment has no letter, or that it has one in
-- each state that is reached
abbrev pub IsBlockedAmong : (a other : Description) → (controlled : List ℕ) → (out : ℕ → Bool)
    → (states : List ℕ) → Option Blocked → Type 0
IsBlockedAmong a other controlled out states None =
    (state : ℕ) → IsReached a state → HasLetterIn other controlled out state
IsBlockedAmong a other controlled out states (Some blocked) = (blocked.place < length states)
    × IsBlocked other controlled out (state_at states blocked.place) blocked.number

-- no edge of these answers some letter
abbrev pub IsSpared : Description → (controlled numbers : List ℕ) → Type 0
IsSpared a controlled numbers = (letter : ℕ → Bool)
    × ((number : ℕ) → Contains numbers number → ¬ Answers a controlled number letter)
