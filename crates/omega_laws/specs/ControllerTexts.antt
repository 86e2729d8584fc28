-- The law of the canonical texts of controllers.
use Rattle.std.specs.Prelude.{◌≡◌, ◌≤◌, ℕ, Bool, false, List, length}
use Rattle.omega_text.specs.Limits.{most_text}
use Rattle.omega_hoa_automaton.specs.Automaton.{Description}
use Rattle.omega_hoa_automaton.specs.Branching.{has_universal_branching}
use Rattle.omega_canon.specs.Canonical.{canonical_automaton}
use Rattle.omega_synth_controllers.specs.Controllable.{IsControlled}
use Rattle.omega_answers_synth.specs.Laws.{controller_of}
use Rattle.omega_hoa.specs.Alone.{IsAutomatonText}
use Rattle.omega_synth_text.specs.Reaching.{TellsReached}

-- the canonical text of an automaton is the text of that automaton, if it is within the limit of texts
abbrev pub IsReadBack : Description → Type 0
IsReadBack controller = length (canonical_automaton controller) ≤ most_text
    → IsAutomatonText (canonical_automaton controller) controller

-- so it is for each automaton that was read and does not branch universally, whatever edges are kept
abbrev pub ControllersAreReadBack : Type 0
ControllersAreReadBack =
    (source : List ℕ) (a : Description) (controlled kept : List ℕ) (reached : ℕ → Bool)
    → IsAutomatonText source a
    → has_universal_branching a ≡ false → IsControlled a controlled → TellsReached a kept reached
    → IsReadBack (controller_of a controlled kept reached)
