-- Two texts of automata, that of a file and that of the input.
use Rattle.std.specs.Prelude.{◌⊎◌, List, ℕ}
use Rattle.omega_hoa.specs.Alone.{IsAutomatonRefusal, IsAutomatonText}
use Rattle.omega_hoa_automaton.specs.Automaton.{Description}
use Rattle.omega_io.specs.declared.refused.Refused.{Refused}
use Rattle.omega_answers.specs.TwoTexts.{IsEitherRefused, OfBoth}

-- both are texts of automata, and this holds of the two, of that of the file first
abbrev pub OfAutomata : (Description → Description → Type 0) → (file input : List ℕ) → Type 0
OfAutomata Holds file input = OfBoth (IsAutomatonText file) (IsAutomatonText input) Holds

-- one of them is not the text of an automaton, that of the file first
abbrev pub IsEitherUnread : (file input : List ℕ) → Refused → Type 0
IsEitherUnread file input =
    IsEitherRefused (IsAutomatonText file) (IsAutomatonRefusal file) (IsAutomatonRefusal input)

-- one of them is not, or both automata together are refused so
abbrev pub IsRefusalOfTexts : (Description → Description → Refused → Type 0) → (file input : List ℕ)
    → Refused → Type 0
IsRefusalOfTexts Refuses file input refused = IsEitherUnread file input refused
    ⊎ OfAutomata (λ second first. Refuses second first refused) file input
