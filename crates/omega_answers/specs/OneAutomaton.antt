-- The text of an automaton.
use Rattle.std.specs.Prelude.{◌⊎◌, List, ℕ}
use Rattle.omega_text.specs.declared.refusal.Refusal.{Refusal}
use Rattle.omega_hoa.specs.Alone.{IsAutomatonRefusal, IsAutomatonText}
use Rattle.omega_hoa_automaton.specs.Automaton.{Description}

-- it is the text of an automaton of which this holds
pub record OfAutomaton (Holds : Description → Type 0) (text : List ℕ) : Type 0 where
  pub automaton : Description
  pub read : IsAutomatonText text automaton
  pub holds : Holds automaton

-- it is not the text of an automaton, or its automaton is refused so
abbrev pub IsRefusalOfText : (Description → Refusal → Type 0) → (text : List ℕ) → Refusal → Type 0
IsRefusalOfText Refuses text refusal =
    IsAutomatonRefusal text refusal ⊎ OfAutomaton (λ automaton. Refuses automaton refusal) text
