-- Lines about the automaton of a text.
use Rattle.std.specs.Prelude.{◌≡◌, ℕ, List, []}
use Rattle.omega_hoa_automaton.specs.Automaton.{Description}
use Rattle.omega_hoa.specs.Alone.{IsAutomatonText}

-- the line for a text: that for its automaton, or no line if the bytes are no text of one automaton
pub record IsLineOfText (IsLine : Description → List ℕ → Type 0)
    (text line : List ℕ) : Type 0 where
  pub automaton : (a : Description) → IsAutomatonText text a → IsLine a line
  pub none : ((a : Description) → IsAutomatonText text a → ⊥) → line ≡ []
