-- The line for a text that is that of one automaton, and for one that is refused.
use Rattle.std.proofs.Common.{◌≡◌, List, ℕ, [], refl, subst}
use Rattle.omega_text.specs.Cases.{or_memory}
use Rattle.omega_text.specs.declared.refusal.Refusal.{Refusal}
use Rattle.omega_text.specs.declared.refusal.Refusal.TheVariants.{Automaton, Circuit, Game, Io, Memory, Task, Text}
use Rattle.omega_hoa_automaton.specs.Automaton.{Description}
use Rattle.omega_hoa.specs.Alone.{IsAutomatonRefusal, IsAutomatonText}
use Rattle.omega_hoa.specs.Laws.{AutomataAreOne, AutomataAreUnrefused}
use Rattle.omega_hoa_diagnostics.specs.LinesOfTexts.{IsLineOfText}

-- the line for the one automaton of a text
pub read_told : (IsLine : Description → List ℕ → Type 0) (text line : List ℕ) (a : Description) → AutomataAreOne → IsAutomatonText text a → IsLine a line
    → IsLineOfText IsLine text line
read_told IsLine text line a one is told = record {
  automaton = λ other there. subst (λ (d : Description). IsLine d line) (one text a other is there) told;
  none = λ no. absurd (no a is);
}

refused_by : (text : List ℕ) (refusal : Refusal) → or_memory (IsAutomatonRefusal text) refusal → (refusal ≡ Memory → ⊥) → IsAutomatonRefusal text refusal
refused_by text (Text fault) is not_memory = is
refused_by text (Game fault) is not_memory = is
refused_by text (Circuit fault) is not_memory = is
refused_by text (Automaton fault) is not_memory = is
refused_by text (Task fault) is not_memory = is
refused_by text Memory is not_memory = absurd (not_memory refl)
refused_by text Io is not_memory = is

-- no line for a text that is refused
pub unread_told : (IsLine : Description → List ℕ → Type 0) (text line : List ℕ) (refusal : Refusal) → AutomataAreUnrefused → or_memory (IsAutomatonRefusal text) refusal → (refusal ≡ Memory → ⊥)
    → line ≡ [] → IsLineOfText IsLine text line
unread_told IsLine text line refusal unrefused is not_memory empty = record {
  automaton = λ a there. absurd (unrefused text a refusal there (refused_by text refusal is not_memory));
  none = λ no. empty;
}
