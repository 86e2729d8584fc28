-- The refusal of `realize`: that of the text, or else that of the item `controllable-AP:`, or else that of the question
-- whether the automaton is realizable.
use Rattle.std.specs.Prelude.{◌⊎◌, List, ℕ}
use Rattle.omega_text.specs.declared.refusal.Refusal.{Refusal}
use Rattle.omega_hoa_automaton.specs.Automaton.{Description}
use Rattle.omega_synth_controllers.specs.Controllable.{HasStated, IsMisstated, IsStated}
use Rattle.omega_answers.specs.OneAutomaton.{IsRefusalOfText}
use Rattle.omega_synth_realize.specs.Refusing.{IsRealizabilityRefusal}

-- the item lists propositions, and the question about them is refused, with this budget of lifts
pub record RefusesRealizing (a : Description) (budget : ℕ) (refusal : Refusal) : Type 0 where
  pub controlled : List ℕ
  pub stated : IsStated a controlled
  pub refused : IsRealizabilityRefusal a controlled budget refusal

-- the refusal of an automaton: that of its item, or else that of the question
abbrev pub IsRefusalOfAutomaton : Description → ℕ → Refusal → Type 0
IsRefusalOfAutomaton a budget refusal =
    IsMisstated (HasStated a) refusal ⊎ RefusesRealizing a budget refusal

-- the refusal of `realize`
abbrev pub IsRealizeRefusal : List ℕ → ℕ → Refusal → Type 0
IsRealizeRefusal text budget = IsRefusalOfText (λ a refusal. IsRefusalOfAutomaton a budget refusal) text
