-- Why the text of an automaton is refused: by itself, or for its automaton.
use Rattle.std.proofs.Common.{inl, inr, ℕ, List}
use Rattle.omega_text.specs.Cases.{or_memory}
use Rattle.omega_text.specs.declared.refusal.Refusal.{Refusal}
use Rattle.omega_hoa_automaton.specs.Automaton.{Description}
use Rattle.omega_hoa.specs.Alone.{IsAutomatonRefusal, IsAutomatonText}
use Rattle.omega_answers.specs.OneAutomaton.{IsRefusalOfText}
use Rattle.omega_answers.proofs.Refusals.{memory_or, or_memory_of}

module _ (Refuses : Description → Refusal → Type 0) (text : List ℕ) where
  pub text_refused : (refusal : Refusal) → or_memory (IsAutomatonRefusal text) refusal → or_memory (IsRefusalOfText Refuses text) refusal
  text_refused refusal is = memory_or (IsAutomatonRefusal text) (IsRefusalOfText Refuses text) (λ other unread. inl unread) refusal is

  pub automaton_refused : (automaton : Description) → IsAutomatonText text automaton → (refusal : Refusal) → Refuses automaton refusal
      → or_memory (IsRefusalOfText Refuses text) refusal
  automaton_refused automaton read refusal is =
      or_memory_of (IsRefusalOfText Refuses text) refusal (inr (record { automaton = automaton; read = read; holds = is }))
