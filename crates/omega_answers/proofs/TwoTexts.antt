-- What holds of two texts of automata that were read, and why they are refused.
use Rattle.std.proofs.Common.{◌≡◌, inr, refl, sym, subst, ℕ, List}
use Rattle.omega_text.specs.declared.refusal.Refusal.{Refusal}
use Rattle.omega_hoa_automaton.specs.Automaton.{Description}
use Rattle.omega_hoa.specs.Alone.{IsAutomatonText}
use Rattle.omega_io.specs.Refused.{about_none}
use Rattle.omega_io.specs.declared.refused.Refused.{Refused}
use Rattle.omega_answers.specs.TwoAutomata.{IsRefusalOfTexts, OfAutomata}
use Rattle.omega_answers.specs.TwoTexts.{IsAboutNeither}

module _ (file input : List ℕ) (second first : Description) (file_read : IsAutomatonText file second) (input_read : IsAutomatonText input first) where
  pub of_automata : (Holds : Description → Description → Type 0) → Holds second first → OfAutomata Holds file input
  of_automata Holds holds = record { file = second; file_read = file_read; input = first; input_read = input_read; holds = holds }

  -- both together are refused
  pub both_refused : (Refuses : Description → Description → Refused → Type 0) (refused : Refused) → Refuses second first refused → IsRefusalOfTexts Refuses file input refused
  both_refused Refuses refused is = inr (of_automata (λ other one. Refuses other one refused) is)

  -- which is about neither
  pub neither_refused : (Refuses : Description → Description → Refusal → Type 0) (refusal : Refusal) → Refuses second first refusal
      → (refused : Refused) → refused ≡ about_none refusal → IsRefusalOfTexts (λ other one. IsAboutNeither (Refuses other one)) file input refused
  neither_refused Refuses refusal is refused reported =
      both_refused (λ other one. IsAboutNeither (Refuses other one)) refused
      (subst (IsAboutNeither (Refuses second first)) (sym reported) (refl, is))
