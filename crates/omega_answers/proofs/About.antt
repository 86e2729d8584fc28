-- Which of two texts a refusal is about that comes from reading one of them.
use Rattle.std.proofs.Common.{◌≡◌, Some, refl, sym, subst}
use Rattle.omega_text.specs.Cases.{or_memory}
use Rattle.omega_text.specs.declared.refusal.Refusal.{Refusal}
use Rattle.omega_text.specs.declared.refusal.Refusal.TheVariants.{Automaton, Circuit, Game, Io, Memory, Task, Text}
use Rattle.omega_io.specs.Refused.{IsAbout, IsRefusedOf, about}
use Rattle.omega_io.specs.declared.refused.Refused.{Refused}
use Rattle.omega_io.specs.declared.refused.Which.{Which}
use Rattle.omega_io.specs.declared.refused.Which.TheVariants.{File, Input}

module _ (file input : Refusal → Type 0) where
  -- what holds of the refusals of a text
  abbrev pub of_text : Which → Refusal → Type 0
  of_text File refusal = file refusal
  of_text Input refusal = input refusal

  named : (text : Which) (refusal : Refusal) → of_text text refusal → IsAbout (λ other. other ≡ Memory) file input (Some text) refusal
  named File refusal is = is
  named Input refusal is = is

  -- a text is refused when it is read, or memory is
  pub of_read : (text : Which) (own : Refusal → Type 0) → ((refusal : Refusal) → own refusal → of_text text refusal) → ¬ own Io
      → (refusal : Refusal) → or_memory own refusal → (reported : Refused) → reported ≡ about text refusal → IsRefusedOf file input reported
  of_read text own then not_io refusal refused reported is = subst (IsRefusedOf file input) (sym is) (go refusal refused)
    where
      go : (refusal : Refusal) → or_memory own refusal → IsRefusedOf file input (about text refusal)
      go (Text fault) h = named text (Text fault) (then (Text fault) h)
      go (Game fault) h = named text (Game fault) (then (Game fault) h)
      go (Circuit fault) h = named text (Circuit fault) (then (Circuit fault) h)
      go (Automaton fault) h = named text (Automaton fault) (then (Automaton fault) h)
      go (Task fault) h = named text (Task fault) (then (Task fault) h)
      go Memory h = refl
      go Io h = absurd (not_io h)
