-- A refusal that is told of a text is for a choice.
use Rattle.std.proofs.Common.{◌≡◌, ℕ, Option, None, Some, refl, sym, ap, ◌∙◌}
use Rattle.omega_text.specs.declared.refusal.Refusal.{Refusal}
use Rattle.omega_text.specs.declared.refusal.Refusal.TheVariants.{Automaton, Circuit, Game, Io, Memory, Task, Text}
use Rattle.omega_text.specs.declared.refusal.task.TaskFault.TheVariants.{BadSolution, Budget, Controllable, NotDeterministic, NotParity, TooLarge, TooManyPropositions, TooWide, UniversalBranch, Unjudged, UnknownNode}
use Rattle.omega_io.specs.declared.refused.Refused.{Refused}
use Rattle.omega_io.specs.declared.refused.Which.{Which}
use Rattle.omega_answers.specs.Choice.{refused_for}

none_some : (which : Which) → ◌≡◌ {A = Option Which} None (Some which) → ⊥
none_some which e = cc

module _ (text which : Which) where
  about : (refusal : Refusal) → (refused_for text refusal).text ≡ Some which → (state : ℕ) × (refusal ≡ Task (NotDeterministic state))
  about (Task (NotDeterministic state)) of_text = (state, refl)
  about (Task BadSolution) of_text = absurd (none_some which of_text)
  about (Task Budget) of_text = absurd (none_some which of_text)
  about (Task Controllable) of_text = absurd (none_some which of_text)
  about (Task Unjudged) of_text = absurd (none_some which of_text)
  about (Task NotParity) of_text = absurd (none_some which of_text)
  about (Task TooLarge) of_text = absurd (none_some which of_text)
  about (Task TooManyPropositions) of_text = absurd (none_some which of_text)
  about (Task TooWide) of_text = absurd (none_some which of_text)
  about (Task UniversalBranch) of_text = absurd (none_some which of_text)
  about (Task UnknownNode) of_text = absurd (none_some which of_text)
  about (Text fault) of_text = absurd (none_some which of_text)
  about (Game fault) of_text = absurd (none_some which of_text)
  about (Circuit fault) of_text = absurd (none_some which of_text)
  about (Automaton fault) of_text = absurd (none_some which of_text)
  about Memory of_text = absurd (none_some which of_text)
  about Io of_text = absurd (none_some which of_text)

  pub chosen : (refusal : Refusal) (refused : Refused) → refused ≡ refused_for text refusal → refused.text ≡ Some which
      → (state : ℕ) × (refusal ≡ Task (NotDeterministic state))
  chosen refusal refused is of_text = about refusal (ap (λ (r : Refused). r.text) (sym is) ∙ of_text)

-- it is told as it is
same_refusal : (text : Which) (refusal : Refusal) → (refused_for text refusal).refusal ≡ refusal
same_refusal text (Task (NotDeterministic state)) = refl
same_refusal text (Task BadSolution) = refl
same_refusal text (Task Budget) = refl
same_refusal text (Task Controllable) = refl
same_refusal text (Task Unjudged) = refl
same_refusal text (Task NotParity) = refl
same_refusal text (Task TooLarge) = refl
same_refusal text (Task TooManyPropositions) = refl
same_refusal text (Task TooWide) = refl
same_refusal text (Task UniversalBranch) = refl
same_refusal text (Task UnknownNode) = refl
same_refusal text (Text fault) = refl
same_refusal text (Game fault) = refl
same_refusal text (Circuit fault) = refl
same_refusal text (Automaton fault) = refl
same_refusal text Memory = refl
same_refusal text Io = refl

pub told_refusal : (text : Which) (refusal : Refusal) (refused : Refused) → refused ≡ refused_for text refusal → refused.refusal ≡ refusal
told_refusal text refusal refused is = ap (λ (r : Refused). r.refusal) is ∙ same_refusal text refusal
