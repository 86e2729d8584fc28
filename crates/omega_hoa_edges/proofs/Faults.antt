-- Refusals of labels that are judged are those of their state, and that of the first state that of all.
use Rattle.std.proofs.Common.{◌≡◌, ℕ, ◌<◌, ◌⊎◌, inl, inr, Bool, false, List, refl}
use Rattle.omega_hoa_label.specs.Label.{LabelTree}
use Rattle.omega_hoa_satisfiable.specs.Undecided.{IsHardLabel}
use Rattle.omega_hoa_label.specs.Shape.{FitsALabel}
use Rattle.omega_text.specs.Cases.{never, or_memory, or_task}
use Rattle.omega_text.specs.declared.refusal.Refusal.{Refusal}
use Rattle.omega_text.specs.declared.refusal.task.TaskFault.{TaskFault}
use Rattle.omega_text.specs.declared.refusal.task.TaskFault.TheVariants.{TooLarge, TooManyPropositions}
use Rattle.omega_hoa_automaton.specs.Automaton.{Description}
use Rattle.omega_hoa_edges.specs.Determinism.{AreExclusiveBelow}
use Rattle.omega_hoa_edges.specs.Judged.{HasLargeEdge, IsBoth}
use Rattle.omega_hoa_edges.specs.AutomatonLabels.{is_full_at, labels_at}
use Rattle.omega_hoa_edges.specs.Refusing.{AreUnjudged, IsClashFault, IsStatesFault}
use Rattle.omega_hoa_edges.specs.private.Refused.{IsPartialFault, IsUnjudgedAt}
use Rattle.omega_hoa_edges.specs.Fitting.{IsLarge, IsUnjudged}
use Rattle.omega_hoa_edges.proofs.Refusals.{large_task, task_weaker}

module _ (labels : List LabelTree) (number : ℕ) (label : LabelTree) where
  -- two labels that are judged together
  pub both_refused : (refusal : Refusal) → IsBoth labels label → IsUnjudged label refusal → or_task (IsClashFault labels number) (or_memory never) refusal
  both_refused refusal both is =
      task_weaker (λ fault. ((fault ≡ TooLarge) × (FitsALabel label → ⊥)) ⊎ ((fault ≡ TooManyPropositions) × IsHardLabel label))
      (IsClashFault labels number) go refusal is
    where
      go : (fault : TaskFault) → ((fault ≡ TooLarge) × (FitsALabel label → ⊥)) ⊎ ((fault ≡ TooManyPropositions) × IsHardLabel label)
          → IsClashFault labels number fault
      go fault (inl large) = inr (inr (large.0, inr (label, both, large.1)))
      go fault (inr wide) = inr (inl (wide.0, (label, both, wide.1)))

module _ (full : Bool) (labels : List LabelTree) (number : ℕ) where
  -- it is one of judging the edges, too
  pub edge_partial : full ≡ false → (refusal : Refusal) → IsLarge (HasLargeEdge labels) refusal
      → or_task (IsPartialFault full labels number) (or_memory never) refusal
  edge_partial partial refusal is =
      large_task (HasLargeEdge labels) (IsPartialFault full labels number) (λ large. (partial, inr (inr (refl, inl large)))) refusal is

  pub clash_partial : full ≡ false → (refusal : Refusal) → or_task (IsClashFault labels number) (or_memory never) refusal
      → or_task (IsPartialFault full labels number) (or_memory never) refusal
  clash_partial partial refusal is =
      task_weaker (IsClashFault labels number) (IsPartialFault full labels number) (λ fault here. (partial, here)) refusal is

-- the fault of judging a state is that of judging all, where those before it are apart
pub first_refused : (a : Description) (number : ℕ) → number < a.states → AreExclusiveBelow a number → (refusal : Refusal)
    → IsUnjudgedAt a number refusal → AreUnjudged a refusal
first_refused a number below apart refusal is =
    task_weaker (IsPartialFault (is_full_at a number) (labels_at a number) number) (IsStatesFault a) go refusal is
  where
    go : (fault : TaskFault) → IsPartialFault (is_full_at a number) (labels_at a number) number fault → IsStatesFault a fault
    go fault (partial, inl clash) = inl (number, clash.0, record { below = below; apart = apart; clash = clash.1 })
    go fault (partial, inr undecided) =
        inr (record { number = number; below = below; apart = apart; partial = partial; undecided = undecided })
