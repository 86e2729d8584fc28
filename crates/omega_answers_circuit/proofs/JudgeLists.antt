-- Refusals of lists of names, and of a circuit for the outputs that they give.
use Rattle.std.proofs.Common.{◌≡◌, ℕ, List, refl, sym, ap, subst, ◌∙◌}
use Rattle.omega_answers_synth.specs.Outputs.{AreListedOutputs, IsRefusedWithLists, IsUnparted, NameLists}
use Rattle.omega_answers_synth.specs.Outputs.{lists_refused, no_memory, outputs_refused}
use Rattle.omega_io.specs.Refused.{about}
use Rattle.omega_io.specs.declared.refused.Refused.{Refused}
use Rattle.omega_io.specs.declared.refused.Which.TheVariants.{File}
use Rattle.omega_ltl_formula.specs.Table.{NumberedFormula}
use Rattle.omega_text.specs.declared.refusal.Refusal.{Refusal}
use Rattle.omega_text.specs.declared.refusal.Refusal.TheVariants.{Automaton, Circuit, Game, Io, Memory, Task, Text}
use Rattle.omega_text.specs.declared.refusal.task.TaskFault.TheVariants.{Controllable}

module _ (formula : NumberedFormula) (lists : NameLists) (Refuses : List (List ℕ) → Refused → Type 0) where
  -- lists that do not part the names are refused, about the formula
  pub lists_refuse_file : (refusal : Refusal) → IsUnparted formula lists refusal → (reported : Refused) → reported ≡ about File refusal
      → IsRefusedWithLists formula lists Refuses reported
  lists_refuse_file refusal h reported is = subst (IsRefusedWithLists formula lists Refuses) (sym is) (go refusal h)
    where
      go : (refusal : Refusal) → IsUnparted formula lists refusal → IsRefusedWithLists formula lists Refuses (about File refusal)
      go (Task fault) h = lists_refused h.1 (ap (about File) h.0)
      go Memory h = no_memory refl
      go (Text fault) h = absurd (let e : Text fault ≡ Task Controllable = h.0 in cc)
      go (Game fault) h = absurd (let e : Game fault ≡ Task Controllable = h.0 in cc)
      go (Circuit fault) h = absurd (let e : Circuit fault ≡ Task Controllable = h.0 in cc)
      go (Automaton fault) h = absurd (let e : Automaton fault ≡ Task Controllable = h.0 in cc)
      go Io h = absurd (let e : Io ≡ Task Controllable = h.0 in cc)

  -- what refuses with the outputs that were found refuses with those of the lists
  pub outputs_refuse_texts : (made : List (List ℕ)) → AreListedOutputs formula lists made → (given : List (List ℕ)) → given ≡ made
      → (reported : Refused) → Refuses given reported → IsRefusedWithLists formula lists Refuses reported
  outputs_refuse_texts made listed given same reported h =
      outputs_refused listed.parted (subst (λ (names : List (List ℕ)). Refuses names reported) (same ∙ listed.are) h)
