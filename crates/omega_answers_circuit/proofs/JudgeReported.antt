-- Which text a refusal of the judge is about.
use Rattle.std.proofs.Common.{◌≡◌, inl, inr, ℕ, List, Some, refl, sym, ap, subst, ◌∙◌}
use Rattle.std.specs.Prelude.{Result, Ok, Err, IfErr, IsErrAnd}
use Rattle.omega_circuit.specs.Circuit.{CircuitValue}
use Rattle.omega_hoa_automaton.specs.Automaton.{Description}
use Rattle.omega_io.specs.Refused.{about, about_none}
use Rattle.omega_io.specs.declared.refused.Refused.{Refused}
use Rattle.omega_io.specs.declared.refused.Which.TheVariants.{File, Input}
use Rattle.omega_lang_inclusion.specs.Refusing.{IsContainmentRefusal}
use Rattle.omega_ltl_formula.specs.Table.{NumberedFormula}
use Rattle.omega_ltl_satisfaction.specs.Refusing.{IsSatisfactionRefusal}
use Rattle.omega_synth_controllers.specs.Controllable.{HasControlled, IsControlled, IsMisstated}
use Rattle.omega_text.specs.Cases.{or_memory}
use Rattle.omega_text.specs.declared.refusal.Refusal.{Refusal}
use Rattle.omega_text.specs.declared.refusal.Refusal.TheVariants.{Automaton, Circuit, Game, Io, Memory, Task, Text}
use Rattle.omega_text.specs.declared.refusal.task.TaskFault.{TaskFault}
use Rattle.omega_answers_circuit.specs.FormulaVerify as of_formula
use Rattle.omega_answers_circuit.specs.FormulaVerify.{IsSidedFor, RefusesFormulaCircuit}
use Rattle.omega_answers_circuit.specs.Sides.{IsAutomatonOf, IsSidesRefusal, IsUnsided}
use Rattle.omega_answers_circuit.specs.Verify.{IsCircuitPairRefusal, IsSidedBy, RefusesCircuit, containment_text, misstated, not_contained}
use Rattle.omega_answers_circuit.specs.Verify.{parted_names, system_names, unsided}
use Rattle.omega_answers_circuit.proofs.SidesRefused.{sides_are_read}

-- an error that names its text is passed on
pub passed_on : {T : Type 0} (result : Result T Refused) (P : Refused → Type 0) (refused : Refused) → IsErrAnd result (λ e. e ≡ refused) → P refused → IfErr result P
passed_on (Ok x) P refused is h = absurd is
passed_on (Err e) P refused is h = subst P (sym is) h

-- a refusal of the circuit is about it, unless memory is wanting
of_circuit : (own : Refusal → Type 0) (P : Refused → Type 0) → ¬ own Io → P (about_none Memory)
    → ((refusal : Refusal) → own refusal → P (record { refusal = refusal; text = Some Input })) → (refusal : Refusal) → or_memory own refusal → P (about Input refusal)
of_circuit own P not_io memory then (Text fault) h = then (Text fault) h
of_circuit own P not_io memory then (Game fault) h = then (Game fault) h
of_circuit own P not_io memory then (Circuit fault) h = then (Circuit fault) h
of_circuit own P not_io memory then (Automaton fault) h = then (Automaton fault) h
of_circuit own P not_io memory then (Task fault) h = then (Task fault) h
of_circuit own P not_io memory then Memory h = memory
of_circuit own P not_io memory then Io h = absurd (not_io h)

module _ (specification : Description) (c : CircuitValue) where
  -- the item of the specification is refused
  pub item_reported : (refusal : Refusal) → IsMisstated (HasControlled specification) refusal → (reported : Refused) → reported ≡ about File refusal
      → RefusesCircuit specification c reported
  item_reported refusal refused reported is = subst (RefusesCircuit specification c) (sym is) (go refusal refused)
    where
      go : (refusal : Refusal) → IsMisstated (HasControlled specification) refusal → RefusesCircuit specification c (about File refusal)
      go (Task fault) h = inr (subst (λ (f : TaskFault). IsCircuitPairRefusal specification c (Some File) (Task f)) (sym h.0) (misstated h.1))
      go Memory h = inl refl
      go (Text fault) h = absurd h
      go (Game fault) h = absurd h
      go (Circuit fault) h = absurd h
      go (Automaton fault) h = absurd h
      go Io h = absurd h

  -- or the circuit is, for its names, its sides or its automaton
  pub sides_reported : (stated : List ℕ) → IsControlled specification stated → (refusal : Refusal)
      → IsSidesRefusal (parted_names specification) (system_names specification stated) c refusal → (reported : Refused) → reported ≡ about Input refusal
      → RefusesCircuit specification c reported
  sides_reported stated specified refusal refused reported is =
      let names = parted_names specification in
      let system = system_names specification stated in
      subst (RefusesCircuit specification c) (sym is)
      (of_circuit (IsUnsided names system c) (RefusesCircuit specification c) (sides_are_read names system c) (inl refl)
      (λ other why. inr (unsided stated other specified why)) refusal refused)

  -- or containment is
  pub containment_reported : IsSidedBy specification c → (a : Description) → IsAutomatonOf c a → (refusal : Refusal) → IsContainmentRefusal a specification refusal
      → (reported : Refused) → reported.refusal ≡ refusal → reported.text ≡ containment_text refusal → RefusesCircuit specification c reported
  containment_reported sided a of refusal refused reported same text =
      inr (subst (λ t. IsCircuitPairRefusal specification c t reported.refusal) (sym text)
      (subst (λ r. IsCircuitPairRefusal specification c (containment_text refusal) r) (sym same) (not_contained a refusal sided of refused)))

  -- or memory is wanting
  pub memory_reported : (refusal : Refusal) → refusal ≡ Memory → (reported : Refused) → reported ≡ about_none refusal → RefusesCircuit specification c reported
  memory_reported refusal e reported is = inl (is ∙ ap about_none e)

module _ (formula : NumberedFormula) (outs : List (List ℕ)) (c : CircuitValue) where
  -- the circuit is refused, for its names, its sides or its automaton
  pub formula_sides_reported : (refusal : Refusal) → IsSidesRefusal formula.table.names outs c refusal → (reported : Refused) → reported ≡ about Input refusal
      → RefusesFormulaCircuit formula outs c reported
  formula_sides_reported refusal refused reported is =
      subst (RefusesFormulaCircuit formula outs c) (sym is)
      (of_circuit (IsUnsided formula.table.names outs c) (RefusesFormulaCircuit formula outs c) (sides_are_read formula.table.names outs c) (inl refl)
      (λ other why. inr (of_formula.unsided other why)) refusal refused)

  -- or satisfaction is
  pub satisfaction_reported : IsSidedFor formula outs c → (a : Description) → IsAutomatonOf c a → (refusal : Refusal) → IsSatisfactionRefusal a formula refusal
      → (reported : Refused) → reported ≡ about_none refusal → RefusesFormulaCircuit formula outs c reported
  satisfaction_reported sided a of refusal refused reported is =
      subst (RefusesFormulaCircuit formula outs c) (sym is) (inr (of_formula.not_satisfied a refusal sided of refused))

  -- or memory is wanting
  pub formula_memory_reported : (refusal : Refusal) → refusal ≡ Memory → (reported : Refused) → reported ≡ about_none refusal
      → RefusesFormulaCircuit formula outs c reported
  formula_memory_reported refusal e reported is = inl (is ∙ ap about_none e)
