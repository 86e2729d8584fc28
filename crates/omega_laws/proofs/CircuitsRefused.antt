-- No refusal is about the text of a circuit that is written, or about its specification.
use Rattle.std.proofs.Common.{◌≡◌, ◌⊎◌, inl, inr, ℕ, List, Option, Some, None, refl, ap, subst}
use Rattle.omega_aiger.specs.Laws.{CircuitsAreNotRefused, CircuitsOfTextsAreOne}
use Rattle.omega_aiger.specs.Text.{IsCircuitTextRefusal}
use Rattle.omega_answers_circuit.specs.Sides.{IsSided, IsUnsided, large, misnamed, not_sided}
use Rattle.omega_answers_circuit.specs.Verify.{IsCircuitPairRefusal, IsSidedBy, RefusesCircuit, containment_text, misstated, not_contained, parted_names, system_names, unsided}
use Rattle.omega_answers_synth.proofs.ControllerStated.{controlled_one}
use Rattle.omega_circuit.specs.Circuit.{CircuitValue}
use Rattle.omega_circuit_automaton.specs.Names.{AreFit, IsNameRefusal, proposition_names}
use Rattle.omega_hoa.specs.Alone.{IsAutomatonRefusal, IsAutomatonText}
use Rattle.omega_hoa.specs.Laws.{AutomataAreOne, AutomataAreUnrefused}
use Rattle.omega_hoa_automaton.specs.Automaton.{Description}
use Rattle.omega_hoa_edges.specs.Determinism.{IsDeterministic}
use Rattle.omega_io.specs.Refused.{IsAbout}
use Rattle.omega_io.specs.declared.refused.Refused.{Refused}
use Rattle.omega_io.specs.declared.refused.Which.{Which}
use Rattle.omega_io.specs.declared.refused.Which.TheVariants.{File, Input}
use Rattle.omega_laws.specs.WrittenCircuits.{WrittenCircuitsAreNotAtFault}
use Rattle.omega_laws.proofs.Refused.{IsOfNeither, contained_of_neither}
use Rattle.omega_text.specs.Cases.{never}
use Rattle.omega_text.specs.declared.refusal.Refusal.{Refusal}
use Rattle.omega_text.specs.declared.refusal.Refusal.TheVariants.{Automaton, Circuit, Game, Io, Memory, Task, Text}
use Rattle.omega_text.specs.declared.refusal.task.TaskFault.TheVariants.{BadSolution, Budget, Controllable, NotDeterministic, NotParity, TooLarge, TooManyPropositions, TooWide, UniversalBranch, Unjudged, UnknownNode}

-- names that are fit are not refused
fit_named : (names : List (List ℕ)) → AreFit names → (refusal : Refusal) → IsNameRefusal names never refusal → ⊥
fit_named names fit (Text fault) is = is
fit_named names fit (Game fault) is = is
fit_named names fit (Automaton fault) is = is.1 fit.apart
fit_named names fit (Circuit fault) is = is.2 fit.quotable
fit_named names fit (Task fault) is = is
fit_named names fit Memory is = is
fit_named names fit Io is = is

-- a circuit on the sides of some names is refused only if it is too large
sided_large : (names system : List (List ℕ)) (c : CircuitValue) → IsSided names system c → (refusal : Refusal) → IsUnsided names system c refusal → refusal ≡ Task TooLarge
sided_large names system c sided refusal (misnamed is) = absurd (fit_named (proposition_names c) sided.fit refusal is)
sided_large names system c sided refusal (not_sided fit not is) = absurd (not sided.sided)
sided_large names system c sided refusal (large also is) = is

-- a refusal of containment that is about a choice or about universal branching alone is about a text
containment_none : (refusal : Refusal) → IsOfNeither refusal → containment_text refusal ≡ None
containment_none (Task NotParity) is = refl
containment_none (Task UniversalBranch) is = absurd (is.no_branch refl)
containment_none (Task (NotDeterministic state)) is = absurd (is.no_choice state refl)
containment_none (Task TooManyPropositions) is = refl
containment_none (Task TooWide) is = refl
containment_none (Task Budget) is = refl
containment_none (Task BadSolution) is = refl
containment_none (Task UnknownNode) is = refl
containment_none (Task TooLarge) is = refl
containment_none (Task Controllable) is = refl
containment_none (Task Unjudged) is = refl
containment_none (Text fault) is = refl
containment_none (Game fault) is = refl
containment_none (Circuit fault) is = refl
containment_none (Automaton fault) is = refl
containment_none Memory is = refl
containment_none Io is = refl

module _ (a : Description) (c : CircuitValue) (sided : IsSidedBy a c) (deterministic : IsDeterministic a) where
  pair_text : (text : Option Which) (refusal : Refusal) → IsCircuitPairRefusal a c text refusal → (text ≡ None) ⊎ (refusal ≡ Task TooLarge)
  pair_text text refusal (misstated not) = absurd (not (sided.stated, sided.specified))
  pair_text text refusal (unsided stated other specified is) =
      let same : stated ≡ sided.stated = controlled_one a stated sided.stated specified sided.specified in
      inr (sided_large (parted_names a) (system_names a sided.stated) c sided.sided other
      (subst (λ (numbers : List ℕ). IsUnsided (parted_names a) (system_names a numbers) c other) same is))
  pair_text text refusal (not_contained b other also of is) = inl (containment_none other (contained_of_neither b a of.deterministic.plain deterministic other is))

  both_text : (refused : Refused) → RefusesCircuit a c refused → (refused.text ≡ None) ⊎ (refused.refusal ≡ Task TooLarge)
  both_text refused (inl memory) = inl (ap (λ (r : Refused). r.text) memory)
  both_text refused (inr pair) = pair_text refused.text refused.refusal pair

-- neither text is refused
unread_text : (text circuit : List ℕ) → ((refusal : Refusal) → IsAutomatonRefusal text refusal → ⊥) → ((refusal : Refusal) → IsCircuitTextRefusal circuit refusal → ⊥)
    → (about : Option Which) (refusal : Refusal)
    → IsAbout (λ other. other ≡ Memory) (IsAutomatonRefusal text) (λ other. (a : Description) × IsAutomatonText text a × IsCircuitTextRefusal circuit other) about refusal
    → about ≡ None
unread_text text circuit automata circuits None refusal is = refl
unread_text text circuit automata circuits (Some File) refusal is = absurd (automata refusal is)
unread_text text circuit automata circuits (Some Input) refusal is = absurd (circuits refusal is.2)

pub circuits_not_at_fault : AutomataAreOne → AutomataAreUnrefused → CircuitsOfTextsAreOne → CircuitsAreNotRefused → WrittenCircuitsAreNotAtFault
circuits_not_at_fault automata unrefused circuits clean form text circuit refused written (inl unread) =
    inl (unread_text text circuit (λ refusal is. unrefused text written.judged.file refusal written.judged.file_read is)
    (λ refusal is. clean circuit written.judged.input refusal written.judged.input_read is) refused.text refused.refusal unread)
circuits_not_at_fault automata unrefused circuits clean form text circuit refused written (inr pair) =
    let judged = written.judged.holds.judged in
    let same : pair.file ≡ written.judged.file = automata text pair.file written.judged.file pair.file_read written.judged.file_read in
    let also : pair.input ≡ written.judged.input = circuits circuit pair.input written.judged.input pair.input_read written.judged.input_read in
    both_text written.judged.file written.judged.input judged.sided judged.deterministic refused
    (subst (λ (a : Description). RefusesCircuit a written.judged.input refused) same
    (subst (λ (c : CircuitValue). RefusesCircuit pair.file c refused) also pair.holds))
