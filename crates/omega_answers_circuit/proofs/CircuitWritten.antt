-- What is written as a circuit, or why nothing is, step by step.
use Rattle.std.proofs.Common.{◌≡◌, inl, inr, ℕ, List, subst}
use Rattle.omega_answers.proofs.Refusals.{memory_or, or_memory_of}
use Rattle.omega_answers_circuit.specs.ControllerCircuit.{IsCircuitTextOver, IsNoneOver, IsUndrawnOver}
use Rattle.omega_answers_circuit.specs.FormulaCircuit.{IsCircuitOfFormula, IsFormulaCircuitRefusal, OfParts}
use Rattle.omega_answers_circuit.specs.FormulaCircuit as formulas
use Rattle.omega_answers_circuit.specs.WinningCircuit.{IsCircuitOfController, IsWinningCircuitRefusal, not_realized, undrawn}
use Rattle.omega_answers_circuit.specs.declared.circuit_form.CircuitForm.{CircuitForm}
use Rattle.omega_answers_formula.specs.Formula.{IsFormulaOfText}
use Rattle.omega_answers_synth.specs.FormulaWinner.{IsFormulaWinnerAnswer}
use Rattle.omega_answers_synth.specs.Outputs.{AreParted, IsRefusalWithLists, IsUnparted, NameLists, not_parted, with_outputs}
use Rattle.omega_answers_synth.specs.Winner.{IsWinnerAnswer}
use Rattle.omega_circuit_encoder.specs.Refusing.{IsEncodingRefusal}
use Rattle.omega_hoa.specs.Alone.{IsAutomatonRefusal, IsAutomatonText}
use Rattle.omega_hoa_automaton.specs.Automaton.{Description}
use Rattle.omega_io.specs.declared.exit.Exit.TheVariants.{Done}
use Rattle.omega_ltl_formula.specs.Table.{NumberedFormula}
use Rattle.omega_ltl_text.specs.Text.{IsFormulaTextRefusal}
use Rattle.omega_synth_controllers.specs.Controllable.{HasStated, IsMisstated, IsStated}
use Rattle.omega_text.specs.Cases.{or_memory}
use Rattle.omega_text.specs.declared.refusal.Refusal.{Refusal}
use Rattle.omega_text.specs.declared.refusal.Refusal.TheVariants.{Task}
use Rattle.omega_text.specs.declared.refusal.task.TaskFault.TheVariants.{Controllable}

-- a text over these names and numbers is one over those
pub over_these : (form : CircuitForm) (names these : List (List ℕ)) (numbers controlled output : List ℕ) → names ≡ these → numbers ≡ controlled
    → IsCircuitTextOver form names numbers output → IsCircuitTextOver form these controlled output
over_these form names these numbers controlled output same also is =
    subst (λ (ns : List (List ℕ)). IsCircuitTextOver form ns controlled output) same (subst (λ (cs : List ℕ). IsCircuitTextOver form names cs output) also is)

-- none over these names is none over those
pub none_over : (names these : List (List ℕ)) (controller : List ℕ) (refusal : Refusal) → names ≡ these → or_memory (IsNoneOver names controller) refusal
    → or_memory (IsUndrawnOver these controller) refusal
none_over names these controller refusal same h =
    memory_or (IsNoneOver names controller) (IsUndrawnOver these controller) (λ r is. inl (subst (λ (ns : List (List ℕ)). IsNoneOver ns controller r) same is)) refusal h

pub none_encoded : (names these : List (List ℕ)) (controller : List ℕ) (refusal : Refusal) → names ≡ these → IsEncodingRefusal names refusal
    → or_memory (IsUndrawnOver these controller) refusal
none_encoded names these controller refusal same is =
    or_memory_of (IsUndrawnOver these controller) refusal (inr (subst (λ (ns : List (List ℕ)). IsEncodingRefusal ns refusal) same is))

-- ---- automata

module _ (form : CircuitForm) (text : List ℕ) where
  pub text_refused : (refusal : Refusal) → or_memory (IsAutomatonRefusal text) refusal → or_memory (IsWinningCircuitRefusal form text) refusal
  text_refused refusal h = memory_or (IsAutomatonRefusal text) (IsWinningCircuitRefusal form text) (λ r is. not_realized (inl is)) refusal h

  pub item_refused : (a : Description) → IsAutomatonText text a → (refusal : Refusal) → IsMisstated (HasStated a) refusal → or_memory (IsWinningCircuitRefusal form text) refusal
  item_refused a read refusal h =
      or_memory_of (IsWinningCircuitRefusal form text) refusal (not_realized (inr (record { automaton = a; read = read; holds = inl h })))

  module _ (controller : List ℕ) (won : IsWinnerAnswer text Done controller) (a : Description) (read : IsAutomatonText text a) (controlled : List ℕ) (stated : IsStated a controlled) where
    pub circuit_of : (output : List ℕ) → IsCircuitTextOver form a.propositions controlled output → IsCircuitOfController form text output
    circuit_of output is = record {
      controller = controller;
      won = won;
      circuit = record { automaton = a; read = read; holds = record { controlled = controlled; stated = stated; circuit = is } };
    }

  module _ (controller : List ℕ) (won : IsWinnerAnswer text Done controller) (a : Description) (read : IsAutomatonText text a) where
    pub undrawn_refused : (refusal : Refusal) → or_memory (IsUndrawnOver a.propositions controller) refusal → or_memory (IsWinningCircuitRefusal form text) refusal
    undrawn_refused refusal h =
        memory_or (IsUndrawnOver a.propositions controller) (IsWinningCircuitRefusal form text)
        (λ r is. undrawn (record {
          controller = controller;
          won = won;
          undrawn = record { automaton = a; read = read; holds = is };
        })) refusal h

-- ---- formulas

module _ (form : CircuitForm) (text : List ℕ) (lists : NameLists) where
  pub formula_text_refused : (refusal : Refusal) → or_memory (IsFormulaTextRefusal text) refusal → or_memory (IsFormulaCircuitRefusal form text lists) refusal
  formula_text_refused refusal h =
      memory_or (IsFormulaTextRefusal text) (IsFormulaCircuitRefusal form text lists) (λ r is. formulas.not_realized (inl is)) refusal h

  module _ (controller : List ℕ) (won : IsFormulaWinnerAnswer text lists Done controller) (formula : NumberedFormula) (read : IsFormulaOfText text formula) where
    pub circuit_of_formula : (output : List ℕ) → OfParts (λ names controlled. IsCircuitTextOver form names controlled output) lists formula → IsCircuitOfFormula form text lists output
    circuit_of_formula output is = record {
      controller = controller;
      won = won;
      circuit = record { formula = formula; read = read; holds = is };
    }

    lists_refused : (refusal : Refusal) → IsRefusalWithLists formula lists (λ outs. IsUndrawnOver formula.table.names controller) refusal → IsFormulaCircuitRefusal form text lists refusal
    lists_refused refusal (not_parted parted is) = formulas.not_realized (inr (record { formula = formula; read = read; holds = not_parted parted is }))
    lists_refused refusal (with_outputs parted is) = formulas.undrawn (record {
      controller = controller;
      won = won;
      undrawn = record { formula = formula; read = read; holds = is };
    })

    pub formula_undrawn_refused : (refusal : Refusal) → or_memory (IsRefusalWithLists formula lists (λ outs. IsUndrawnOver formula.table.names controller)) refusal
        → or_memory (IsFormulaCircuitRefusal form text lists) refusal
    formula_undrawn_refused refusal h =
        memory_or (IsRefusalWithLists formula lists (λ outs. IsUndrawnOver formula.table.names controller)) (IsFormulaCircuitRefusal form text lists) lists_refused refusal h

-- lists that do not part the names are refused
pub parting_refused : (formula : NumberedFormula) (lists : NameLists) (Refuses : List (List ℕ) → Refusal → Type 0) (refusal : Refusal) → IsUnparted formula lists refusal
    → or_memory (IsRefusalWithLists formula lists Refuses) refusal
parting_refused formula lists Refuses refusal h =
    memory_or (λ r. (r ≡ Task Controllable) × ¬ AreParted formula lists) (IsRefusalWithLists formula lists Refuses) (λ r why. not_parted why.1 why.0) refusal h
