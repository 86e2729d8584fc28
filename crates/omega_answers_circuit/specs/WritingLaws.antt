-- Laws of the circuits that `realize --aiger` writes: whose words they have, and what `verify` answers to them.
use Rattle.std.specs.Prelude.{◌≡◌, ◌⊎◌, ℕ, Bool, true, false, List, None}
use Rattle.omega_aiger.specs.Text.{IsCircuitText}
use Rattle.omega_answers_circuit.specs.FormulaCircuit.{IsFormulaCircuitWritten}
use Rattle.omega_answers_circuit.specs.FormulaVerify.{IsFormulaCircuitAnswer, IsFormulaCircuitRefused}
use Rattle.omega_answers_circuit.specs.Judging.{AllAreWanted}
use Rattle.omega_answers_circuit.specs.Sides.{input_names, output_names}
use Rattle.omega_answers_circuit.specs.Verify.{IsCircuitAnswer}
use Rattle.omega_answers_circuit.specs.WinningCircuit.{IsWinningCircuitAnswer}
use Rattle.omega_answers_circuit.specs.declared.circuit_form.CircuitForm.{CircuitForm}
use Rattle.omega_answers_formula.specs.Formula.{IsFormulaOfText}
use Rattle.omega_answers_synth.specs.Outputs.{AreParted, NameLists, outputs_in}
use Rattle.omega_circuit.specs.Circuit.{CircuitValue}
use Rattle.omega_circuit_encoder.specs.Names.{names_of}
use Rattle.omega_hoa.specs.Alone.{IsAutomatonText}
use Rattle.omega_hoa_automaton.specs.Automaton.{Description}
use Rattle.omega_io.specs.Answer.{IsYes}
use Rattle.omega_io.specs.declared.exit.Exit.{Exit}
use Rattle.omega_io.specs.declared.exit.Exit.TheVariants.{Done}
use Rattle.omega_io.specs.declared.refused.Refused.{Refused}
use Rattle.omega_lang_word_laws.specs.NamedWords.{AcceptsNamed}
use Rattle.omega_ltl_formula.specs.Meaning.{Satisfies}
use Rattle.omega_ltl_formula.specs.Table.{NumberedFormula, tree_of}
use Rattle.omega_synth_check.specs.CounterRefusing.{system_numbers}
use Rattle.omega_synth_controllers.specs.Controllable.{IsStated}
use Rattle.omega_text.specs.Omniscience.{LimitedPrincipleOfOmniscience}
use Rattle.omega_text.specs.declared.refusal.Refusal.TheVariants.{Task}
use Rattle.omega_text.specs.declared.refusal.task.TaskFault.TheVariants.{TooLarge}

-- the inputs of a circuit have the names of the environment's propositions, and its outputs those of the system's
pub record NamesSides (names : List (List ℕ)) (controlled : List ℕ) (c : CircuitValue) : Type 0 where
  pub inputs : input_names c ≡ names_of false names controlled
  pub outputs : output_names c ≡ names_of true names controlled

-- a text is that of a circuit whose inputs and outputs are the propositions of the automaton of another, which, by the
-- limited principle of omniscience, accepts each of its words
pub record IsRealizedBy (text circuit_text : List ℕ) : Type 0 where
  pub automaton : Description
  pub read : IsAutomatonText text automaton
  pub controlled : List ℕ
  pub stated : IsStated automaton controlled
  pub circuit : CircuitValue
  pub says : IsCircuitText circuit_text circuit
  pub named : NamesSides automaton.propositions controlled circuit
  pub realizes : LimitedPrincipleOfOmniscience → AllAreWanted (AcceptsNamed automaton) circuit

-- so is each circuit that is written
abbrev pub WrittenCircuitsRealize : Type 0
WrittenCircuitsRealize = (form : CircuitForm) (text output : List ℕ)
    → IsWinningCircuitAnswer form text Done output → IsRealizedBy text output

-- a text is that of a circuit whose inputs and outputs are the names of the formula of another, each word of which, by
-- that principle, satisfies the formula
pub record IsSatisfiedBy (text : List ℕ) (lists : NameLists) (circuit_text : List ℕ) : Type 0 where
  pub formula : NumberedFormula
  pub read : IsFormulaOfText text formula
  pub parted : AreParted formula lists
  pub circuit : CircuitValue
  pub says : IsCircuitText circuit_text circuit
  pub named : NamesSides formula.table.names
      (system_numbers formula.table.names (outputs_in formula lists)) circuit
  pub satisfies : LimitedPrincipleOfOmniscience → AllAreWanted (Satisfies (tree_of formula)) circuit

abbrev pub WrittenFormulaCircuitsSatisfy : Type 0
WrittenFormulaCircuitsSatisfy = (form : CircuitForm) (text : List ℕ) (lists : NameLists)
    (output : List ℕ) → IsFormulaCircuitWritten form text lists Done output → IsSatisfiedBy text lists output

-- by that principle, `verify` answers `yes` to each circuit that is written
abbrev pub WrittenCircuitsAreJudged : Type 0
WrittenCircuitsAreJudged = LimitedPrincipleOfOmniscience → (form : CircuitForm)
    (text output reply : List ℕ) (explain : Bool) (exit : Exit)
    → IsWinningCircuitAnswer form text Done output → IsCircuitAnswer text output explain exit reply
    → IsYes exit reply

abbrev pub WrittenFormulaCircuitsAreJudged : Type 0
WrittenFormulaCircuitsAreJudged = LimitedPrincipleOfOmniscience → (form : CircuitForm)
    (text : List ℕ) (lists : NameLists) (output reply : List ℕ) (explain : Bool) (exit : Exit)
    → IsFormulaCircuitWritten form text lists Done output
    → IsFormulaCircuitAnswer text lists output explain exit reply → IsYes exit reply

-- a refusal is about none of two texts, unless the automaton of the circuit passes a limit
abbrev pub IsNoFault : Refused → Type 0
IsNoFault refused = (refused.text ≡ None) ⊎ (refused.refusal ≡ Task TooLarge)

-- so is each refusal of `verify -f` of a circuit that is written
abbrev pub WrittenFormulaCircuitsAreNotAtFault : Type 0
WrittenFormulaCircuitsAreNotAtFault = (form : CircuitForm) (text : List ℕ) (lists : NameLists)
    (output : List ℕ) (refused : Refused) → IsFormulaCircuitWritten form text lists Done output
    → IsFormulaCircuitRefused text lists output refused → IsNoFault refused
