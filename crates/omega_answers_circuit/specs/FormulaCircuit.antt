-- The answer of `realize -f --aiger` for the text of a formula and the names that are given: a circuit that satisfies
-- it, or that there is none.
use Rattle.std.specs.Prelude.{◌≡◌, false, List, ℕ, codes}
use Rattle.omega_answers_circuit.specs.ControllerCircuit.{IsCircuitTextOver, IsUndrawnOver}
use Rattle.omega_answers_circuit.specs.FormulaVerify.{IsFormulaCircuitAnswer, IsFormulaCircuitRefused}
use Rattle.omega_answers_circuit.specs.OwnCircuit.{IsUnjudged}
use Rattle.omega_answers_circuit.specs.declared.circuit_form.CircuitForm.{CircuitForm}
use Rattle.omega_answers_formula.specs.Formula.{OfFormula}
use Rattle.omega_answers_synth.specs.FormulaRefusing.{IsFormulaRealizeRefusal}
use Rattle.omega_answers_synth.specs.FormulaWinner.{IsFormulaWinnerAnswer}
use Rattle.omega_answers_synth.specs.Outputs.{NameLists, OfOutputs}
use Rattle.omega_io.specs.declared.exit.Exit.{Exit}
use Rattle.omega_io.specs.declared.exit.Exit.TheVariants.{Done, No}
use Rattle.omega_ltl_formula.specs.Table.{NumberedFormula}
use Rattle.omega_synth_check.specs.CounterRefusing.{system_numbers}
use Rattle.omega_text.specs.declared.refusal.Refusal.{Refusal}

-- this holds of the names of a formula and of the numbers of those that the system controls, as lists part them
abbrev pub OfParts : (Holds : (names : List (List ℕ)) → (controlled : List ℕ) → Type 0) → NameLists
    → NumberedFormula → Type 0
OfParts Holds lists formula = OfOutputs formula lists
    (λ outs. Holds formula.table.names (system_numbers formula.table.names outs))

-- the text of a circuit over the names of the formula of a text that has a controller
pub record IsCircuitOfFormula (form : CircuitForm) (text : List ℕ) (lists : NameLists)
    (output : List ℕ) : Type 0 where
  pub controller : List ℕ
  pub won : IsFormulaWinnerAnswer text lists Done controller
  pub circuit : OfFormula (OfParts (λ names controlled. IsCircuitTextOver form names controlled output) lists) text

-- and `verify -f` says `yes` to it
pub record IsSatisfyingCircuit (form : CircuitForm) (text : List ℕ) (lists : NameLists)
    (output : List ℕ) : Type 0 where
  pub made : IsCircuitOfFormula form text lists output
  pub reply : List ℕ
  pub judged : IsFormulaCircuitAnswer text lists output false Done reply

-- the formula has a counter-strategy, and a line says so
pub record IsToldUnsatisfiable (text : List ℕ) (lists : NameLists) (output : List ℕ) : Type 0 where
  pub strategy : List ℕ
  pub lost : IsFormulaWinnerAnswer text lists No strategy
  pub line : output ≡ codes "unrealizable\n"

-- the answer of `realize -f --aiger`: a circuit, or, with an exit of its own, the line
abbrev pub IsFormulaCircuitWritten : CircuitForm → (text : List ℕ) → NameLists → Exit → (output : List ℕ)
    → Type 0
IsFormulaCircuitWritten form text lists Done output = IsSatisfyingCircuit form text lists output
IsFormulaCircuitWritten form text lists No output = IsToldUnsatisfiable text lists output

-- a controller of a formula was found, and it is not read, or no circuit of it is written
pub record IsFormulaUndrawn (text : List ℕ) (lists : NameLists) (refusal : Refusal) : Type 0 where
  pub controller : List ℕ
  pub won : IsFormulaWinnerAnswer text lists Done controller
  pub undrawn : OfFormula (λ formula. IsUndrawnOver formula.table.names controller refusal) text

-- why no answer is given: it is not decided who wins, or no circuit is written, or it is not judged
pub data IsFormulaCircuitRefusal (form : CircuitForm) (text : List ℕ) (lists : NameLists)
    (refusal : Refusal) : Type 0 where
  not_realized : IsFormulaRealizeRefusal text lists refusal
      → IsFormulaCircuitRefusal form text lists refusal
  undrawn : IsFormulaUndrawn text lists refusal → IsFormulaCircuitRefusal form text lists refusal
  unjudged : (circuit : List ℕ) → IsCircuitOfFormula form text lists circuit
      → IsUnjudged (IsFormulaCircuitAnswer text lists circuit false)
      (IsFormulaCircuitRefused text lists circuit) refusal
      → IsFormulaCircuitRefusal form text lists refusal
