-- What `verify` makes of the text of a system where it judges a controller: of that of a circuit, if the text begins as
-- one, or else of that of an automaton.
use Rattle.std.specs.Prelude.{Bool, true, false, List, ℕ}
use Rattle.omega_answers_circuit.specs.FormulaVerify.{IsFormulaCircuitAnswer, IsFormulaCircuitRefused}
use Rattle.omega_answers_circuit.specs.Verify.{IsCircuitAnswer, IsCircuitRefused}
use Rattle.omega_answers_synth.specs.FormulaController.{IsFormulaControllerAnswer, IsFormulaControllerRefused}
use Rattle.omega_answers_synth.specs.Outputs.{NameLists}
use Rattle.omega_answers_synth.specs.Verify.{IsControllerAnswer, IsControllerRefused}
use Rattle.omega_io.specs.declared.exit.Exit.{Exit}
use Rattle.omega_io.specs.declared.refused.Refused.{Refused}

-- the answer for a specification and the text of a system, and why the two are refused
abbrev pub IsSystemAnswer : (is_circuit : Bool) → (specification system : List ℕ) → (explain : Bool)
    → Exit → List ℕ → Type 0
IsSystemAnswer true specification system explain = IsCircuitAnswer specification system explain
IsSystemAnswer false specification system explain = IsControllerAnswer specification system explain

abbrev pub IsSystemRefused : (is_circuit : Bool) → (specification system : List ℕ) → Refused → Type 0
IsSystemRefused true specification system = IsCircuitRefused specification system
IsSystemRefused false specification system = IsControllerRefused specification system

-- the same for a formula and the lists of names that are given
abbrev pub IsFormulaSystemAnswer : (is_circuit : Bool) → (formula : List ℕ) → NameLists
    → (system : List ℕ) → (explain : Bool) → Exit → List ℕ → Type 0
IsFormulaSystemAnswer true formula lists system explain =
    IsFormulaCircuitAnswer formula lists system explain
IsFormulaSystemAnswer false formula lists system explain =
    IsFormulaControllerAnswer formula lists system explain

abbrev pub IsFormulaSystemRefused : (is_circuit : Bool) → (formula : List ℕ) → NameLists
    → (system : List ℕ) → Refused → Type 0
IsFormulaSystemRefused true formula lists system = IsFormulaCircuitRefused formula lists system
IsFormulaSystemRefused false formula lists system = IsFormulaControllerRefused formula lists system
