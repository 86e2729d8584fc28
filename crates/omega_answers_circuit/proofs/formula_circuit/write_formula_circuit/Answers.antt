-- who wins is decided, and what is written of a controller is judged
use Rattle.std.proofs.Common.{false, ℕ, List, subst, sym}
use Rattle.omega_answers.proofs.Refusals.{memory_or, or_memory_of}
use Rattle.omega_answers_circuit.specs.FormulaCircuit.{IsFormulaCircuitRefusal, not_realized, unjudged}
use Rattle.omega_answers_circuit.specs.FormulaVerify.{IsFormulaCircuitAnswer, IsFormulaCircuitRefused}
use Rattle.omega_answers_circuit.specs.OwnCircuit.{IsUnjudged}
use Rattle.omega_answers_circuit.proofs.CircuitWritten.{circuit_of_formula, formula_text_refused, formula_undrawn_refused}
use Rattle.omega_answers_synth.specs.FormulaRefusing.{IsFormulaRealizeRefusal}
use Rattle.omega_answers_synth.specs.FormulaWinner.{IsFormulaWinnerAnswer}
use Rattle.omega_answers_synth.specs.Outputs.{lists_of}
use Rattle.omega_hoa_edges.proofs.Refusals.{passed_on}
use Rattle.omega_io.specs.declared.exit.Exit.{Exit}
use Rattle.omega_io.specs.declared.exit.Exit.TheVariants.{Done}
use Rattle.omega_text.specs.Cases.{or_memory}
use Rattle.omega_answers_circuit.proofs.formula_circuit.write_formula_circuit.Goals as goal

pub returns-in_err-exit-clause-refused : goal.returns-in_err-exit-clause-refused
returns-in_err-exit-clause-refused c =
    let text : List ℕ = c.args.formula.now in
    let lists = lists_of c.args.names in
    passed_on c.from_residual.result (or_memory (IsFormulaCircuitRefusal c.args.form text lists)) _ c.from_residual.ensures.1
    (memory_or (IsFormulaRealizeRefusal text lists) (IsFormulaCircuitRefusal c.args.form text lists) (λ refusal is. not_realized is) _ c.in_err-exit.ensures.refused)

pub returns-in_err-read-in-Done-clause-refused : goal.returns-in_err-read-in-Done-clause-refused
returns-in_err-read-in-Done-clause-refused c =
    let text : List ℕ = c.args.formula.now in
    let lists = lists_of c.args.names in
    passed_on c.from_residual-in_err-read-in-Done.result (or_memory (IsFormulaCircuitRefusal c.args.form text lists)) _ c.from_residual-in_err-read-in-Done.ensures.1
    (formula_text_refused c.args.form text lists _ c.in_err-read-in-Done.ensures.refused)

pub returns-in_err-circuit-in-Done-clause-refused : goal.returns-in_err-circuit-in-Done-clause-refused
returns-in_err-circuit-in-Done-clause-refused c =
    let text : List ℕ = c.args.formula.now in
    let lists = lists_of c.args.names in
    let won : IsFormulaWinnerAnswer text lists Done c.as_slice.result.now =
    subst (λ (bytes : List ℕ). IsFormulaWinnerAnswer text lists Done bytes) (sym c.as_slice.ensures.value)
    (subst (λ (exit : Exit). IsFormulaWinnerAnswer text lists exit c.in_ok-exit.winner.items) c.in-Done.is c.in_ok-exit.ensures.answer) in
    passed_on c.from_residual-in_err-circuit-in-Done.result (or_memory (IsFormulaCircuitRefusal c.args.form text lists)) _ c.from_residual-in_err-circuit-in-Done.ensures.1
    (formula_undrawn_refused c.args.form text lists c.as_slice.result.now won c.in_ok-read-in-Done.read
    (record { read = c.in_ok-read-in-Done.ensures.formula; names = c.in_ok-read-in-Done.ensures.names }) _ c.in_err-circuit-in-Done.ensures.refused)

pub returns-in_err-check_formula_circuit_judged-in-Done-clause-refused : goal.returns-in_err-check_formula_circuit_judged-in-Done-clause-refused
returns-in_err-check_formula_circuit_judged-in-Done-clause-refused c =
    let text : List ℕ = c.args.formula.now in
    let lists = lists_of c.args.names in
    let refusal = c.in_err-check_formula_circuit_judged-in-Done.field-0.0 in
    let won : IsFormulaWinnerAnswer text lists Done c.in_ok-exit.winner.items =
    subst (λ (exit : Exit). IsFormulaWinnerAnswer text lists exit c.in_ok-exit.winner.items) c.in-Done.is c.in_ok-exit.ensures.answer in
    passed_on c.from_residual-in_err-check_formula_circuit_judged-in-Done.result (or_memory (IsFormulaCircuitRefusal c.args.form text lists)) _
    c.from_residual-in_err-check_formula_circuit_judged-in-Done.ensures.1
    (or_memory_of (IsFormulaCircuitRefusal c.args.form text lists) refusal
    (unjudged c.in_ok-circuit-in-Done.circuit.items
    (circuit_of_formula c.args.form text lists c.in_ok-exit.winner.items won c.in_ok-read-in-Done.read
    (record { read = c.in_ok-read-in-Done.ensures.formula; names = c.in_ok-read-in-Done.ensures.names }) c.in_ok-circuit-in-Done.circuit.items
    c.in_ok-circuit-in-Done.ensures.circuit)
    (subst (λ (bytes : List ℕ). IsUnjudged (IsFormulaCircuitAnswer text lists bytes false) (IsFormulaCircuitRefused text lists bytes) refusal)
    c.as_slice-in-Done.ensures.value c.in_err-check_formula_circuit_judged-in-Done.ensures.refused)))

pub returns-in-Done-clause-answer : goal.returns-in-Done-clause-answer
returns-in-Done-clause-answer c =
    let text : List ℕ = c.args.formula.now in
    let lists = lists_of c.args.names in
    let won : IsFormulaWinnerAnswer text lists Done c.in_ok-exit.winner.items =
    subst (λ (exit : Exit). IsFormulaWinnerAnswer text lists exit c.in_ok-exit.winner.items) c.in-Done.is c.in_ok-exit.ensures.answer in
    let judged = c.in_ok-check_formula_circuit_judged-in-Done.ensures.judged in
    record {
      made = circuit_of_formula c.args.form text lists c.in_ok-exit.winner.items won c.in_ok-read-in-Done.read
          (record { read = c.in_ok-read-in-Done.ensures.formula; names = c.in_ok-read-in-Done.ensures.names }) c.in_ok-circuit-in-Done.circuit.items
          c.in_ok-circuit-in-Done.ensures.circuit;
      reply = judged.0;
      judged = subst (λ (bytes : List ℕ). IsFormulaCircuitAnswer text lists bytes false Done judged.0) c.as_slice-in-Done.ensures.value judged.1;
    }

pub returns-clause-answer : goal.returns-clause-answer
returns-clause-answer c = record {
  strategy = c.in_ok-exit.winner.items;
  lost = subst (λ (exit : Exit). IsFormulaWinnerAnswer c.args.formula.now (lists_of c.args.names) exit c.in_ok-exit.winner.items) c.in-No.is c.in_ok-exit.ensures.answer;
  line = c.in_ok-from_slice-in-No.ensures.items;
}
