-- the lists do not part the names, or there is a circuit with the outputs
use Rattle.std.proofs.Common.{◌∙◌, ℕ, List, subst}
use Rattle.std.proofs.lemmas.Result.{IfErr-weaker, IfOk-weaker}
use Rattle.omega_text.specs.Cases.{or_memory}
use Rattle.omega_answers.proofs.Refusals.{memory_or}
use Rattle.omega_answers_circuit.specs.ControllerCircuit.{IsCircuitTextOver, IsUndrawnOver}
use Rattle.omega_answers_circuit.proofs.CircuitWritten.{parting_refused}
use Rattle.omega_answers_synth.specs.Outputs.{IsRefusalWithLists, lists_of, with_outputs}
use Rattle.omega_hoa_edges.proofs.Refusals.{passed_on}
use Rattle.omega_synth_check.specs.CounterRefusing.{system_numbers}
use Rattle.omega_answers_circuit.proofs.formula_circuit.named_circuit.Goals as goal

pub returns-in_err-outs-clause-refused : goal.returns-in_err-outs-clause-refused
returns-in_err-outs-clause-refused c =
    passed_on c.from_residual.result (or_memory (IsRefusalWithLists c.args.formula.now (lists_of c.args.names) (λ outs. IsUndrawnOver c.args.formula.now.table.names c.args.winner.now))) _
    c.from_residual.ensures.1
    (parting_refused c.args.formula.now (lists_of c.args.names) (λ outs. IsUndrawnOver c.args.formula.now.table.names c.args.winner.now) _ c.in_err-outs.ensures.refused)

pub returns-clause-circuit : goal.returns-clause-circuit
returns-clause-circuit c =
    let listed = c.in_ok-outs.ensures.outputs in
    let names : List (List ℕ) = c.args.formula.now.table.names in
    IfOk-weaker c.formula_circuit.result _ _
    (λ circuit is. record {
      parted = listed.parted;
      holds = subst (λ (outs : List (List ℕ)). IsCircuitTextOver c.args.form names (system_numbers names outs) circuit.items) (c.as_slice.ensures.value ∙ listed.are) is;
    })
    c.formula_circuit.ensures.circuit

pub returns-clause-refused : goal.returns-clause-refused
returns-clause-refused c =
    let formula = c.args.formula.now in
    IfErr-weaker c.formula_circuit.result _ _
    (memory_or (IsUndrawnOver formula.table.names c.args.winner.now)
    (IsRefusalWithLists formula (lists_of c.args.names) (λ outs. IsUndrawnOver formula.table.names c.args.winner.now))
    (λ refusal is. with_outputs c.in_ok-outs.ensures.outputs.parted is))
    c.formula_circuit.ensures.refused
