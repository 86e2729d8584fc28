-- the outputs are numbered among the names, and the controller is read
use Rattle.std.proofs.Common.{◌≡◌, ◌∙◌, ℕ, List, ap, sym, subst}
use Rattle.std.proofs.lemmas.Result.{IfErr-weaker, IfOk-weaker}
use Rattle.omega_text.specs.Cases.{or_memory}
use Rattle.omega_answers_circuit.specs.ControllerCircuit.{IsUndrawnOver}
use Rattle.omega_answers_circuit.proofs.CircuitWritten.{none_encoded, none_over, over_these}
use Rattle.omega_hoa_edges.proofs.Refusals.{passed_on}
use Rattle.omega_synth_check.specs.CounterRefusing.{system_numbers}
use Rattle.omega_answers_circuit.proofs.formula_circuit.formula_circuit.Goals as goal

pub returns-in_err-controlled-clause-refused : goal.returns-in_err-controlled-clause-refused
returns-in_err-controlled-clause-refused c =
    passed_on c.from_residual.result (or_memory (IsUndrawnOver c.args.formula.now.table.names c.args.winner.now)) _ c.from_residual.ensures.1
    (subst (or_memory (IsUndrawnOver c.args.formula.now.table.names c.args.winner.now)) (sym c.in_err-controlled.ensures.memory) tt)

pub returns-in_err-controller-clause-refused : goal.returns-in_err-controller-clause-refused
returns-in_err-controller-clause-refused c =
    let names : List (List ℕ) = c.args.formula.now.table.names in
    passed_on c.from_residual-in_err-controller.result (or_memory (IsUndrawnOver c.args.formula.now.table.names c.args.winner.now)) _
    c.from_residual-in_err-controller.ensures.1
    (none_over c.names-2.result.now names c.args.winner.now _ c.names-2.ensures c.in_err-controller.ensures.refused)

pub returns-clause-circuit : goal.returns-clause-circuit
returns-clause-circuit c =
    let names : List (List ℕ) = c.args.formula.now.table.names in
    let numbers : c.as_slice.result.now ≡ system_numbers names c.args.outs.now =
    c.as_slice.ensures.value ∙ (c.in_ok-controlled.ensures.numbers ∙ ap (λ (ns : List (List ℕ)). system_numbers ns c.args.outs.now) c.names.ensures) in
    IfOk-weaker c.circuit_text_over.result _ _
    (λ circuit is.
    over_these c.args.form c.in_ok-controller.controller.propositions names c.as_slice.result.now (system_numbers names c.args.outs.now) circuit.items
    (c.in_ok-controller.ensures.names ∙ c.names-2.ensures) numbers is)
    c.circuit_text_over.ensures.written

pub returns-clause-refused : goal.returns-clause-refused
returns-clause-refused c =
    IfErr-weaker c.circuit_text_over.result _ _
    (λ refusal is.
    none_encoded c.in_ok-controller.controller.propositions c.args.formula.now.table.names c.args.winner.now refusal (c.in_ok-controller.ensures.names ∙ c.names-2.ensures) is)
    c.circuit_text_over.ensures.refused
