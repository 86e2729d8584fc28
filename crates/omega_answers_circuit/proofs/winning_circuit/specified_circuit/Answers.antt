-- the text is read again, and so is the controller
use Rattle.std.proofs.Common.{◌∙◌}
use Rattle.std.proofs.lemmas.Result.{IfErr-weaker, IfOk-weaker}
use Rattle.omega_text.specs.Cases.{or_memory}
use Rattle.omega_answers_circuit.specs.WinningCircuit.{IsWinningCircuitRefusal}
use Rattle.omega_answers_circuit.proofs.CircuitWritten.{circuit_of, item_refused, none_encoded, none_over, over_these, text_refused, undrawn_refused}
use Rattle.omega_hoa_edges.proofs.Refusals.{passed_on}
use Rattle.omega_answers_circuit.proofs.winning_circuit.specified_circuit.Goals as goal

pub returns-in_err-specification-clause-refused : goal.returns-in_err-specification-clause-refused
returns-in_err-specification-clause-refused c =
    passed_on c.from_residual.result (or_memory (IsWinningCircuitRefusal c.args.form c.args.text.now)) _ c.from_residual.ensures.1
    (text_refused c.args.form c.args.text.now _ c.in_err-specification.ensures.refused)

pub returns-in_err-controlled-clause-refused : goal.returns-in_err-controlled-clause-refused
returns-in_err-controlled-clause-refused c =
    passed_on c.from_residual-in_err-controlled.result (or_memory (IsWinningCircuitRefusal c.args.form c.args.text.now)) _ c.from_residual-in_err-controlled.ensures.1
    (item_refused c.args.form c.args.text.now c.in_ok-specification.specification c.in_ok-specification.ensures.automaton _ c.in_err-controlled.ensures.refused)

pub returns-in_err-controller-clause-refused : goal.returns-in_err-controller-clause-refused
returns-in_err-controller-clause-refused c =
    let a = c.in_ok-specification.specification in
    passed_on c.from_residual-in_err-controller.result (or_memory (IsWinningCircuitRefusal c.args.form c.args.text.now)) _ c.from_residual-in_err-controller.ensures.1
    (undrawn_refused c.args.form c.args.text.now c.args.winner.now c.requires a c.in_ok-specification.ensures.automaton _
    (none_over c.propositions.result.now a.propositions c.args.winner.now _ c.propositions.ensures c.in_err-controller.ensures.refused))

pub returns-clause-circuit : goal.returns-clause-circuit
returns-clause-circuit c =
    let a = c.in_ok-specification.specification in
    IfOk-weaker c.circuit_text_over.result _ _
    (λ output is.
    circuit_of c.args.form c.args.text.now c.args.winner.now c.requires a c.in_ok-specification.ensures.automaton c.in_ok-controlled.controlled c.in_ok-controlled.ensures.stated output.items
    (over_these c.args.form c.in_ok-controller.controller.propositions a.propositions c.as_slice.result.now c.in_ok-controlled.controlled output.items
    (c.in_ok-controller.ensures.names ∙ c.propositions.ensures) c.as_slice.ensures is))
    c.circuit_text_over.ensures.written

pub returns-clause-refused : goal.returns-clause-refused
returns-clause-refused c =
    let a = c.in_ok-specification.specification in
    IfErr-weaker c.circuit_text_over.result _ _
    (λ refusal is.
    undrawn_refused c.args.form c.args.text.now c.args.winner.now c.requires a c.in_ok-specification.ensures.automaton refusal
    (none_encoded c.in_ok-controller.controller.propositions a.propositions c.args.winner.now refusal (c.in_ok-controller.ensures.names ∙ c.propositions.ensures) is))
    c.circuit_text_over.ensures.refused
