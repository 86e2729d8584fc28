-- What is written is the text of the canonical form of the circuit that was read.
use Rattle.std.proofs.lemmas.Result.{IfOk-weaker}
use Rattle.omega_answers_circuit.proofs.Canonical.{canonical_read}
use Rattle.omega_answers_circuit.proofs.canon.canon_circuit.Goals as goal

pub returns-clause-answer : goal.returns-clause-answer
returns-clause-answer c =
    let text = c.args.text.now in
    let circuit = c.in_ok-circuit.circuit in
    let back = canonical_read c.same_circuits_are_writable.ensures c.written_circuits_are_read.ensures
    c.binary_circuits_are_read.ensures in
    IfOk-weaker c.canonical_text.result _ _
    (λ output made. record {
      circuit = circuit;
      read = c.in_ok-circuit.ensures.circuit;
      holds = back c.args.form text circuit output.items c.in_ok-circuit.ensures.circuit made;
    })
    c.canonical_text.ensures.text
