-- the text of the canonical form is read back
use Rattle.std.proofs.Common.{◌≤◌, ℕ, List, ap, length, sym, subst, arith}
use Rattle.omega_aiger.specs.Text.{IsCircuitText}
use Rattle.omega_answers_circuit.specs.Circuit.{circuit_text}
use Rattle.omega_answers_circuit.proofs.ControllerCircuits.{over_same, text_read}
use Rattle.omega_text.specs.Limits.{most_text}
use Rattle.omega_answers_circuit.proofs.controller_circuit.circuit_text_over.Goals as goal

pub returns-clause-written : goal.returns-clause-written
returns-clause-written c =
    let names : List (List ℕ) = c.args.controller.now.propositions in
    let made = c.in_ok-canonical.canonical in
    let over = over_same names c.args.controlled.now c.in_ok-circuit.circuit made c.in_ok-circuit.ensures.symbols c.in_ok-circuit.ensures.canonical c.in_ok-circuit.ensures.names c.is_circuit.ensures
    c.in_ok-canonical.ensures.shape c.in_ok-canonical.ensures.same in
    let long = ap length c.in_ok-text.ensures.text in
    let short : length (circuit_text c.args.form made) ≤ most_text = omega (arith, long) in
    record {
      circuit = made;
      circuit_is = over;
      written = c.in_ok-text.ensures.text;
      read = subst (λ (text : List ℕ). IsCircuitText text made) (sym c.in_ok-text.ensures.text)
          (text_read names c.args.controlled.now made c.keeps_limits.ensures.few_propositions over c.written_circuits_are_read.ensures
          c.binary_circuits_are_read.ensures c.args.form short);
    }
