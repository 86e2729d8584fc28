-- Both mean the same as the circuit of the text.
use Rattle.std.proofs.Common.{subst}
use Rattle.omega_circuit.specs.Canonical.{MeanTheSame}
use Rattle.omega_circuit.specs.Circuit.{CircuitValue}
use Rattle.omega_answers_circuit.proofs.Same.{same_back, same_on}
use Rattle.omega_answers_circuit.proofs.laws.circuit_forms_mean_the_same.Goals as goal

pub returns : goal.returns
returns laws form other text one two first second c d read again =
    let once = laws.circuits_of_texts_are_one.ensures in
    let a = first.holds.text.canonical in
    let b = second.holds.text.canonical in
    let same = once text second.circuit first.circuit second.read first.read in
    let onward = subst (λ (x : CircuitValue). MeanTheSame x b) same second.holds.text.canonical_is.same in
    subst (λ (x : CircuitValue). MeanTheSame x d) (once one a c first.holds.read read)
    (subst (λ (y : CircuitValue). MeanTheSame a y) (once two b d second.holds.read again)
    (same_on a first.circuit b (same_back first.circuit a first.holds.text.canonical_is.same) onward))
