-- The circuits of both texts are those of the answer.
use Rattle.std.proofs.Common.{subst}
use Rattle.omega_circuit.specs.Canonical.{IsCanonicalCircuit, MeanTheSame}
use Rattle.omega_circuit.specs.Circuit.{CircuitValue}
use Rattle.omega_answers_circuit.proofs.laws.canonical_circuit_texts_mean_the_same.Goals as goal

pub returns : goal.returns
returns laws form text output answer c d read again =
    let one = laws.circuits_of_texts_are_one.ensures in
    let of_text = one text answer.circuit c answer.read read in
    let of_output = one output answer.holds.text.canonical d answer.holds.read again in (
      subst IsCanonicalCircuit of_output answer.holds.text.canonical_is.shape,
      subst (λ (a : CircuitValue). MeanTheSame a d) of_text
          (subst (λ (b : CircuitValue). MeanTheSame answer.circuit b) of_output answer.holds.text.canonical_is.same),
    )
