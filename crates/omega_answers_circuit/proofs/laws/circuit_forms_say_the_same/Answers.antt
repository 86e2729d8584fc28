-- What was written says a circuit in canonical form, which is its own canonical form in each form of text.
use Rattle.std.proofs.Common.{subst, ◌∙◌}
use Rattle.omega_aiger.specs.Text.{IsCircuitText}
use Rattle.omega_circuit.specs.Canonical.{IsCanonicalCircuit}
use Rattle.omega_circuit.specs.Circuit.{CircuitValue}
use Rattle.omega_answers_circuit.proofs.laws.circuit_forms_say_the_same.Goals as goal

pub returns : goal.returns
returns laws form other text output changed answer second c read =
    let one = laws.circuits_of_texts_are_one.ensures in
    let same = one output answer.holds.text.canonical second.circuit answer.holds.read second.read in
    let kept = second.holds.text.canonical_is.kept (subst IsCanonicalCircuit same answer.holds.text.canonical_is.shape) in
    subst (λ (a : CircuitValue). IsCircuitText changed a) (kept ∙ one output second.circuit c second.read read) second.holds.read
