-- What was written says a circuit in canonical form, which is its own canonical form.
use Rattle.std.proofs.Common.{ap, subst, sym, ◌∙◌}
use Rattle.omega_answers_circuit.specs.Circuit.{circuit_text}
use Rattle.omega_circuit.specs.Canonical.{IsCanonicalCircuit}
use Rattle.omega_answers_circuit.proofs.laws.canonical_circuit_texts_are_kept.Goals as goal

pub returns : goal.returns
returns laws form text output answer again second =
    let same = laws.circuits_of_texts_are_one.ensures output second.circuit answer.holds.text.canonical second.read answer.holds.read in
    let kept = second.holds.text.canonical_is.kept (subst IsCanonicalCircuit (sym same) answer.holds.text.canonical_is.shape) in
    second.holds.text.written ∙ ap (circuit_text form) (kept ∙ same) ∙ sym answer.holds.text.written
