use Rattle.omega_laws.proofs.CircuitsRefused.{circuits_not_at_fault}
use Rattle.omega_laws.proofs.written_circuits.written_circuits_are_not_at_fault.Goals as goal

pub returns : goal.returns
returns c =
    circuits_not_at_fault c.automata_are_one.ensures c.automata_are_unrefused.ensures c.circuits_of_texts_are_one.ensures c.circuits_are_not_refused.ensures
