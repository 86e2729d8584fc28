-- The law by its lemma.
use Rattle.omega_circuit.proofs.Runs.{circuits_run}
use Rattle.omega_circuit.proofs.laws.circuits_run.Goals as goal

pub returns : goal.returns
returns c = circuits_run
