-- The law by its lemma.
use Rattle.omega_circuit.proofs.Rows.{values_are_runs}
use Rattle.omega_circuit.proofs.laws.values_are_runs.Goals as goal

pub returns : goal.returns
returns c = values_are_runs
