-- one input fewer is left
use Rattle.omega_circuit_encoder.proofs.choosing.Chooser.+choice.Given as goal

abbrev pub decreases-choice : goal.decreases-choice
decreases-choice l = l.left
