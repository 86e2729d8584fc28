-- the names so far are named
use Rattle.omega_answers_synth.proofs.OutputNames.{AreNamedBelow}
use Rattle.omega_answers_synth.proofs.outputs.are_named.Given as goal

abbrev pub invariant-loop-name : goal.invariant-loop-name
invariant-loop-name l = AreNamedBelow l.name-index l.names l.formula.table.names
