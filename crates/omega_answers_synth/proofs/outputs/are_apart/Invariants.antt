-- the names so far are in exactly one of the lists
use Rattle.omega_answers_synth.proofs.GivenOutputs.{AreApartBelow}
use Rattle.omega_answers_synth.proofs.outputs.are_apart.Given as goal

abbrev pub invariant-loop-name : goal.invariant-loop-name
invariant-loop-name l = AreApartBelow l.name-index l.formula.table.names l.outs l.ins
