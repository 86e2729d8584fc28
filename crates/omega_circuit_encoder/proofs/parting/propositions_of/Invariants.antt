-- those of the propositions before
use Rattle.std.proofs.Common.{◌≡◌}
use Rattle.omega_circuit_encoder.specs.Names.{propositions_of}
use Rattle.omega_circuit_encoder.proofs.parting.propositions_of.Given as goal

abbrev pub invariant-loop-p : goal.invariant-loop-p
invariant-loop-p l = l.numbers.items ≡ propositions_of l.system l.p l.controlled
