-- the gates so far, whose operands are numbered
use Rattle.std.proofs.Common.{◌/◌, take, All}
use Rattle.std.specs.List.{Contains}
use Rattle.omega_circuit.specs.private.Numbers.{AreNets}
use Rattle.omega_circuit.specs.declared.gate.Gate.{Gate}
use Rattle.omega_circuit.proofs.wiring.nets_of.Given as goal

abbrev pub invariant-loop-k : goal.invariant-loop-k
invariant-loop-k l = record {
  nets : AreNets l.variables.keys l.first (take l.k l.gates) l.nets.items;
  defined : All (λ (gate : Gate). Contains l.variables.keys (gate.left / 2) × Contains l.variables.keys (gate.right / 2)) (take l.k l.gates);
}
