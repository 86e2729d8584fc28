-- one gate more
use Rattle.std.proofs.Common.{get_or, subst, sym}
use Rattle.omega_circuit_automaton.specs.private.Lanes.{IsSoundIn}
use Rattle.omega_circuit_automaton.proofs.LaneBits.{gate_at}
use Rattle.omega_circuit_automaton.proofs.lanes.evaluate_gates.Goals as goal
use Rattle.omega_circuit_automaton.proofs.lanes.evaluate_gates.Goals.{in-Some, in_default}

pub loop-place-preserved : goal.loop-place-preserved
loop-place-preserved c = λ bit round are sound. elim c.match-get.branch [
  | in-Some w ↦ (let there = w.in-Some.ensures.lookup in
      let gate = gate_at c.args.gates.now round (get_or c.args.order.now c.loop-place.place-index 0) w.in-Some.gate.now are there.3.0 there.1 in
      subst (IsSoundIn bit round) (sym w.known-is) (w.evaluate_gate.ensures bit round gate (c.loop-place.invariant bit round are sound)))
  | in_default w ↦ subst (IsSoundIn bit round) (sym w.known-is) (c.loop-place.invariant bit round are sound)
]
