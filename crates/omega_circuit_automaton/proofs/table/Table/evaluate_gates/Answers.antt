-- one gate more
use Rattle.std.proofs.Common.{get_or, subst, sym}
use Rattle.omega_circuit_automaton.specs.declared.table.Table.{Table}
use Rattle.omega_circuit_automaton.specs.private.Lanes.{AreHeld}
use Rattle.omega_circuit_automaton.proofs.LaneBits.{gate_at}
use Rattle.omega_circuit_automaton.proofs.table.Table.evaluate_gates.Goals as goal
use Rattle.omega_circuit_automaton.proofs.table.Table.evaluate_gates.Goals.{in-Some+in_ok-evaluate_gate, in_default}

pub loop-place-preserved : goal.loop-place-preserved
loop-place-preserved c = λ round are lane held. elim c.match-get.branch [
  | in-Some+in_ok-evaluate_gate w ↦ (let there = w.in-Some.ensures.lookup in
      let gate = gate_at c.args.gates.now round (get_or c.args.places.now c.loop-place.place-index 0) w.in-Some.gate.now are there.3.0 there.1 in
      subst (λ (self : Table). AreHeld round self.entries.items) (sym w.self-is)
      (w.in_ok-evaluate_gate.ensures round gate lane (c.loop-place.invariant round are lane held)))
  | in_default w ↦ subst (λ (self : Table). AreHeld round self.entries.items) (sym w.self-is) (c.loop-place.invariant round are lane held)
]
