-- what is known of both operands
use Rattle.std.proofs.Common.{subst, sym}
use Rattle.omega_circuit.specs.Rounds.{literal_value}
use Rattle.omega_circuit_automaton.specs.private.Lanes.{AreHeld, IsSound}
use Rattle.omega_circuit_automaton.specs.private.Ternary.{Matches}
use Rattle.omega_circuit_automaton.proofs.table.Table.evaluate_gate.Goals as goal

pub returns : goal.returns
returns c = λ round is lane held.
    let sound : IsSound c.args.lane.bit round c.args.lane.known.now c.args.self.now.entries.items = record { lane = lane; kept = held } in
    c.in_ok-put.ensures round
    (subst (Matches c.and.result) (sym is)
    (c.and.ensures (literal_value round c.args.gate.left) (literal_value round c.args.gate.right) (c.value_of-left.ensures round sound) (c.value_of-right.ensures round sound)))
    (subst (AreHeld round) (sym c.put_origin.ensures) held)
