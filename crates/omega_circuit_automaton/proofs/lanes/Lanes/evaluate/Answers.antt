-- the table of the variables, written back
use Rattle.std.proofs.Common.{length, drop, subst, sym, arith}
use Rattle.omega_circuit_automaton.specs.private.Lanes.{AreLanesOf}
use Rattle.omega_circuit_automaton.proofs.LaneBits.{written_back}
use Rattle.omega_circuit_automaton.proofs.lanes.Lanes.evaluate.Goals as goal

pub returns : goal.returns
returns c =
    let known = c.evaluate_states.new.known in
    subst (AreLanesOf c.args.circuit.now c.args.valuations.now)
    (sym (written_back known (drop (length known) c.args.self.now.known.items) c.args.self.now.known.len (omega (arith, c.as_mut_slice.ensures.len, c.evaluate_states.auto.known))))
    c.evaluate_states.ensures
