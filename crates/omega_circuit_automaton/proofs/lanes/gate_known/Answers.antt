-- a literal and its negation, or two operands
use Rattle.omega_circuit_automaton.proofs.lanes.gate_known.Goals as goal

pub returns : goal.returns
returns c = λ bit round sound. c.and.ensures _ _ bit (c.literal_known-left.ensures bit round sound) (c.literal_known-right.ensures bit round sound)
