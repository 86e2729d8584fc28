-- what is known of a gate that has the value of its operands
use Rattle.std.proofs.Common.{sym, subst}
use Rattle.omega_circuit_automaton.specs.private.Lanes.{Allows}
use Rattle.omega_circuit_automaton.proofs.lanes.evaluate_gate.Goals as goal

pub returns : goal.returns
returns c = λ bit round is sound. c.put.ensures bit round (subst (Allows c.gate_known-value.result bit) (sym is) (c.gate_known-value.ensures bit round sound)) sound
