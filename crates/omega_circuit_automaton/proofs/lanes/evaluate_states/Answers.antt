-- the constant, the latches, and then the gates
use Rattle.std.proofs.Common.{◌≡◌, ◌^◌, List, sym, subst}
use Rattle.omega_circuit.specs.declared.gate.Gate.{Gate}
use Rattle.omega_circuit.specs.declared.latch.Latch.{Latch}
use Rattle.omega_circuit_automaton.specs.Valuations.{latch_values, valuation_at}
use Rattle.omega_circuit_automaton.specs.private.Lanes.{Allows}
use Rattle.omega_circuit_automaton.specs.private.Ternary.{AreGates}
use Rattle.omega_circuit_automaton.proofs.lanes.evaluate_states.Goals as goal

pub returns : goal.returns
returns c = λ lane within round is latched.
    c.evaluate_gates.ensures (2 ^ lane) round (subst (λ (gates : List Gate). AreGates gates round) (sym c.gates.ensures) is.gates)
    (c.put_valuations.ensures lane within round
    (subst (λ (latches : List Latch). latch_values latches round ≡ valuation_at c.args.valuations.now lane) (sym c.latches.ensures) latched)
    (c.put.ensures (2 ^ lane) round (subst (Allows c.nowhere.result (2 ^ lane)) (sym is.constant) (c.nowhere.ensures (2 ^ lane))) (c.forget.ensures (2 ^ lane) round)))
