use Rattle.std.proofs.Common.{◌≡◌, ◌<◌, ◌^◌, ℕ, length}
use Rattle.omega_circuit_automaton.specs.Valuations.{latch_values, valuation_at}
use Rattle.omega_circuit_automaton.specs.private.Lanes.{KeepsSoundIn}
use Rattle.omega_circuit_automaton.proofs.lanes.put_valuations.Given as goal

abbrev pub invariant-loop-lane : goal.invariant-loop-lane
invariant-loop-lane l = (lane : ℕ) → lane < length l.valuations
    → KeepsSoundIn (2 ^ lane) (λ round. latch_values l.latches round ≡ valuation_at l.valuations lane) l.initial.known l.known
