use Rattle.std.proofs.Common.{◌≡◌, ℕ}
use Rattle.omega_circuit_automaton.specs.Valuations.{latch_values}
use Rattle.omega_circuit_automaton.specs.private.Lanes.{IsAmong, KeepsSoundIn}
use Rattle.omega_circuit_automaton.proofs.lanes.put_latches.Given as goal

abbrev pub invariant-loop-k : goal.invariant-loop-k
invariant-loop-k l = (other : ℕ) → KeepsSoundIn other (λ round. IsAmong other l.bit → latch_values l.latches round ≡ l.values) l.initial.known l.known
