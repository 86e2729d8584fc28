use Rattle.std.proofs.Common.{◌≡◌, ℕ, Bool, length, take}
use Rattle.omega_circuit_automaton.specs.private.Cuts.{next_values}
use Rattle.omega_circuit_automaton.specs.private.Lanes.{IsSound}
use Rattle.omega_circuit_automaton.proofs.ends.known_nexts.Given as goal

abbrev pub invariant-loop-latch : goal.invariant-loop-latch
invariant-loop-latch l = record {
  values : (round : ℕ → Bool) → IsSound l.lane.bit round l.lane.known.now l.table.entries.items → l.values.items ≡ next_values (take l.latch-index l.latches) round;
  long : length l.values.items ≡ l.latch-index;
}
