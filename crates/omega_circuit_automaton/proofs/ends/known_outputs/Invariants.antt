use Rattle.std.proofs.Common.{◌≡◌, ℕ, Bool, length, map, take}
use Rattle.omega_circuit.specs.Rounds.{literal_value}
use Rattle.omega_circuit_automaton.specs.private.Lanes.{IsSound}
use Rattle.omega_circuit_automaton.proofs.ends.known_outputs.Given as goal

abbrev pub invariant-loop-literal : goal.invariant-loop-literal
invariant-loop-literal l = record {
  values : (round : ℕ → Bool) → IsSound l.lane.bit round l.lane.known.now l.table.entries.items → l.values.items ≡ map (λ literal. literal_value round literal) (take l.literal-index l.literals);
  long : length l.values.items ≡ l.literal-index;
}
