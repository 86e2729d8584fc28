-- what is written and what is owed are all states, and the number is that of the first edge that is left
use Rattle.std.proofs.Common.{◌≡◌, ◌+◌, ◌++◌, drop, length}
use Rattle.std.specs.List.{flat_map}
use Rattle.omega_hoa_automaton.specs.Automaton.{edge_count, edges_from}
use Rattle.omega_canon.specs.BodyText.{state_text}
use Rattle.omega_synth_text.specs.private.Parts.{states_by}
use Rattle.omega_synth_text.proofs.body.write_states.Given as goal

abbrev pub invariant-loop-state : goal.invariant-loop-state
invariant-loop-state l =
    (l.out.items ++ flat_map state_text (states_by l.winner l.number (drop l.state-index l.winner.automaton.now.defined))
    ≡ l.fn.out.items ++ flat_map state_text (states_by l.winner 0 l.winner.automaton.now.defined))
    × (l.number + length (flat_map edges_from (drop l.state-index l.winner.automaton.now.defined)) ≡ edge_count l.winner.automaton.now)
