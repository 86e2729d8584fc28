-- the edges of the numbers so far
use Rattle.std.proofs.Common.{◌≡◌, take}
use Rattle.omega_synth_text.proofs.Graphs.{HasKept}
use Rattle.omega_synth_text.proofs.graph.kept_graph.Given as goal

abbrev pub invariant-loop-number : goal.invariant-loop-number
invariant-loop-number l = (l.graph.states ≡ l.automaton.states) × HasKept l.automaton (take l.number-index l.kept) l.graph.edges
