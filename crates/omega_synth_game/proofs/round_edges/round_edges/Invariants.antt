use Rattle.omega_synth_game.specs.private.Making.{AreRoundEdges}
use Rattle.omega_synth_game.proofs.round_edges.round_edges.Given as goal

abbrev pub invariant-loop-number : goal.invariant-loop-number
invariant-loop-number l = AreRoundEdges l.automaton l.kind l.number l.edges.items
