use Rattle.omega_synth_game.specs.private.EdgeWords.{AreEdgeWords}
use Rattle.omega_synth_game.proofs.edge_words.edge_words.Given as goal

abbrev pub invariant-loop-number : goal.invariant-loop-number
invariant-loop-number l =
    AreEdgeWords l.automaton l.lanes.controlled.now l.lanes.inputs.now l.lanes.block l.numbers l.number-index l.words.items
