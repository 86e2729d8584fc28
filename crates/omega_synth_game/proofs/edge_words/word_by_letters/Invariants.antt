use Rattle.omega_synth_game.proofs.EdgesInLanes.{IsMadeTo}
use Rattle.omega_synth_game.proofs.edge_words.word_by_letters.Given as goal

abbrev pub invariant-loop-lane : goal.invariant-loop-lane
invariant-loop-lane l =
    IsMadeTo l.automaton l.lanes.controlled.now l.lanes.inputs.now l.lanes.block l.number l.lane l.word
