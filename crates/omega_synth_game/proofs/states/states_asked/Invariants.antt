use Rattle.std.proofs.Common.{◌≤◌, length}
use Rattle.omega_game_values.specs.Limits.{most_nodes}
use Rattle.omega_synth_game.specs.private.Making.{AreAskedInTurn, AreStatesAsked}
use Rattle.omega_synth_game.proofs.states.states_asked.Given as goal

abbrev pub invariant-loop-numbers : goal.invariant-loop-numbers
invariant-loop-numbers l =
    AreStatesAsked l.automaton l.controlled l.leaving l.numbers-index l.asked.ranges.items l.asked.letters.items l.asked.answers.items
    × AreAskedInTurn l.automaton l.controlled l.leaving l.numbers-index l.asked.ranges.items l.asked.answers.items
    × (length l.asked.answers.items ≤ most_nodes)
