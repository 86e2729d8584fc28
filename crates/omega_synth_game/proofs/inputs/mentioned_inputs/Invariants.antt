use Rattle.std.proofs.Common.{◌≡◌, ◌≤◌, length, take}
use Rattle.omega_hoa_expression.specs.Limits.{most_mentioned}
use Rattle.omega_synth_game.specs.Classes.{mentioned_inputs}
use Rattle.omega_synth_game.proofs.inputs.mentioned_inputs.Given as goal

abbrev pub invariant-loop-number : goal.invariant-loop-number
invariant-loop-number l =
    (l.inputs ≡ mentioned_inputs l.automaton l.controlled (take l.number-index l.numbers)) × (length l.inputs ≤ most_mentioned)
