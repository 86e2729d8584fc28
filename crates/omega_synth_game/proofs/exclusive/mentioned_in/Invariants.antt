-- the propositions of the labels so far
use Rattle.std.proofs.Common.{◌≤◌, length}
use Rattle.omega_hoa_expression.specs.Limits.{most_mentioned}
use Rattle.omega_synth_game.specs.private.Exclusive.{AreMentionedBelow}
use Rattle.omega_synth_game.proofs.exclusive.mentioned_in.Given as goal

abbrev pub invariant-loop-at : goal.invariant-loop-at
invariant-loop-at l = AreMentionedBelow l.mentioned l.state l.at × (length l.mentioned ≤ most_mentioned)
