use Rattle.std.proofs.Common.{◌≡◌, [], replicate}
use Rattle.omega_synth_game.proofs.leaving.empty_lists.Given as goal

abbrev pub invariant-loop-state : goal.invariant-loop-state
invariant-loop-state l = l.lists.items ≡ replicate l._state []
