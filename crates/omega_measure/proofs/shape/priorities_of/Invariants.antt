-- So far the priorities are those of the places.
use Rattle.std.proofs.Common.{◌≡◌, take}
use Rattle.omega_game_values.specs.Game.{priorities}
use Rattle.omega_measure.proofs.shape.priorities_of.Given as goal

abbrev pub invariant-loop-place : goal.invariant-loop-place
invariant-loop-place l = l.found.items ≡ take l.place (priorities l.game)
