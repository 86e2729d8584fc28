-- The builder has a node for each place so far.
use Rattle.std.proofs.Common.{◌<◌, length}
use Rattle.omega_tests.proofs.games.measures.game_of.Given as goal

abbrev pub invariant-loop-place : goal.invariant-loop-place
invariant-loop-place l = 0 < l.place → 0 < length l.builder
