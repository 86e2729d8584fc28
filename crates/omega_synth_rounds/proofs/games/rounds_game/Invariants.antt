use Rattle.std.proofs.Common.{◌≡◌, map}
use Rattle.std.specs.List.{range_with_len}
use Rattle.omega_synth_rounds.specs.RoundsGame.{node_for}
use Rattle.omega_synth_rounds.proofs.games.rounds_game.Given as goal

abbrev pub invariant-loop-place : goal.invariant-loop-place
invariant-loop-place l = l.builder ≡ map (node_for l.rounds) (range_with_len 0 l.place)
