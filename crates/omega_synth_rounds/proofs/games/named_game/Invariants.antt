use Rattle.std.proofs.Common.{◌≡◌, map}
use Rattle.std.specs.List.{range_with_len}
use Rattle.omega_synth_rounds.specs.private.Naming.{named_node}
use Rattle.omega_synth_rounds.proofs.games.named_game.Given as goal

abbrev pub invariant-loop-place : goal.invariant-loop-place
invariant-loop-place l = l.builder ≡ map (named_node l.rounds l.states) (range_with_len 0 l.place)
