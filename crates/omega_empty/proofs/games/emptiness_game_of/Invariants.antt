use Rattle.std.proofs.Common.{◌≡◌}
use Rattle.std.specs.List.{flat_map, range_with_len}
use Rattle.omega_empty.specs.EmptinessGame.{nodes_at}
use Rattle.omega_empty.proofs.games.emptiness_game_of.Given as goal

abbrev pub invariant-loop-counter : goal.invariant-loop-counter
invariant-loop-counter l = l.builder ≡ flat_map (nodes_at l.judged.kind l.judged.automaton l.judged.usable) (range_with_len 0 l.counter)
