-- What holds in the loop of `forward_part`: the kept nodes before this one are specified.
use Rattle.std.proofs.Common.{◌≡◌, map, filter}
use Rattle.std.specs.List.{range_with_len}
use Rattle.omega_game_values.specs.Building.{specified}
use Rattle.omega_game_reaching.specs.Reaching.{mark_at}
use Rattle.omega_game_values.specs.Game.{node_at}
use Rattle.omega_game_reaching.proofs.parts.forward_part.Given as goal

abbrev pub invariant-loop-kept : goal.invariant-loop-kept
invariant-loop-kept l = l.builder ≡ map (λ v. specified l.game (node_at l.game v)) (filter (mark_at l.marks.items) (range_with_len 0 l.kept))
