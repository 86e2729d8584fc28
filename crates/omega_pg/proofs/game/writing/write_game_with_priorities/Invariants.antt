-- `write_game_with_priorities`: the header and the lines of the places before this one are written.
use Rattle.std.proofs.Common.{◌≡◌, ◌++◌, map}
use Rattle.std.specs.List.{flat_map, range_with_len}
use Rattle.omega_game_values.specs.Game.{greatest_identifier}
use Rattle.omega_pg.specs.game.Canonical.{header_line, node_line}
use Rattle.omega_pg.proofs.games.Prioritized.{prioritized}
use Rattle.omega_pg.proofs.game.writing.write_game_with_priorities.Given as goal

abbrev pub invariant-loop-place : goal.invariant-loop-place
invariant-loop-place l =
    l.out.items ≡ header_line (greatest_identifier l.game) ++ flat_map node_line (map (prioritized l.game l.priorities) (range_with_len 0 l.place))
