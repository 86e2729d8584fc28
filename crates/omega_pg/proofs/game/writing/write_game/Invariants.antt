-- `write_game`: the header and the lines of the places before this one are written.
use Rattle.std.proofs.Common.{◌≡◌, ◌++◌, map, take}
use Rattle.std.specs.List.{flat_map}
use Rattle.omega_game_values.specs.Building.{specified}
use Rattle.omega_pg.specs.game.Canonical.{header_line, node_line}
use Rattle.omega_game_values.specs.Game.{greatest_identifier}
use Rattle.omega_pg.proofs.game.writing.write_game.Given as goal

abbrev pub invariant-loop-place : goal.invariant-loop-place
invariant-loop-place l =
    l.out.items ≡ header_line (greatest_identifier l.game) ++ flat_map node_line (map (specified l.game) (take l.place l.game))
