-- `write_others`: the identifiers before this one are written.
use Rattle.std.proofs.Common.{◌≡◌, ◌++◌, map, take}
use Rattle.omega_pg.specs.game.Canonical.{successors_after}
use Rattle.omega_game_values.specs.Game.{identifier_at}
use Rattle.omega_pg.proofs.game.writing.write_others.Given as goal

abbrev pub invariant-loop-place : goal.invariant-loop-place
invariant-loop-place l = l.out.items ≡ l.fn.out.items ++ successors_after (map (identifier_at l.game) (take l.place-index l.places))
