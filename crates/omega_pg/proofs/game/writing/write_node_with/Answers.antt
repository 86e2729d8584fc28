-- `write_node_with`: its parts are the line of the node.
use Rattle.std.proofs.Common.{◌<◌, length}
use Rattle.std.proofs.lemmas.List.Elements.{All-same}
use Rattle.omega_pg.proofs.games.Listed.{successors_are_places}
use Rattle.omega_pg.proofs.game.writing.write_node_with.Goals as goal

pub write_listed-requires : goal.write_listed-requires
write_listed-requires c =
    All-same (λ place. place < length c.args.game.now) _ _ c.successors.ensures (successors_are_places c.args.game.now c.args.place c.requires.game)
