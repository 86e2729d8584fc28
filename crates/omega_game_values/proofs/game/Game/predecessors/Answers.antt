-- `Game::predecessors`: the places with an edge to a place, rising, one entry for each listed edge.
use Rattle.std.proofs.Common.{ℕ, length, List, arith, ap}
use Rattle.omega_game_values.proofs.layout.StoredPredecessors.{predecessors_at}
use Rattle.std.proofs.lemmas.List.FromFn.{length-map-range_with_len}
use Rattle.omega_game_values.proofs.game.Game.predecessors.Goals as goal

pub list-requires : goal.list-requires
list-requires c = omega (arith, ap length c.self.view_is, ap length c.self.invariant, length-map-range_with_len {X = List ℕ}, c.requires)

pub returns : goal.returns
returns c = predecessors_at c.self.inside.forward c.args.self.now c.self.inside.predecessors c.args.place _ c.self.view_is c.requires c.self.invariant c.list.ensures
