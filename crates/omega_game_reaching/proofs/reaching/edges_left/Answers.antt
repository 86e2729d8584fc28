-- `edges_left`: the places to which the choices leave an edge from a place possible: the one chosen,
-- or each listed successor where none is chosen or the choices end before the place.
use Rattle.std.proofs.Common.{◌≡◌, [], rules}
use Rattle.omega_game_reaching.specs.Reaching.{left_at}
use Rattle.omega_game_reaching.proofs.Marking.{left_inside, nothing_chosen}
use Rattle.omega_game_reaching.proofs.reaching.edges_left.Goals as goal

pub returns-in-Some-Some-clause-inside : goal.returns-in-Some-Some-clause-inside
returns-in-Some-Some-clause-inside c =
    let left : c.from_ref.result.now ≡ left_at c.args.game.now c.args.choices.now c.args.place = search rules in
    left_inside _ _ _ _ c.requires.choices left

pub returns-in_default-clause-inside : goal.returns-in_default-clause-inside
returns-in_default-clause-inside c =
    left_inside c.args.game.now [] c.args.place c.successors.result.now (nothing_chosen c.args.game.now c.keeps_limits.ensures.game) c.successors.ensures
