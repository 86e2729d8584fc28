-- `specify_unnamed`: adds the specification of the node at a place, without its name.
use Rattle.std.proofs.Common.{ℕ, ◌<◌, List, length, get_or, ap, ◌∙◌, arith}
use Rattle.omega_game_values.specs.Building.{with_last, with_successor}
use Rattle.omega_game_values.specs.Game.{node_at, successors_at}
use Rattle.omega_game_reaching.proofs.Specifying.{successor_added, successor_within}
use Rattle.omega_game_reaching.proofs.parts.specify_unnamed.Goals as goal

pub bounds-successors-0 : goal.bounds-successors-0
bounds-successors-0 c = omega (arith, c.requires.game.continued c.args.place c.requires.place, ap length c.successors-successors.ensures)

pub id-first-requires : goal.id-first-requires
id-first-requires c =
    let within : 0 < length (successors_at c.args.game.now c.args.place) = c.requires.game.continued c.args.place c.requires.place in
    rw c.successors-successors.ensures ((successor_within c.args.game.now c.args.place 0 c.requires.game c.requires.limits within).0)

pub id-next-requires : goal.id-next-requires
id-next-requires c =
    let within : c.loop-index.index < length (successors_at c.args.game.now c.args.place) = omega (arith, c.loop-index-test.true, ap length c.successors-successors.ensures) in
    rw c.successors-successors.ensures ((successor_within c.args.game.now c.args.place c.loop-index.index c.requires.game c.requires.limits within).0)

pub loop-index-preserved : goal.loop-index-preserved
loop-index-preserved c =
    let list : List ℕ = c.successors-successors.result.now in
    let node = node_at c.args.game.now c.args.place in
    c.in_ok-add_successor.ensures.ok
    ∙ ap (λ (id : ℕ). with_last (with_successor id) c.loop-index.builder) c.id-next.ensures
    ∙ ap (with_last (with_successor (node_at c.args.game.now (get_or list c.loop-index.index 0)).identifier)) c.loop-index.invariant
    ∙ successor_added c.args.game.now node c.args.builder.now list c.loop-index.index (omega (arith, c.loop-index-test.true))
