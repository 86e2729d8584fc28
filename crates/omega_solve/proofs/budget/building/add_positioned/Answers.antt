-- The node with a position is specified with its successors' positions.
use Rattle.std.proofs.Common.{◌<◌, ◌≤◌, ◌∙◌, ◌++◌, ◌∷◌, [], ap, arith, get_or, length, subst, sym, ℕ}
use Rattle.omega_game_values.specs.declared.node_spec.NodeSpec.{NodeSpec}
use Rattle.omega_game_values.specs.Building.{with_last, with_successor}
use Rattle.omega_text.specs.Limits.{most_number}
use Rattle.omega_solve.proofs.within_budget.Nodes.{first_positioned, listed_below, position_is_number, positioned_more, some_listed}
use Rattle.omega_solve.proofs.budget.building.add_positioned.Goals as goal

pub successors-successors-requires : goal.successors-successors-requires
successors-successors-requires c = omega (arith, c.place-place.ensures, (c.requires.inverse.placed c.args.position (omega (arith, c.requires.position, c.requires.placed))).0, c.requires.positioned)

pub bounds-successors-0 : goal.bounds-successors-0
bounds-successors-0 c =
    let below : c.place-place.result < length c.args.game.now =
    omega (arith, c.place-place.ensures, (c.requires.inverse.placed c.args.position (omega (arith, c.requires.position, c.requires.placed))).0, c.requires.positioned) in
    some_listed c.args.game.now c.place-place.result c.successors-successors.result.now c.requires.game below c.successors-successors.ensures

pub position-first-requires : goal.position-first-requires
position-first-requires c =
    let below : c.place-place.result < length c.args.game.now =
    omega (arith, c.place-place.ensures, (c.requires.inverse.placed c.args.position (omega (arith, c.requires.position, c.requires.placed))).0, c.requires.positioned) in
    let some = some_listed c.args.game.now c.place-place.result c.successors-successors.result.now c.requires.game below c.successors-successors.ensures in
    omega (arith, c.requires.positioned, listed_below c.args.game.now c.place-place.result 0 c.successors-successors.result.now c.requires.game c.successors-successors.ensures some)

pub priority-requires : goal.priority-requires
priority-requires c = omega (arith, c.place-place.ensures, (c.requires.inverse.placed c.args.position (omega (arith, c.requires.position, c.requires.placed))).0, c.requires.positioned)

pub owner-requires : goal.owner-requires
owner-requires c = omega (arith, c.place-place.ensures, (c.requires.inverse.placed c.args.position (omega (arith, c.requires.position, c.requires.placed))).0, c.requires.positioned)

pub add_node-requires-clause-id : goal.add_node-requires-clause-id
add_node-requires-clause-id c = omega (arith, c.requires.position, c.requires.limits.few_nodes)

pub add_node-requires-clause-first : goal.add_node-requires-clause-first
add_node-requires-clause-first c =
    let permutation = c.args.permutation.now in
    let list = c.successors-successors.result.now in
    let below : c.place-place.result < length c.args.game.now =
    omega (arith, c.place-place.ensures, (c.requires.inverse.placed c.args.position (omega (arith, c.requires.position, c.requires.placed))).0, c.requires.positioned) in
    let some = some_listed c.args.game.now c.place-place.result list c.requires.game below c.successors-successors.ensures in
    let number = position_is_number c.args.game.now permutation.positions permutation.places (get_or list 0 0) c.requires.limits c.requires.inverse c.requires.positioned c.requires.placed
    (listed_below c.args.game.now c.place-place.result 0 list c.requires.game c.successors-successors.ensures some) in
    subst (λ (position : ℕ). position ≤ most_number) (sym c.position-first.ensures) number

pub loop-index-init : goal.loop-index-init
loop-index-init c =
    let permutation = c.args.permutation.now in
    let list = c.successors-successors.result.now in
    let below : c.place-place.result < length c.args.game.now =
    omega (arith, c.place-place.ensures, (c.requires.inverse.placed c.args.position (omega (arith, c.requires.position, c.requires.placed))).0, c.requires.positioned) in
    let some = some_listed c.args.game.now c.place-place.result list c.requires.game below c.successors-successors.ensures in
    c.in_ok-add_node.ensures.ok
    ∙ ap (λ (spec : NodeSpec). c.args.builder.now ++ spec ∷ [])
    (first_positioned c.args.game.now permutation.positions permutation.places c.args.position c.place-place.result c.position-first.result c.priority.result c.owner.result list
    c.place-place.ensures c.priority.ensures c.owner.ensures c.position-first.ensures some)

pub position-next-requires : goal.position-next-requires
position-next-requires c =
    omega (
      arith,
      c.requires.positioned,
      listed_below c.args.game.now c.place-place.result c.loop-index.index c.successors-successors.result.now c.requires.game c.successors-successors.ensures
          (omega (arith, c.loop-index-test.true)),
    )

pub add_successor-requires-clause-successor : goal.add_successor-requires-clause-successor
add_successor-requires-clause-successor c =
    let permutation = c.args.permutation.now in
    let list = c.successors-successors.result.now in
    let number = position_is_number c.args.game.now permutation.positions permutation.places (get_or list c.loop-index.index 0) c.requires.limits c.requires.inverse c.requires.positioned c.requires.placed
    (listed_below c.args.game.now c.place-place.result c.loop-index.index list c.requires.game c.successors-successors.ensures (omega (arith, c.loop-index-test.true))) in
    subst (λ (position : ℕ). position ≤ most_number) (sym c.position-next.ensures) number

pub loop-index-preserved : goal.loop-index-preserved
loop-index-preserved c =
    let permutation = c.args.permutation.now in
    let list = c.successors-successors.result.now in
    c.in_ok-add_successor.ensures.ok
    ∙ ap (λ (id : ℕ). with_last (with_successor id) c.loop-index.builder) c.position-next.ensures
    ∙ ap (with_last (with_successor (get_or permutation.positions (get_or list c.loop-index.index 0) 0))) c.loop-index.invariant
    ∙ positioned_more c.args.game.now permutation.positions permutation.places c.args.position c.args.builder.now list c.loop-index.index (omega (arith, c.loop-index-test.true))
