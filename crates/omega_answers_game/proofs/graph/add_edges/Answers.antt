-- `add_edges`: a successor is a place of the game.
use Rattle.std.proofs.Common.{◌<◌, ℕ, List, Contains, get_or, length, subst, arith}
use Rattle.std.proofs.lemmas.List.Elements.{Contains-get_or}
use Rattle.omega_game_values.specs.Game.{HasEdge}
use Rattle.omega_answers_game.proofs.graph.add_edges.Goals as goal

pub add-requires-clause-to : goal.add-requires-clause-to
add-requires-clause-to c =
    let list : List ℕ = c.successors-successor-items.result.now in
    let successor : ℕ = get_or list c.loop-successor.successor-index 0 in
    let below : c.loop-successor.successor-index < length list = omega (arith, c.loop-successor-test.true) in
    let edge : HasEdge c.args.game.now c.args.place successor =
    subst (λ (xs : List ℕ). Contains xs successor) c.successors-successor-items.ensures (Contains-get_or list c.loop-successor.successor-index 0 below) in
    omega (arith, c.keeps_limits.ensures.game.closed c.args.place successor edge, c.loop-successor.invariant.states)
