-- A successor that is the place itself is listed.
use Rattle.std.proofs.Common.{subst, ℕ}
use Rattle.omega_game_values.specs.Game.{HasEdge}
use Rattle.omega_solve.proofs.lifting.Edges.{edge_index}
use Rattle.omega_solve.proofs.repeating.leads_to_itself.Goals as goal

pub returns-then-successor-place : goal.returns-then-successor-place
returns-then-successor-place c _ =
    let edge = edge_index c.args.game.now c.args.place c.successors-successor-items.result.now c.loop-successor.successor-index
    c.successors-successor-items.ensures c.loop-successor-test.true in
    subst (λ (w : ℕ). HasEdge c.args.game.now c.args.place w) c.if-successor-place.true edge
