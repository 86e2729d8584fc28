-- `way_back`: the places before the one at an index on the way on which it was met.
use Rattle.std.proofs.Common.{◌≡◌, ◌<◌, Some, [], List, ℕ, sym, subst, arith}
use Rattle.omega_game.specs.private.refuting.Ways.{IsWay, root, origin_at}
use Rattle.omega_game.proofs.walks.Ways.{way_back_on}
use Rattle.omega_game.proofs.refuting.ways.way_back.Goals as goal

pub loop-at-preserved : goal.loop-at-preserved
loop-at-preserved c =
    let is : origin_at c.args.origins.now c.loop-at.at ≡ Some c.in-Some.origin = c.in-Some.is in
    let smaller : c.in-Some.origin < c.loop-at.at = c.requires.back c.loop-at.at c.in-Some.origin (omega (arith, c.requires.even, c.loop-at.invariant.0)) is in
    (omega (arith, c.loop-at.invariant.0), way_back_on _ _ _ c.loop-at.at c.in-Some.origin _ _ is c.loop-at.invariant.1 c.in_ok-push.ensures.items)

pub returns : goal.returns
returns c =
    record {
      way = subst (λ (ws : List ℕ). IsWay c.args.met.now c.args.origins.now c.args.index ws) (sym c.reverse.ensures.items) (c.loop-at.invariant.1 [] (root c.loop-at.at c.in_default.is));
    }
