-- A count that loses is listed, and all counts are seen at the end.
use Rattle.std.proofs.Common.{sym, subst, ap, arith, ◌∙◌}
use Rattle.omega_game_values.specs.Game.{priorities}
use Rattle.omega_game_values.specs.Bound.{IsStrictlyFalling}
use Rattle.omega_game_values.specs.Player.{loses}
use Rattle.omega_measure.proofs.Listed.{limits_is, listed_more, listed_same, losing-falls, losing_is}
use Rattle.omega_measure.proofs.losing.losing_of.Goals as goal
use Rattle.omega_measure.proofs.losing.losing_of.Goals.{then-loses+in_ok-push+in_ok-push-2, else-loses}

pub returns-clause-losing : goal.returns-clause-losing
returns-clause-losing c =
    losing_is c.args.player (priorities c.args.game.now) c.priority_counts-counts.result.now c.loop-count.count-index c.priority_counts-counts.ensures (omega (arith, c.loop-count-test.false))
    c.loop-count.losing.items c.loop-count.invariant.losing

pub returns-clause-falling : goal.returns-clause-falling
returns-clause-falling c =
    let is =
    losing_is c.args.player (priorities c.args.game.now) c.priority_counts-counts.result.now c.loop-count.count-index c.priority_counts-counts.ensures (omega (arith, c.loop-count-test.false))
    c.loop-count.losing.items c.loop-count.invariant.losing in
    subst IsStrictlyFalling (sym is) (losing-falls c.args.player (priorities c.args.game.now))

pub returns-clause-limits : goal.returns-clause-limits
returns-clause-limits c =
    limits_is c.args.player (priorities c.args.game.now) c.priority_counts-counts.result.now c.loop-count.count-index c.priority_counts-counts.ensures (omega (arith, c.loop-count-test.false))
    c.loop-count.limits.items c.loop-count.invariant.limits

pub loop-count-preserved : goal.loop-count-preserved
loop-count-preserved c =
    let counts = c.priority_counts-counts.result.now in
    let so_far = c.loop-count.invariant in
    elim c.if-loses.branch [
      | then-loses+in_ok-push+in_ok-push-2 w ↦
          let passes = sym w.if-loses.true ∙ c.loses.ensures in
          record {
            losing = listed_more (loses c.args.player) (λ count. count.priority) counts c.loop-count.count-index _ c.loop-count-test.true
                c.loop-count.losing.items _ passes so_far.losing (ap (λ v. v.items) w.losing-is ∙ w.in_ok-push.ensures.items);
            limits = listed_more (loses c.args.player) (λ count. count.nodes) counts c.loop-count.count-index _ c.loop-count-test.true
                c.loop-count.limits.items _ passes so_far.limits (ap (λ v. v.items) w.limits-is ∙ w.in_ok-push-2.ensures.items);
          }
      | else-loses w ↦
          let fails = sym w.if-loses.false ∙ c.loses.ensures in
          record {
            losing = listed_same (loses c.args.player) (λ count. count.priority) counts c.loop-count.count-index _ c.loop-count-test.true
                c.loop-count.losing.items _ fails so_far.losing (ap (λ v. v.items) w.losing-is);
            limits = listed_same (loses c.args.player) (λ count. count.nodes) counts c.loop-count.count-index _ c.loop-count-test.true
                c.loop-count.limits.items _ fails so_far.limits (ap (λ v. v.items) w.limits-is);
          }
    ]
