-- `leader_count`: one place more is its own leader or is not.
use Rattle.std.proofs.Common.{arith}
use Rattle.omega_answers_game.proofs.Counted.{leaders_no, leaders_yes}
use Rattle.omega_answers_game.proofs.counting.leader_count.Goals as goal
use Rattle.omega_answers_game.proofs.counting.leader_count.Goals.{then-leaders-place, else-leaders-place}

pub loop-place-preserved : goal.loop-place-preserved
loop-place-preserved c =
    elim c.if-leaders-place.branch [
      | then-leaders-place w ↦ record {
        counted = leaders_yes c.args.leaders.now c.loop-place.place c.loop-place.count c.if-leaders-place.count w.if-leaders-place.true w.count-is
            c.loop-place.invariant.counted;
        few = omega (arith, c.loop-place.invariant.few, w.count-is);
      }
      | else-leaders-place w ↦ record {
        counted = leaders_no c.args.leaders.now c.loop-place.place c.loop-place.count c.if-leaders-place.count w.if-leaders-place.false w.count-is
            c.loop-place.invariant.counted;
        few = omega (arith, c.loop-place.invariant.few, w.count-is);
      }
    ]
