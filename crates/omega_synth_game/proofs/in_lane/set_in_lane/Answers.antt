-- one number more, of which the lane is set or not
use Rattle.std.proofs.Common.{◌<◌, ℕ, List, length, get_or, sym, refl, ◌∙◌, arith}
use Rattle.omega_synth_game.proofs.EdgesInLanes.{lane_not_set, lane_set}
use Rattle.omega_synth_game.proofs.in_lane.set_in_lane.Goals as goal
use Rattle.omega_synth_game.proofs.in_lane.set_in_lane.Goals.{then-has_lane+in_ok-push, else-has_lane}

pub loop-index-preserved : goal.loop-index-preserved
loop-index-preserved c =
    let numbers : List ℕ = c.args.numbers.now in
    let words : List ℕ = c.args.words.now in
    let index : ℕ = c.loop-index.index in
    let below : index < length numbers = omega (arith, c.loop-index-test.true, c.requires.words) in
    elim c.if-has_lane.branch [
      | then-has_lane+in_ok-push w ↦
          rw (w.set-is, w.in_ok-push.ensures.ok)
          (lane_set c.args.lane numbers words index (get_or numbers index 0) (get_or words index 0) below c.requires.words refl refl c.loop-index.set
          (sym c.has_lane.ensures ∙ w.if-has_lane.true) ∙ c.loop-index.invariant)
      | else-has_lane w ↦
          rw w.set-is
          (lane_not_set c.args.lane numbers words index (get_or numbers index 0) (get_or words index 0) below c.requires.words refl refl c.loop-index.set
          (sym c.has_lane.ensures ∙ w.if-has_lane.false) ∙ c.loop-index.invariant)
    ]
