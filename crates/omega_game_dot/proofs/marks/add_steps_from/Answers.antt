-- `add_steps_from`: one step more.
use Rattle.std.proofs.Common.{arith}
use Rattle.omega_game_dot.proofs.Steps.{step_more}
use Rattle.omega_game_dot.proofs.marks.add_steps_from.Goals as goal

pub loop-place-preserved : goal.loop-place-preserved
loop-place-preserved c =
    step_more c.args.from c.args.places.now c.loop-place.place-index c.loop-place.at c.args.found.now.keys c.loop-place.found.keys c.insert.new.self.keys
    (omega arith) c.loop-place.invariant c.in_ok-insert.ensures.updates.0
