-- `leads_on`: the successors of a node are places.
use Rattle.std.proofs.Common.{arith}
use Rattle.omega_game_dot.proofs.Places.{successor_is_place}
use Rattle.omega_game_dot.proofs.nodes.leads_on.Goals as goal

pub bounds-drawn-successor : goal.bounds-drawn-successor
bounds-drawn-successor c =
    omega (
      arith,
      c.requires.entries,
      successor_is_place c.args.game.now c.args.place c.successors-successor-items.result.now
          c.loop-successor.successor-index 0 c.keeps_limits.ensures.game c.successors-successor-items.ensures (omega arith),
    )
