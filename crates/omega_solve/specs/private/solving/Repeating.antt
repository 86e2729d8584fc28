-- Lifting a place that leads to itself again and again.
use Rattle.std.specs.Prelude.{◌≡◌, ℕ, ◌+◌, ◌<◌, List, replicate}
use Rattle.omega_game_values.specs.declared.player.Player.{Player}
use Rattle.omega_game_values.specs.Game.{Node, HasEdge}
use Rattle.omega_lift_laws.specs.Run.{IsLiftingRun}
use Rattle.omega_measure.specs.Table.{Content}
use Rattle.omega_lift_schedules.specs.Schedule.{Pending}
use Rattle.omega_solve.specs.private.solving.Successor.{IsTableOf}

-- v is lifted `count` times in a row, and leads to itself if `count` is not 0. Each lift is counted as a take, and the
-- same places are pending
pub record LiftsAgain (nodes : List Node) (player : Player) (v count : ℕ) (old new : Content)
    (before after : Pending) : Type 0 where
  pub lifted : IsLiftingRun nodes player old.measures (replicate count v) new.measures
  pub table : IsTableOf nodes player new
  pub looped : 0 < count → HasEdge nodes v v
  pub taken : after.taken ≡ before.taken + count
  pub flags : after.flags ≡ before.flags
