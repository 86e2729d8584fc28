-- The facts that each player's side keeps in turns.
use Rattle.std.specs.Prelude.{◌≡◌, ℕ, List, length}
use Rattle.omega_game_values.specs.declared.player.Player.{Player}
use Rattle.omega_game_values.specs.Game.{Node}
use Rattle.omega_lift_laws.specs.Run.{IsDue}
use Rattle.omega_measure.specs.Table.{Content}
use Rattle.omega_lift_schedules.specs.Schedule.{IsIdle, IsPending, Pending}
use Rattle.omega_solve.specs.LeastTables.{IsBelowStable}
use Rattle.omega_solve.specs.Turns.{IsRaised}
use Rattle.omega_solve.specs.private.solving.Successor.{IsTableOf}

-- the table is at most each in which no lift is due, so many raises lead to it, and each place at which a lift is due
-- is pending
pub record IsSide (nodes : List Node) (player : Player) (content : Content) (pending : Pending)
    (raises : ℕ) : Type 0 where
  pub table : IsTableOf nodes player content
  pub below : IsBelowStable nodes player content.measures
  pub raised : IsRaised nodes player raises content.measures
  pub entries : length pending.flags ≡ length nodes
  pub due : (v : ℕ) → IsDue nodes player content.measures v → IsPending pending v

-- no place is pending any more
pub record HasEnded (nodes : List Node) (player : Player) (content : Content) (pending : Pending)
    (raises : ℕ) : Type 0 where
  pub side : IsSide nodes player content pending raises
  pub idle : IsIdle pending
