-- The facts that a solver keeps from its start on.
use Rattle.std.specs.Prelude.{◌≡◌, ℕ, ◌+◌, ◌<◌, ◌≤◌, Bool, true, Option, List, length, sum_by}
use Rattle.omega_game_values.specs.Game.{Node, IsGame, IsWithinLimits, predecessors_of, priorities}
use Rattle.omega_lift_laws.specs.Answer.{AreChoices, won_in}
use Rattle.omega_lift_laws.specs.Run.{IsDue, IsLiftingRun, zero_table}
use Rattle.omega_lift_schedules.specs.Schedule.{IsIdle, IsPending, waits}
use Rattle.omega_solve.specs.Limits.{most_lifts}
use Rattle.omega_solve.specs.Solver.{LiftsWithin, SolverState}
use Rattle.omega_solve.specs.private.solving.Successor.{IsTableOf}

-- the number of edges that lead into a place
abbrev pub in_degree : List Node → ℕ → ℕ
in_degree nodes v = length (predecessors_of nodes v)

-- the invariant of a solver: a lifting run led to its table, and each place at which a lift is due is pending. Takes
-- and pending places together are as many as the places, and at most one more for each edge into a place with each of
-- its lifts
pub record IsSolving (state : SolverState) : Type 0 where
  pub game : IsGame state.nodes
  pub limits : IsWithinLimits state.nodes
  pub content : IsTableOf state.nodes state.player state.table
  pub places : List ℕ
  pub lifted : IsLiftingRun state.nodes state.player
      (zero_table state.player (priorities state.nodes)) places state.table.measures
  pub counted : length places ≡ state.lifts
  pub few : state.lifts ≤ most_lifts
  pub entries : length state.pending.flags ≡ length state.nodes
  pub due : (v : ℕ) → IsDue state.nodes state.player state.table.measures v
      → IsPending state.pending v
  pub most : state.pending.taken + waits state.pending
      ≤ length state.nodes + sum_by (in_degree state.nodes) places
  pub least : length state.nodes ≤ state.pending.taken + waits state.pending
  pub below : state.lifts ≤ state.pending.taken

-- the buffers have an entry for each place, and hold the answer once the solver is done
pub record IsAnswered (state : SolverState) (won : List Bool)
    (choices : List (Option ℕ)) : Type 0 where
  pub won_entries : length won ≡ length state.nodes
  pub choice_entries : length choices ≡ length state.nodes
  pub idle : state.done ≡ true → IsIdle state.pending
  pub places_won : state.done ≡ true → won ≡ won_in state.table.measures
  pub chosen : state.done ≡ true → AreChoices state.nodes state.player state.table.measures choices

-- at least one lift was made, and at most `most`
pub record IsLifted (old : SolverState) (most made : ℕ) (new : SolverState) : Type 0 where
  pub lifted : LiftsWithin old made new
  pub some : 0 < made
  pub within : made ≤ most
  pub counted : new.lifts ≡ old.lifts + made
  pub same_nodes : new.nodes ≡ old.nodes
  pub same_player : new.player ≡ old.player
  pub same_done : new.done ≡ old.done
  pub room : waits new.pending ≤ length new.nodes

-- the invariant of a solver with its buffers
pub record IsSolver (state : SolverState) (won : List Bool) (choices : List (Option ℕ)) : Type 0 where
  pub solving : IsSolving state
  pub answered : IsAnswered state won choices
