-- A solver as its callers see it, and the bounds of its lifts and takes.
use Rattle.std.specs.Prelude.{◌≡◌, ℕ, ◌+◌, ◌*◌, ◌≤◌, Bool, false, List, length}
use Rattle.omega_game_values.specs.declared.player.Player.{Player}
use Rattle.omega_game_values.specs.Game.{Node, successor_count, priorities}
use Rattle.omega_game_values.specs.Bound.{bound_of, product_of}
use Rattle.omega_lift_laws.specs.Run.{IsDue, IsLiftingRun, IsStable, zero_table}
use Rattle.omega_measure.specs.Table.{Content, zero_content}
use Rattle.omega_lift_schedules.specs.Schedule.{Pending, all_pending}

-- a solver: its game and player, its table and schedule, the number of lifts it made, and whether its last run ended
-- with no lift due
pub record SolverState : Type 0 where
  pub nodes : List Node
  pub player : Player
  pub table : Content
  pub pending : Pending
  pub lifts : ℕ
  pub done : Bool

-- the solver with these parts
abbrev pub solver_state : List Node → Player → Content → Pending → ℕ → Bool → SolverState
solver_state nodes player table pending lifts done = record {
  nodes = nodes;
  player = player;
  table = table;
  pending = pending;
  lifts = lifts;
  done = done;
}

-- a new solver: every measure is 0, all places are pending, and no lift was made
abbrev pub start_of : List Node → Player → SolverState
start_of nodes player = solver_state nodes player (zero_content player (priorities nodes))
    (all_pending (length nodes)) 0 false

-- a lifting run of at most the budget's entries leads from the old table to the new, and the lifts grew by as many
pub record LiftsWithin (old : SolverState) (budget : ℕ) (new : SolverState) : Type 0 where
  pub places : List ℕ
  pub lifted : IsLiftingRun old.nodes old.player old.table.measures places new.table.measures
  pub counted : new.lifts ≡ old.lifts + length places
  pub within : length places ≤ budget

-- the table is reached from the all-zero table by a lifting run of as many entries as there were lifts
pub record IsReached (state : SolverState) : Type 0 where
  pub places : List ℕ
  pub lifted : IsLiftingRun state.nodes state.player
      (zero_table state.player (priorities state.nodes)) places state.table.measures
  pub counted : length places ≡ state.lifts

-- no lift is due in the solver's table
abbrev pub IsFinished : SolverState → Type 0
IsFinished state = IsStable state.nodes state.player state.table.measures

-- a lift is due in the solver's table
abbrev pub HasLiftDue : SolverState → Type 0
HasLiftDue state = (place : ℕ) × IsDue state.nodes state.player state.table.measures place

-- the most lifts of a solver: the bound of its game for its player
abbrev pub lift_bound : SolverState → ℕ
lift_bound state = bound_of state.player (priorities state.nodes)

-- the most takes of a solver: one for each place, and one for each edge into a place with each of its lifts
abbrev pub attempt_bound : SolverState → ℕ
attempt_bound state = length state.nodes
    + successor_count state.nodes * product_of state.player (priorities state.nodes)
