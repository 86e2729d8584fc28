-- Reordered games, and their answers restated for the original game.
use Rattle.std.specs.Prelude.{◌≡◌, ℕ, ◌<◌, Bool, false, List, length, map, slice_index, slice_index_or}
use Rattle.omega_game_values.specs.Game.{Node, node_at, priorities}
use Rattle.omega_lift_laws.specs.Allowance.{measure_at}
use Rattle.omega_lift_laws.specs.Measure.{Measure}
use Rattle.omega_lift_schedules.specs.Permutation.{AreInverse}
use Rattle.omega_solve.specs.Solver.{SolverState}

-- the same node after places became positions: its priority, its owner, and its successors in the order listed
pub record IsMoved (positions : List ℕ) (node other : Node) : Type 0 where
  pub priority : other.priority ≡ node.priority
  pub owner : other.owner ≡ node.owner
  pub successors : other.successors ≡ map (slice_index positions) node.successors

-- `other` is the reordered game: it has the same nodes, each at its position
pub record IsReordering (nodes other : List Node) (positions places : List ℕ) : Type 0 where
  pub inverse : AreInverse positions places
  pub positioned : length positions ≡ length nodes
  pub placed : length places ≡ length nodes
  pub entries : length other ≡ length nodes
  pub moved : (v : ℕ) → v < length nodes
      → IsMoved positions (node_at nodes v) (node_at other (slice_index positions v))

-- measures listed by position, listed by place
abbrev pub measures_by_place : List ℕ → List Measure → List Measure
measures_by_place positions table = map (measure_at table) positions

-- flags listed by position, listed by place
abbrev pub flags_by_place : List ℕ → List Bool → List Bool
flags_by_place positions flags = map (λ r. slice_index_or flags r false) positions

-- the state of a solver for the reordered game, restated for the original game with these nodes
abbrev pub state_by_place : List Node → List ℕ → SolverState → SolverState
state_by_place nodes positions state = record {
  nodes = nodes;
  player = state.player;
  table = record {
    player = state.table.player;
    priorities = priorities nodes;
    measures = measures_by_place positions state.table.measures;
  };
  pending = record {
    flags = flags_by_place positions state.pending.flags;
    taken = state.pending.taken;
  };
  lifts = state.lifts;
  done = state.done;
}

-- a game, the reordered game, and the position of each node with the place of each position
pub record Reordering : Type 0 where
  pub given : List Node
  pub reordered : List Node
  pub positions : List ℕ
  pub places : List ℕ

-- the reordered game is the original game with each node at its position
abbrev pub IsReordered : Reordering → Type 0
IsReordered reordering =
    IsReordering reordering.given reordering.reordered reordering.positions reordering.places
