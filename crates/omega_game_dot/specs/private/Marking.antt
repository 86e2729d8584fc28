-- The marks of a lasso as sets of places and of steps.
use Rattle.std.specs.Prelude.{◌≡◌, ◌||◌, ℕ, List}
use Rattle.omega_game_dot.specs.Roles.{edge_role, is_step, node_role, role_by, steps_from}
use Rattle.omega_game_dot.specs.declared.marks.LassoMarks.{LassoMarks}
use Rattle.omega_game_dot.specs.declared.role.Role.{Role}

-- the role of the node at a place by the sets
abbrev pub marked_node : LassoMarks → ℕ → Role
marked_node marks place = node_role marks.stem.keys marks.cycle.keys place

-- the role of the edges from v to w by the sets
abbrev pub marked_edge : LassoMarks → (v w : ℕ) → Role
marked_edge marks v w =
    role_by (is_step v w marks.cycle_steps.keys) (is_step v w marks.stem_steps.keys)

-- the sets give each node and each edge its role in the lasso
pub record AreMarksOf (stem cycle : List ℕ) (marks : LassoMarks) : Type 0 where
  pub node : (place : ℕ) → marked_node marks place ≡ node_role stem cycle place
  pub edge : (v w : ℕ) → marked_edge marks v w ≡ edge_role stem cycle v w

-- the steps from a place along others are added to a set
abbrev pub AddsSteps : ℕ → List ℕ → (before after : List (ℕ × ℕ)) → Type 0
AddsSteps from places before after =
    (v w : ℕ) → is_step v w after ≡ (is_step v w before || is_step v w (steps_from from places))
