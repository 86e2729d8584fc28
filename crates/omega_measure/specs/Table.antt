-- Tables of measures: their content, the games that are too wide for one, and how a measure is raised.
use Rattle.std.specs.Prelude.{◌≡◌, ℕ, ◌*◌, Bool, true, List, length, nat_lt, slice_set, slice_index}
use Rattle.omega_game_values.specs.declared.player.Player.{Player}
use Rattle.omega_game_values.specs.Bound.{losing_priorities}
use Rattle.omega_lift_laws.specs.Measure.{Measure, IsAbove}
use Rattle.omega_lift_laws.specs.Allowance.{IsAllowance, measure_at}
use Rattle.omega_lift_laws.specs.Run.{zero_table}
use Rattle.omega_text.specs.Cases.{never, or_memory, or_task}
use Rattle.omega_game_values.specs.declared.Refusal.{Refusal}
use Rattle.omega_game_values.specs.declared.TaskFault.TheVariants.{TooWide}
use Rattle.omega_measure.specs.Limits.{most_cells}

-- the content of a table: the player, the nodes' priorities by place, and a measure for each place
pub record Content : Type 0 where
  pub player : Player
  pub priorities : List ℕ
  pub measures : List Measure

-- the content of a new table: every entry is 0
abbrev pub zero_content : Player → List ℕ → Content
zero_content player priorities = record {
  player = player;
  priorities = priorities;
  measures = zero_table player priorities;
}

-- the content with one measure replaced
abbrev pub with_measure : Content → ℕ → Measure → Content
with_measure content v x = record content { measures = slice_set content.measures v x }

-- x is the allowance of the node at v towards the node at w
abbrev pub IsAllowanceIn : Content → ℕ → ℕ → Measure → Type 0
IsAllowanceIn content v w x = IsAllowance content.player content.priorities
    (slice_index content.priorities v) (measure_at content.measures w) x

-- the allowance of the node at v towards the node at w exceeds the measure of v
pub record Exceeds (content : Content) (v w : ℕ) : Type 0 where
  pub allowance : Measure
  pub is : IsAllowanceIn content v w allowance
  pub above : IsAbove allowance (measure_at content.measures v)

-- the measure of v is replaced by its allowance towards w
pub record Raises (old : Content) (v w : ℕ) (new : Content) : Type 0 where
  pub allowance : Measure
  pub is : IsAllowanceIn old v w allowance
  pub replaced : new ≡ with_measure old v allowance

-- whether nodes times losing priorities in use are over the limit
abbrev pub is_too_wide : Player → List ℕ → Bool
is_too_wide player priorities =
    nat_lt most_cells (length priorities * length (losing_priorities player priorities))

-- the refusal of a call that prepares a table: too many cells, or memory
abbrev pub IsPrepareRefusal : Player → List ℕ → Refusal → Type 0
IsPrepareRefusal player priorities =
    or_task (λ fault. (fault ≡ TooWide) × (is_too_wide player priorities ≡ true)) (or_memory never)
