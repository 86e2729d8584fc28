-- The sizes of components, by their leaders.
use Rattle.std.specs.Prelude.{◌≡◌, ℕ, ◌<◌, List, length, slice_index, take}
use Rattle.omega_answers_game.specs.Components.{component_size}

-- by place, how many of the places before one have it as their leader
pub record AreSizes (leaders : List ℕ) (place : ℕ) (sizes : List ℕ) : Type 0 where
  pub each : length sizes ≡ length leaders
  pub size : (leader : ℕ) → leader < length leaders
      → slice_index sizes leader ≡ component_size (take place leaders) leader
