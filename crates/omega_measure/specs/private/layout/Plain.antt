-- The content of a table of numbers.
use Rattle.std.specs.Prelude.{◌≡◌, ℕ, ◌*◌, ◌<◌, Bool, List, length, map}
use Rattle.std.specs.List.{range_with_len}
use Rattle.omega_game_values.specs.declared.player.Player.{Player}
use Rattle.omega_lift_laws.specs.Measure.{Measure, IsMeasure}
use Rattle.omega_lift_rows.specs.Rows.{measure_in}
use Rattle.omega_measure.specs.private.layout.Shape.{Setting, width_of}
use Rattle.omega_measure.specs.Table.{Content}

-- the measures of the first n places
abbrev pub measures_in : ℕ → ℕ → List Bool → List ℕ → List Measure
measures_in n width tops entries = map (measure_in width tops entries) (range_with_len 0 n)

-- a flag and a row for each place, each of them a measure of the player
pub record AreRows (player : Player) (priorities : List ℕ) (tops : List Bool)
    (entries : List ℕ) : Type 0 where
  pub flags : length tops ≡ length priorities
  pub cells : length entries ≡ length priorities * width_of player priorities
  pub measures : (v : ℕ) → v < length priorities
      → IsMeasure player priorities (measure_in (width_of player priorities) tops entries v)

-- the content of a table that keeps a flag and a row for each place
abbrev pub content_of : Setting → List Bool → List ℕ → Content
content_of setting tops entries = record {
  player = setting.player;
  priorities = setting.priorities;
  measures = measures_in (length setting.priorities)
      (width_of setting.player setting.priorities) tops entries;
}
