-- Tables of measures, and runs of lifts in them.
use Rattle.std.specs.Prelude.{◌≡◌, ℕ, ◌<◌, List, [], ◌∷◌, length, replicate, slice_set}
use Rattle.omega_game_values.specs.declared.player.Player.{Player}
use Rattle.omega_game_values.specs.Game.{Node}
use Rattle.omega_lift_laws.specs.Measure.{Measure, IsMeasure, IsAbove, zero_measure}
use Rattle.omega_lift_laws.specs.Allowance.{IsLiftValue, measure_at}

-- lifting v gives it the measure x: its lift value, which exceeds its measure
pub record Lifts (nodes : List Node) (player : Player) (table : List Measure) (v : ℕ)
    (x : Measure) : Type 0 where
  pub value : IsLiftValue nodes player table v x
  pub above : IsAbove x (measure_at table v)

-- a lift is due at v: its lift value exceeds its measure
abbrev pub IsDue : List Node → Player → List Measure → ℕ → Type 0
IsDue nodes player table v = (x : Measure) × Lifts nodes player table v x

-- no lift is due
abbrev pub IsStable : List Node → Player → List Measure → Type 0
IsStable nodes player table = (v : ℕ) → v < length nodes → ¬ IsDue nodes player table v

-- a lifting run from one table to another: each place of the list is lifted in the table so far
abbrev pub IsLiftingRun : List Node → Player → List Measure → List ℕ → List Measure → Type 0
IsLiftingRun nodes player old [] new = old ≡ new
IsLiftingRun nodes player old (v ∷ vs) new = (x : Measure) × (v < length nodes)
    × Lifts nodes player old v x × IsLiftingRun nodes player (slice_set old v x) vs new

-- the table in which every entry of every measure is 0
abbrev pub zero_table : Player → List ℕ → List Measure
zero_table player priorities = replicate (length priorities) (zero_measure player priorities)

-- a table has a measure for each node
pub record IsTable (player : Player) (priorities : List ℕ) (table : List Measure) : Type 0 where
  pub entries : length table ≡ length priorities
  pub measures : (v : ℕ) → v < length table → IsMeasure player priorities (measure_at table v)
