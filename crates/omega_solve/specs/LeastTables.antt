-- The least table in which no lift is due, to which lifting runs lead.
use Rattle.std.specs.Prelude.{ℕ, ◌<◌, List, length}
use Rattle.omega_game_values.specs.declared.player.Player.{Player}
use Rattle.omega_game_values.specs.Game.{Node, IsGame, priorities}
use Rattle.omega_lift_laws.specs.Allowance.{measure_at}
use Rattle.omega_lift_laws.specs.Measure.{Measure, IsAtMost}
use Rattle.omega_lift_laws.specs.Run.{IsLiftingRun, IsStable, IsTable, zero_table}

-- each measure is at most that of the same place in each table of the game in which no lift is due
abbrev pub IsBelowStable : List Node → Player → List Measure → Type 0
IsBelowStable nodes player table =
    (other : List Measure) → IsTable player (priorities nodes) other → IsStable nodes player other
    → (v : ℕ) → v < length nodes → IsAtMost (measure_at table v) (measure_at other v)

-- the least table in which no lift is due
pub record IsLeastStable (nodes : List Node) (player : Player) (table : List Measure) : Type 0 where
  pub is_table : IsTable player (priorities nodes) table
  pub stable : IsStable nodes player table
  pub least : IsBelowStable nodes player table

-- a lifting run leads from the all-zero table to this one
pub record IsLedTo (nodes : List Node) (player : Player) (table : List Measure) : Type 0 where
  pub places : List ℕ
  pub lifted : IsLiftingRun nodes player (zero_table player (priorities nodes)) places table

-- a lifting run leads from the all-zero table to the least table in which no lift is due
abbrev pub RunsLeadToLeastTables : Type 0
RunsLeadToLeastTables =
    (nodes : List Node) (player : Player) (table : List Measure)
    → IsGame nodes → IsLeastStable nodes player table → IsLedTo nodes player table
