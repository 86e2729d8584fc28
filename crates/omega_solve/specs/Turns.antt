-- The answers of solving for both players in turns, and the raises of measures that lead to them.
use Rattle.std.specs.Prelude.{◌≡◌, ◌⊎◌, ℕ, ◌-◌, ◌<◌, ◌≤◌, ◌^◌, Bool, false, IsSome, List}
use Rattle.std.specs.Prelude.{[], ◌∷◌, None, Option, length, min, slice_set}
use Rattle.omega_game_values.specs.declared.player.Player.{Player}
use Rattle.omega_game_values.specs.Bound.{bound_of}
use Rattle.omega_game_values.specs.Game.{Node, priorities}
use Rattle.omega_game_values.specs.Player.{opponent_of}
use Rattle.omega_game_values.specs.Winning.{InRegion}
use Rattle.omega_lift_laws.specs.Allowance.{measure_at}
use Rattle.omega_lift_laws.specs.Answer.{AreChoices, won_in}
use Rattle.omega_lift_laws.specs.Measure.{Measure}
use Rattle.omega_lift_laws.specs.Run.{IsStable, Lifts, zero_table}
use Rattle.omega_measure.specs.Table.{IsPrepareRefusal, is_too_wide}
use Rattle.omega_game_values.specs.declared.Refusal.{Refusal}
use Rattle.omega_solve.specs.Headline.{IsExact}
use Rattle.omega_solve.specs.LeastTables.{IsLedTo}

-- the answer is exact, and read in a table in which no lift is due, to which a lifting run leads from the all-zero
-- table
pub record IsAnswerOfRun (nodes : List Node) (player : Player) (won : List Bool)
    (choices : List (Option ℕ)) : Type 0 where
  pub exact : IsExact nodes player won choices
  pub table : List Measure
  pub led_to : IsLedTo nodes player table
  pub finished : IsStable nodes player table
  pub below_top : won ≡ won_in table
  pub chosen : AreChoices nodes player table choices

-- the game is too wide for neither player
abbrev pub IsNarrow : List Node → Type 0
IsNarrow nodes = (player : Player) → is_too_wide player (priorities nodes) ≡ false

-- the refusal of solving for both players in turns: too wide for one of them, or memory
abbrev pub IsTurnsRefusal : List ℕ → Refusal → Type 0
IsTurnsRefusal priorities refusal = (player : Player) × IsPrepareRefusal player priorities refusal

-- raising v gives it the measure x: v is lifted, or it is given up below top, since the opponent wins it, and x is top
abbrev pub IsRaise : List Node → Player → List Measure → ℕ → Measure → Type 0
IsRaise nodes player table v x = Lifts nodes player table v x
    ⊎ (InRegion nodes (opponent_of player) v × IsSome (measure_at table v) × (x ≡ None))

-- a run of raises from one table to another
abbrev pub IsRaisingRun : List Node → Player → List Measure → List ℕ → List Measure → Type 0
IsRaisingRun nodes player old [] new = old ≡ new
IsRaisingRun nodes player old (v ∷ vs) new = (x : Measure) × (v < length nodes)
    × IsRaise nodes player old v x × IsRaisingRun nodes player (slice_set old v x) vs new

-- a run of so many raises leads from the all-zero table to this one; more than 64 bits can count are as many as these
-- can
pub record IsRaised (nodes : List Node) (player : Player) (raises : ℕ)
    (table : List Measure) : Type 0 where
  pub places : List ℕ
  pub run : IsRaisingRun nodes player (zero_table player (priorities nodes)) places table
  pub counted : raises ≡ min (length places) (2 ^ 64 - 1)

-- so many raises lead from the all-zero table to one in which no lift is due
pub record EndsRaised (nodes : List Node) (player : Player) (raises : ℕ) : Type 0 where
  pub table : List Measure
  pub raised : IsRaised nodes player raises table
  pub stable : IsStable nodes player table

-- lifts and places given up are together at most the bound
abbrev pub RaisesAreBounded : Type 0
RaisesAreBounded =
    (nodes : List Node) (player : Player) (raises : ℕ) (table : List Measure)
    → IsRaised nodes player raises table → raises ≤ bound_of player (priorities nodes)
