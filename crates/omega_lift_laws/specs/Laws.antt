-- The laws of lifting, each the contract of a public function.
use Rattle.std.specs.Prelude.{◌≡◌, ◌≢◌, ◌==◌, ℕ, ◌<◌, ◌≤◌, ◌⊎◌, IsTrue}
use Rattle.std.specs.Prelude.{IsSome, Option, List, count_by, length}
use Rattle.std.specs.declared.cmp.Ordering.TheVariants.{Greater, Less}
use Rattle.std.specs.Cmp.{IsTotalOrder}
use Rattle.omega_game_values.specs.declared.player.Player.{Player}
use Rattle.omega_game_values.specs.Bound.{bound_of, product_of}
use Rattle.omega_game_values.specs.Game.{Node, IsGame, priorities}
use Rattle.omega_game_values.specs.Winning.{IsStrategy, Wins, InRegion}
use Rattle.omega_lift_laws.specs.Measure.{Measure, IsMeasure, IsAbove, IsAtMost, compare, compare_from, rank}
use Rattle.omega_lift_laws.specs.Allowance.{IsAllowance, measure_at, suffices}
use Rattle.omega_lift_laws.specs.Least.{least_sufficient}
use Rattle.omega_lift_laws.specs.Run.{IsLiftingRun, IsStable, IsTable, zero_table}
use Rattle.omega_lift_laws.specs.Answer.{AreChoices}

-- measures are in a total order
abbrev pub MeasuresAreOrdered : Type 0
MeasuresAreOrdered = IsTotalOrder compare

-- comparing fewer entries only forgets: a measure that is at most another stays so
abbrev pub CoarseningForgets : Type 0
CoarseningForgets = (player : Player) (priorities : List ℕ) (p q : ℕ) (x y : Measure)
    → p ≤ q → compare_from player priorities p x y ≢ Greater
    → compare_from player priorities q x y ≢ Greater

-- the allowance towards a measure is the least sufficient one
abbrev pub AllowancesAreLeastSufficient : Type 0
AllowancesAreLeastSufficient =
    (player : Player) (priorities : List ℕ) (p : ℕ) (y : Measure) → IsMeasure player priorities y
    → IsAllowance player priorities p y (least_sufficient player priorities p y)

-- there is an allowance towards each measure
abbrev pub AllowancesExist : Type 0
AllowancesExist =
    (player : Player) (priorities : List ℕ) (p : ℕ) (y : Measure)
    → IsMeasure player priorities y → (x : Measure) × IsAllowance player priorities p y x

-- there is only one allowance towards each measure
abbrev pub AllowancesAreUnique : Type 0
AllowancesAreUnique =
    (player : Player) (priorities : List ℕ) (p : ℕ) (y x z : Measure)
    → IsAllowance player priorities p y x → IsAllowance player priorities p y z → x ≡ z

-- the allowance towards a measure that is no less on the entries for priorities at least p is no less
abbrev pub AllowancesAreMonotone : Type 0
AllowancesAreMonotone =
    (player : Player) (priorities : List ℕ) (p : ℕ) (y z x w : Measure)
    → compare_from player priorities p y z ≢ Greater
    → IsAllowance player priorities p y x → IsAllowance player priorities p z w → IsAtMost x w

-- the allowance towards a measure that is greater on the entries for priorities at least p is greater,
-- if the lesser is below top
abbrev pub AllowancesAreStrict : Type 0
AllowancesAreStrict = (player : Player) (priorities : List ℕ) (p : ℕ) (y z x w : Measure)
    → IsMeasure player priorities y → IsMeasure player priorities z
    → compare_from player priorities p y z ≡ Less → IsAllowance player priorities p y x
    → IsAllowance player priorities p z w → IsSome x → IsAbove w x

-- a measure does not suffice exactly if the allowance exceeds it
abbrev pub AllowancesExceed : Type 0
AllowancesExceed =
    (player : Player) (priorities : List ℕ) (p : ℕ) (y x z : Measure)
    → IsMeasure player priorities z → IsAllowance player priorities p y x
    → IsAbove x z ⊎ (IsAtMost x z × IsTrue (suffices player priorities p z y))

-- the rank of a measure is at most the product, and below it if the measure is below top
pub record RanksAreBounded : Type 0 where
  pub all : (player : Player) (priorities : List ℕ) (x : Measure) → IsMeasure player priorities x
      → rank player priorities x ≤ product_of player priorities
  pub below_top : (player : Player) (priorities : List ℕ) (x : Measure)
      → IsMeasure player priorities x → IsSome x
      → rank player priorities x < product_of player priorities

-- a measure above another has a greater rank
abbrev pub RanksRise : Type 0
RanksRise =
    (player : Player) (priorities : List ℕ) (x y : Measure)
    → IsMeasure player priorities x → IsMeasure player priorities y → IsAbove x y
    → rank player priorities y < rank player priorities x

-- the all-zero table is a table
abbrev pub ZeroTablesAreTables : Type 0
ZeroTablesAreTables = (player : Player) (priorities : List ℕ)
    → IsTable player priorities (zero_table player priorities)

-- a lifting run leads from a table to a table
abbrev pub RunsKeepTables : Type 0
RunsKeepTables = (nodes : List Node) (player : Player) (old new : List Measure) (places : List ℕ)
    → IsTable player (priorities nodes) old → IsLiftingRun nodes player old places new
    → IsTable player (priorities nodes) new

-- a lifting run from the all-zero table has at most as many entries as the bound
abbrev pub RunsAreBounded : Type 0
RunsAreBounded =
    (nodes : List Node) (player : Player) (places : List ℕ) (new : List Measure)
    → IsLiftingRun nodes player (zero_table player (priorities nodes)) places new
    → length places ≤ bound_of player (priorities nodes)

-- a lifting run from the all-zero table has each place at most as often as the product
abbrev pub PlacesAreLiftedBoundedly : Type 0
PlacesAreLiftedBoundedly =
    (nodes : List Node) (player : Player) (places : List ℕ) (new : List Measure) (v : ℕ)
    → IsLiftingRun nodes player (zero_table player (priorities nodes)) places new
    → count_by (λ u. u == v) places ≤ product_of player (priorities nodes)

-- the choices of an answer are a strategy
abbrev pub ChoicesAreAStrategy : Type 0
ChoicesAreAStrategy =
    (nodes : List Node) (player : Player) (table : List Measure) (choices : List (Option ℕ))
    → AreChoices nodes player table choices → IsStrategy nodes player choices

-- if no lift is due, the choices of the answer win from each place whose measure is below top
abbrev pub ChoicesWin : Type 0
ChoicesWin =
    (nodes : List Node) (player : Player) (table : List Measure) (choices : List (Option ℕ)) (v : ℕ)
    → IsGame nodes → IsTable player (priorities nodes) table → IsStable nodes player table
    → AreChoices nodes player table choices → IsSome (measure_at table v)
    → Wins nodes player choices v

-- if no lift is due, a place below top is in the player's region
abbrev pub WonPlacesAreInRegions : Type 0
WonPlacesAreInRegions =
    (nodes : List Node) (player : Player) (table : List Measure) (v : ℕ)
    → IsGame nodes → IsTable player (priorities nodes) table → IsStable nodes player table
    → IsSome (measure_at table v) → InRegion nodes player v

-- no lifting run from the all-zero table takes a node of the player's region to top
abbrev pub RegionsStayBelowTop : Type 0
RegionsStayBelowTop =
    (nodes : List Node) (player : Player) (places : List ℕ) (table : List Measure) (v : ℕ)
    → IsGame nodes → IsLiftingRun nodes player (zero_table player (priorities nodes)) places table
    → InRegion nodes player v → IsSome (measure_at table v)
