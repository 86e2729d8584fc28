-- Places that a player has won before its run ends, whatever becomes of all others.
use Rattle.std.specs.Prelude.{◌≡◌, ◌≢◌, ℕ, Bool, false, Some, IsSome, List, slice_get}
use Rattle.omega_game_values.specs.declared.player.Player.{Player}
use Rattle.omega_game_values.specs.Game.{Node, HasEdge, owner_at}
use Rattle.omega_game_values.specs.Winning.{InRegion}
use Rattle.omega_lift_laws.specs.Allowance.{measure_at}
use Rattle.omega_measure.specs.Table.{Content, Exceeds}

-- the place is not given up for lost
abbrev pub IsKept : List Bool → ℕ → Type 0
IsKept lost v = slice_get lost v ≡ Some false

-- w is kept, and the allowance of v towards it does not exceed the measure of v
pub record RestsOn (content : Content) (lost : List Bool) (v w : ℕ) : Type 0 where
  pub kept : IsKept lost w
  pub enough : ¬ Exceeds content v w

-- v rests on one of its successors if the player owns it, else on each
pub record Rests (nodes : List Node) (player : Player) (content : Content) (lost : List Bool)
    (v : ℕ) : Type 0 where
  pub own : owner_at nodes v ≡ player → (w : ℕ) × HasEdge nodes v w × RestsOn content lost v w
  pub other : owner_at nodes v ≢ player → (w : ℕ) → HasEdge nodes v w → RestsOn content lost v w

-- each kept place is below top and rests on kept ones
pub record StandsAlone (nodes : List Node) (player : Player) (content : Content)
    (lost : List Bool) : Type 0 where
  pub below_top : (v : ℕ) → IsKept lost v → IsSome (measure_at content.measures v)
  pub rests : (v : ℕ) → IsKept lost v → Rests nodes player content lost v

-- each kept place is in the player's region
abbrev pub AreWon : List Node → Player → List Bool → Type 0
AreWon nodes player lost = (v : ℕ) → IsKept lost v → InRegion nodes player v
