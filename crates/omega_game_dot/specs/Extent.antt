-- The nodes of a game that are drawn: all, or those that a place reaches, with a depth by at most `depth` edges.
use Rattle.std.specs.Prelude.{◌≡◌, ◌↔◌, ◌<◌, ◌≤◌, ℕ, Bool, false, IsTrue}
use Rattle.std.specs.Prelude.{Option, None, Some, List, length, slice_index_or}
use Rattle.omega_game_values.specs.Game.{Node}
use Rattle.omega_game_values.specs.Paths.{Reaches}
use Rattle.omega_game_dot.specs.declared.extent.Extent.{Extent}
use Rattle.omega_game_dot.specs.declared.extent.Extent.TheVariants.{Part, Whole}

-- a walk of at most `depth` edges leads from v to w
pub record ReachesWithin (nodes : List Node) (depth v w : ℕ) : Type 0 where
  pub walk : Reaches nodes v w
  pub short : length walk.path ≤ depth

-- v reaches w, with a depth by a walk of at most `depth` edges
abbrev pub IsNear : List Node → Option ℕ → ℕ → ℕ → Type 0
IsNear nodes None v w = Reaches nodes v w
IsNear nodes (Some depth) v w = ReachesWithin nodes depth v w

-- the place is one of those to be drawn
abbrev pub IsIn : List Node → Extent → ℕ → Type 0
IsIn nodes Whole w = w < length nodes
IsIn nodes (Part place depth) w = IsNear nodes depth place w

-- a part of a game begins at one of its nodes
abbrev pub IsPlaced : List Node → Extent → Type 0
IsPlaced nodes Whole = Unit {0}
IsPlaced nodes (Part place depth) = place < length nodes

-- whether the node at a place is drawn, by the flags of the nodes
abbrev pub is_drawn : List Bool → ℕ → Bool
is_drawn drawn v = slice_index_or drawn v false

-- the flags of the nodes are those of the places to be drawn
pub record AreDrawn (nodes : List Node) (extent : Extent) (drawn : List Bool) : Type 0 where
  pub entries : length drawn ≡ length nodes
  pub exactly : (v : ℕ) → IsTrue (is_drawn drawn v) ↔ IsIn nodes extent v
