-- The strongly connected components of a game's graph. A node without a cycle is a component of its own.
use Rattle.std.specs.Prelude.{◌≡◌, ◌==◌, ℕ, ◌<◌, ◌≤◌, List, count_by, length, slice_index}
use Rattle.std.specs.List.{range_with_len}
use Rattle.omega_game_values.specs.Game.{Node}
use Rattle.omega_game_values.specs.Paths.{Reaches}

-- two places are in one component: each leads to the other along listed edges
pub record AreConnected (nodes : List Node) (v w : ℕ) : Type 0 where
  pub there : Reaches nodes v w
  pub back : Reaches nodes w v

-- the leader that a list gives to a place
abbrev pub leader_at : List ℕ → ℕ → ℕ
leader_at leaders v = slice_index leaders v

-- the leader of each place is the least place of its component
pub record AreLeaders (nodes : List Node) (leaders : List ℕ) : Type 0 where
  pub each : length leaders ≡ length nodes
  pub connected : (v : ℕ) → v < length nodes → AreConnected nodes v (leader_at leaders v)
  pub least : (v w : ℕ) → AreConnected nodes v w → leader_at leaders v ≤ w

-- how many components there are: one for each place that is its own leader
abbrev pub component_count : List ℕ → ℕ
component_count leaders =
    count_by (λ v. leader_at leaders v == v) (range_with_len 0 (length leaders))

-- how many places a component has: those with its leader
abbrev pub component_size : List ℕ → ℕ → ℕ
component_size leaders leader = count_by (λ other. other == leader) leaders

-- the component of some place has this many places, and that of no place has more
pub record IsLargest (leaders : List ℕ) (largest : ℕ) : Type 0 where
  pub place : ℕ
  pub inside : place < length leaders
  pub size : largest ≡ component_size leaders (leader_at leaders place)
  pub most : (v : ℕ) → v < length leaders → component_size leaders (leader_at leaders v) ≤ largest

-- a game has this many components, and the largest has this many places
pub record HasComponents (nodes : List Node) (count largest : ℕ) : Type 0 where
  pub leaders : List ℕ
  pub leading : AreLeaders nodes leaders
  pub counted : count ≡ component_count leaders
  pub greatest : IsLargest leaders largest

-- a game has one number of components, and one of places in the largest
abbrev pub ComponentsAreUnique : Type 0
ComponentsAreUnique =
    (nodes : List Node) (count largest count' largest' : ℕ) → HasComponents nodes count largest
    → HasComponents nodes count' largest' → (count ≡ count') × (largest ≡ largest')
