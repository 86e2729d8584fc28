-- Which places are reached along the edges that choices leave possible.
use Rattle.std.specs.Prelude.{◌≡◌, ◌↔◌, ℕ, ◌<◌, ◌≤◌, Bool, false, IsTrue, Option, Some}
use Rattle.std.specs.Prelude.{None, List, [], ◌∷◌, length, Contains, slice_index_or}
use Rattle.omega_game_values.specs.Game.{Node, priority_at, successors_at}
use Rattle.omega_game_values.specs.Winning.{choice_at, end_of}

-- a choice leaves the chosen place, no choice leaves all successors
abbrev pub left_of : Option ℕ → List ℕ → List ℕ
left_of None successors = successors
left_of (Some chosen) successors = chosen ∷ []

-- the places to which the choices leave an edge from v possible
abbrev pub left_at : List Node → List (Option ℕ) → ℕ → List ℕ
left_at nodes choices v = left_of (choice_at choices v) (successors_at nodes v)

-- every edge left possible leads to a node
pub record LeadsInside (nodes : List Node) (choices : List (Option ℕ)) : Type 0 where
  pub inside : (v w : ℕ) → Contains (left_at nodes choices v) w → w < length nodes

-- v and the places after it are a low path: no priority is above the most,
-- and neighbours are joined by edges left possible
abbrev pub IsLowPath : List Node → List (Option ℕ) → ℕ → ℕ → List ℕ → Type 0
IsLowPath nodes choices most v [] = priority_at nodes v ≤ most
IsLowPath nodes choices most v (w ∷ ws) = (priority_at nodes v ≤ most)
    × Contains (left_at nodes choices v) w × IsLowPath nodes choices most w ws

-- a low path from one of the places ends at v
pub record IsReachedFrom (nodes : List Node) (choices : List (Option ℕ)) (most : ℕ)
    (places : List ℕ) (v : ℕ) : Type 0 where
  pub start : ℕ
  pub listed : Contains places start
  pub after : List ℕ
  pub path : IsLowPath nodes choices most start after
  pub ends : end_of start after ≡ v

-- the mark at a place
abbrev pub mark_at : List Bool → ℕ → Bool
mark_at marks v = slice_index_or marks v false

-- the marks are those of the places that are reached
abbrev pub AreReached : List Node → List (Option ℕ) → ℕ → List ℕ → List Bool → Type 0
AreReached nodes choices most places marks =
    (v : ℕ) → IsTrue (mark_at marks v) ↔ IsReachedFrom nodes choices most places v
