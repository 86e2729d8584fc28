-- A search in breadth for the places that are reached, and the ways on which it met them.
use Rattle.std.specs.Prelude.{◌≡◌, ◌⊎◌, ℕ, ◌+◌, ◌<◌, ◌≤◌, Bool, not, IsTrue, Option, Some, None, List, []}
use Rattle.std.specs.Prelude.{◌∷◌, ◌++◌, length, Contains, count_by, slice_index, slice_index_or}
use Rattle.omega_game_values.specs.Game.{Node, priority_at}
use Rattle.omega_game_reaching.specs.Reaching.{left_at, mark_at, IsReachedFrom}

-- the index of the place from which the one at an index was met, or none
abbrev pub origin_at : List (Option ℕ) → ℕ → Option ℕ
origin_at origins i = slice_index_or origins i None

-- the place at an index is of priority at most the most, and listed or met along an edge left
-- possible from one before it
pub record IsMetInTree (nodes : List Node) (choices : List (Option ℕ)) (most : ℕ)
    (places met : List ℕ) (origins : List (Option ℕ)) (i : ℕ) : Type 0 where
  pub low : priority_at nodes (slice_index met i) ≤ most
  pub root : origin_at origins i ≡ None → Contains places (slice_index met i)
  pub before : (b : ℕ) → origin_at origins i ≡ Some b → b < i
  pub edge : (b : ℕ) → origin_at origins i ≡ Some b
      → Contains (left_at nodes choices (slice_index met b)) (slice_index met i)

-- the places met are a tree over those listed
pub record IsTree (nodes : List Node) (choices : List (Option ℕ)) (most : ℕ) (places met : List ℕ)
    (origins : List (Option ℕ)) : Type 0 where
  pub even : length origins ≡ length met
  pub each : (i : ℕ) → i < length met → IsMetInTree nodes choices most places met origins i

-- each place that is reached is met
abbrev pub MeetsAll : List Node → List (Option ℕ) → ℕ → List ℕ → List ℕ → Type 0
MeetsAll nodes choices most places met =
    (v : ℕ) → IsReachedFrom nodes choices most places v → Contains met v

-- the places of priority at most the most that were not marked are marked and met from the origin
pub record AreMet (nodes : List Node) (most : ℕ) (places : List ℕ) (origin : Option ℕ)
    (marks : List Bool) (met : List ℕ) (origins : List (Option ℕ))
    (marks' : List Bool) (met' : List ℕ) (origins' : List (Option ℕ)) : Type 0 where
  pub count : length marks' ≡ length marks
  pub even : length origins' ≡ length met'
  pub kept : (v : ℕ) → IsTrue (mark_at marks v) → IsTrue (mark_at marks' v)
  pub marked : (v : ℕ) → Contains places v → priority_at nodes v ≤ most → IsTrue (mark_at marks' v)
  pub fresh : (v : ℕ) → IsTrue (mark_at marks' v) → IsTrue (mark_at marks v) ⊎ Contains met' v
  pub longer : length met ≤ length met'
  pub same : (i : ℕ) → i < length met → slice_index met' i ≡ slice_index met i
  pub same_origin : (i : ℕ) → i < length met → origin_at origins' i ≡ origin_at origins i
  pub listed : (i : ℕ) → length met ≤ i → i < length met' → Contains places (slice_index met' i)
  pub low : (i : ℕ) → length met ≤ i → i < length met'
      → priority_at nodes (slice_index met' i) ≤ most
  pub from : (i : ℕ) → length met ≤ i → i < length met' → origin_at origins' i ≡ origin
  pub left : count_by not marks' + length met' ≡ count_by not marks + length met

-- the places before the one at an index on the way on which it was met
pub data IsWay (met : List ℕ) (origins : List (Option ℕ)) : ℕ → List ℕ → Type 0 where
  root : (i : ℕ) → origin_at origins i ≡ None → IsWay met origins i []
  onward : (i b : ℕ) (before : List ℕ) → origin_at origins i ≡ Some b → IsWay met origins b before
      → IsWay met origins i (before ++ slice_index met b ∷ [])

-- each origin is before what was met from it
abbrev pub LeadBack : List (Option ℕ) → Type 0
LeadBack origins = (i b : ℕ) → i < length origins → origin_at origins i ≡ Some b → b < i

-- a low path from one of the places to v, and the places before v on it
pub record LeadsTo (nodes : List Node) (choices : List (Option ℕ)) (most : ℕ) (places : List ℕ)
    (v : ℕ) (before : List ℕ) : Type 0 where
  pub reached : IsReachedFrom nodes choices most places v
  pub whole : before ++ v ∷ [] ≡ reached.start ∷ reached.after

-- v, and the places before it on a low path from it to itself
pub record IsCycle (nodes : List Node) (choices : List (Option ℕ)) (v : ℕ)
    (cycle : List ℕ) : Type 0 where
  pub onward : List ℕ
  pub whole : cycle ≡ v ∷ onward
  pub way : LeadsTo nodes choices (priority_at nodes v) (left_at nodes choices v) v onward
