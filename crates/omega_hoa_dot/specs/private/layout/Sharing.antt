-- A table of the edges of a state that share arrows.
use Rattle.std.specs.Prelude.{◌≡◌, ℕ, ◌+◌, ◌<◌, Option, Some, None, List, drop, length, map, slice_index_or}
use Rattle.std.specs.BTreeMap.{get}
use Rattle.std.specs.List.{position_from}
use Rattle.std.specs.Ordering.{nat_cmp}
use Rattle.omega_hoa_dot.specs.Arrows.{Drawn, is_to, shared_target}
use Rattle.omega_hoa_dot.specs.declared.sharing.ArrowSharing.{ArrowSharing}

-- the states that edges share arrows to
abbrev pub targets_of : List Drawn → List (Option ℕ)
targets_of edges = map (λ edge. shared_target edge.role edge.targets) edges

-- the least index from one on of an edge that shares an arrow to a state
abbrev pub next_to : List (Option ℕ) → ℕ → ℕ → Option ℕ
next_to targets index target = position_from (is_to target) index (drop index targets)

-- a table has for each edge the next that shares its arrow, and for each state the first edge that shares an arrow to
-- it
pub record IsSharing (targets : List (Option ℕ)) (sharing : ArrowSharing) : Type 0 where
  pub entries : length sharing.next.items ≡ length targets
  pub next : (index target : ℕ) → index < length targets
      → slice_index_or targets index None ≡ Some target
      → slice_index_or sharing.next.items index None ≡ next_to targets (index + 1) target
  pub firsts : (target : ℕ) → get nat_cmp sharing.firsts target ≡ next_to targets 0 target
