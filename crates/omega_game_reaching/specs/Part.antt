-- The part of a game that a place reaches.
use Rattle.std.specs.Prelude.{◌≡◌, ◌↔◌, ℕ, ◌<◌, List, map, length, Contains, slice_index}
use Rattle.std.specs.List.Sorted.{IsStrictlyIncreasing}
use Rattle.omega_game_values.specs.Game.{Node, HasEdge, node_at, owner_at, priority_at}
use Rattle.omega_game_values.specs.Paths.{Reaches}
use Rattle.omega_game_values.specs.Places.{StandsAt, new_place}

-- the nodes at the kept places, all as they were, their successors under their new places
abbrev pub restricted : List Node → List ℕ → List Node
restricted nodes kept = map
    (λ v. record (node_at nodes v) { successors = map (new_place kept) (node_at nodes v).successors }) kept

-- part is the game of the nodes to which a list of listed edges leads from v, itself included: those at the kept places
pub record IsPartAt (nodes : List Node) (v : ℕ) (kept : List ℕ) (part : List Node) : Type 0 where
  pub rising : IsStrictlyIncreasing kept
  pub reached : (u : ℕ) → Contains kept u ↔ Reaches nodes v u
  pub kept_nodes : part ≡ restricted nodes kept

-- a part has the kept nodes, each with its owner, its priority and its edges, which lead to kept nodes
pub record KeepsNodes (nodes : List Node) (kept : List ℕ) (part : List Node) : Type 0 where
  pub count : length part ≡ length kept
  pub inside : (u : ℕ) → Contains kept u → u < length nodes
  pub onward : (u w : ℕ) → Contains kept u → HasEdge nodes u w → Contains kept w
  pub stands : (u : ℕ) → Contains kept u → StandsAt kept u (new_place kept u)
  pub back : (k : ℕ) → k < length kept → new_place kept (slice_index kept k) ≡ k
  pub owner : (k : ℕ) → k < length kept → owner_at part k ≡ owner_at nodes (slice_index kept k)
  pub priority : (k : ℕ) → k < length kept
      → priority_at part k ≡ priority_at nodes (slice_index kept k)
  pub edge : (k w : ℕ) → k < length kept → HasEdge nodes (slice_index kept k) w
      → HasEdge part k (new_place kept w)
  pub target : (k j : ℕ) → k < length kept → HasEdge part k j → j < length kept
  pub edge_back : (k j : ℕ) → k < length kept → HasEdge part k j
      → HasEdge nodes (slice_index kept k) (slice_index kept j)

-- part is the part of v
abbrev pub IsPart : List Node → ℕ → List Node → Type 0
IsPart nodes v part = (kept : List ℕ) × IsPartAt nodes v kept part
