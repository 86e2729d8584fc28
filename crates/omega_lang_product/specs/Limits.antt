-- The limits of a product and of its graph.
use Rattle.std.specs.Prelude.{◌≤◌, ℕ, List, length}
use Rattle.omega_text.specs.Limits.{most_number}
use Rattle.omega_hoa_automaton.specs.Automaton.{Description, edge_count}
use Rattle.omega_hoa_edges.specs.Limits.{most_edges, most_states}
use Rattle.omega_lang_product.specs.Pairs.{AreReached, Pair}

-- the most sets of both automata of a graph, which are numbered one after the other
abbrev pub most_joint_sets : ℕ
most_joint_sets = 4294967295

-- an automaton is not larger than a product may be, and a text has numbers for its sets
pub record IsWithin (a : Description) : Type 0 where
  pub states : a.states ≤ most_states
  pub edges : edge_count a ≤ most_edges
  pub sets : a.sets ≤ most_number

-- the reachable pairs are at most as many as a product may have states
abbrev pub HaveFewPairs : Description → Description → Type 0
HaveFewPairs one other = (pairs : List Pair) → AreReached one other pairs → length pairs ≤ most_states
