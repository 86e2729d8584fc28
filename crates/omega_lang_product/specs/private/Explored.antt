-- What a product is made of: its pairs, the edges between them, and how many edges leave each.
use Rattle.std.specs.Prelude.{◌≡◌, ◌<◌, ◌≤◌, ℕ, zero, suc, ◌+◌, List, length, get_or, sum_by, take}
use Rattle.omega_hoa_automaton.specs.Automaton.{Description}
use Rattle.omega_hoa_edges.specs.Limits.{most_edges, most_states}
use Rattle.omega_lang_product.specs.JointEdges.{AreJoints}
use Rattle.omega_lang_product.specs.PairGraph.{joints_of}
use Rattle.omega_lang_product.specs.Pairs.{AreReached, Pair, targets_of}
use Rattle.omega_lang_product.specs.Refusing.{AreReachable}
use Rattle.omega_lang_product.specs.declared.explored.Explored.{Explored}
use Rattle.omega_lang_product.specs.declared.tables.Tables.{Tables}
use Rattle.omega_lang_product.specs.private.Operands.{HaveRows}

-- how many edges leave a pair
abbrev pub leaving : Description → Description → Pair → ℕ
leaving one other pair = length (targets_of one other pair)

-- how many edges leave the pairs before the one with a number, by the numbers for the pairs
abbrev pub past_before : List ℕ → ℕ → ℕ
past_before past zero = 0
past_before past (suc at) = get_or past at 0

-- the edges of both states of the first pairs are made
abbrev pub HaveRowsOf : Tables → List Pair → ℕ → Type 0
HaveRowsOf tables pairs count = (k : ℕ) → k < count → HaveRows tables (get_or pairs k (0, 0))

-- the pairs are the reachable ones, and the edges those between them; the number for each pair is how many edges leave
-- it and the pairs before it
pub record IsExplored (one other : Description) (explored : Explored) : Type 0 where
  pub reached : AreReached one other explored.pairs.keys
  pub reachable : AreReachable one other explored.pairs.keys
  pub few : length explored.pairs.keys ≤ most_states
  pub edges : AreJoints (joints_of one other explored.pairs.keys) explored.edges
  pub light : length explored.edges.ends.items ≤ most_edges
  pub long : length explored.past.items ≡ length explored.pairs.keys
  pub past : (k : ℕ) → k < length explored.pairs.keys
      → get_or explored.past.items k 0 ≡ sum_by (leaving one other) (take (k + 1) explored.pairs.keys)

-- the edges of both states of each pair are made
abbrev pub AreMade : Tables → Explored → Type 0
AreMade tables explored = HaveRowsOf tables explored.pairs.keys (length explored.pairs.keys)
