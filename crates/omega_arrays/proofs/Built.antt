-- The game of arrays that have the shape: it is a game, and its specifications are those that are handed over.
use Rattle.std.proofs.Common.{◌≡◌, ℕ, zero, suc, ◌+◌, ◌-◌, ◌<◌, ◌≤◌, Some, None, List, [], ◌∷◌, ◌++◌, inl, inr, length, map, get_or, Contains, sym, ap, ◌∙◌, subst, arith}
use Rattle.std.specs.Prelude.{slice_range, sum_by}
use Rattle.std.specs.List.{range_with_len}
use Rattle.std.proofs.lemmas.Bool.{cases_lt}
use Rattle.std.proofs.lemmas.List.{get_or-map, get_or_default, get_or_past, length-map, nil_from_length, same_lists}
use Rattle.std.proofs.lemmas.List.Sorted.{IsPermutation-refl}
use Rattle.std.proofs.lemmas.List.Edits.{between_more, get_or-between, length-between}
use Rattle.std.proofs.lemmas.List.Elements.{All-get_or}
use Rattle.std.proofs.lemmas.List.FromFn.{fill_by_all, get_or-map-range_with_len, length-map-range_with_len, sum_by-map-range_with_len_more}
use Rattle.omega_text.specs.Limits.{most_number}
use Rattle.omega_text.specs.Cases.{never, or_game, or_memory}
use Rattle.omega_text.specs.declared.refusal.Refusal.{Refusal}
use Rattle.omega_text.specs.declared.refusal.Refusal.TheVariants.{Automaton, Circuit, Game, Io, Memory, Task, Text}
use Rattle.omega_game_values.specs.declared.node_spec.NodeSpec.{NodeSpec}
use Rattle.omega_game_values.specs.declared.player.Player.{Player}
use Rattle.omega_game_values.specs.Game.{HasEdge, IsGame, IsWithinLimits, Node, identifiers, no_node, node_at, successors_at}
use Rattle.omega_game_values.specs.Limits.{most_nodes, most_successors}
use Rattle.omega_game_values.specs.Building.{IsBuildRefusal, IsGameOf, game_fault_of, specified, with_last, with_successor}
use Rattle.omega_game_values.proofs.building.Collecting.{with_last-push}
use Rattle.omega_arrays.specs.Arrays.{GameArrays, array_node, listed_at, node_count, nodes_in, player_of, start_at}
use Rattle.omega_arrays.specs.Shape.{IsGameShape, IsSizeFault}
use Rattle.omega_arrays.specs.private.Specified.{spec_of, spec_with, specs_below}

-- ---- starts

-- starts rise
rises_by : (a : GameArrays) → IsGameShape a → (d v : ℕ) → v + d ≤ node_count a → start_at a v ≤ start_at a (v + d)
rises_by a shape zero v h = let e : start_at a (v + zero) ≡ start_at a v = ap (start_at a) (omega arith) in omega (arith, e)
rises_by a shape (suc d) v h =
    let e : start_at a (v + suc d) ≡ start_at a (v + d + 1) = ap (start_at a) (omega arith) in
    omega (arith, e, rises_by a shape d v (omega arith), shape.rising (v + d) (omega arith))

-- no start is past the successors
pub starts_within : (a : GameArrays) → IsGameShape a → (v : ℕ) → v ≤ node_count a → start_at a v ≤ length a.successors
starts_within a shape v h =
    let e : start_at a (v + (node_count a - v)) ≡ start_at a (node_count a) = ap (start_at a) (omega arith) in
    omega (arith, e, rises_by a shape (node_count a - v) v (omega arith), shape.last)

-- the successors of a node end after their start, and within all
pub ends_within : (a : GameArrays) → IsGameShape a → (v : ℕ) → v < node_count a
    → (start_at a v < start_at a (v + 1)) × (start_at a (v + 1) ≤ length a.successors)
ends_within a shape v h = (shape.rising v h, starts_within a shape (v + 1) (omega arith))

-- ---- specifications

-- one entry alone
pub one_listed : (xs : List ℕ) (i : ℕ) → i < length xs → slice_range xs i (i + 1) ≡ get_or xs i 0 ∷ []
one_listed xs i h =
    let e : slice_range xs i i ≡ [] = nil_from_length (slice_range xs i i) (omega (arith, length-between xs i i (omega arith))) in
    between_more xs i i 0 (omega arith) h ∙ ap (λ (front : List ℕ). front ++ get_or xs i 0 ∷ []) e

-- one successor more
pub one_more : (a : GameArrays) (v : ℕ) (specs : List NodeSpec) (first i : ℕ) → first ≤ i → i < length a.successors
    → with_last (with_successor (get_or a.successors i 0)) (specs ++ spec_with a v (slice_range a.successors first i) ∷ [])
    ≡ specs ++ spec_with a v (slice_range a.successors first (i + 1)) ∷ []
one_more a v specs first i h within =
    with_last-push (with_successor (get_or a.successors i 0)) specs (spec_with a v (slice_range a.successors first i))
    ∙ ap (λ (listed : List ℕ). specs ++ spec_with a v listed ∷ []) (sym (between_more a.successors first i 0 h within))

-- a specification with these parts
abbrev made : ℕ → ℕ → Player → List ℕ → NodeSpec
made v priority owner listed = record { id = v; priority = priority; owner = owner; successors = listed; name = None }

-- the first successor alone
pub begun : (a : GameArrays) (v first : ℕ) (specs : List NodeSpec) (ranks listed : List ℕ) (owner : Player) → ranks ≡ a.priorities
    → owner ≡ player_of (get_or a.owners v 0) → listed ≡ a.successors → first < length a.successors
    → specs ++ made v (get_or ranks v 0) owner (get_or listed first 0 ∷ []) ∷ []
    ≡ specs ++ spec_with a v (slice_range a.successors first (first + 1)) ∷ []
begun a v first specs ranks listed owner er eo el h =
    ap (λ (xs : List ℕ). specs ++ made v (get_or xs v 0) owner (get_or listed first 0 ∷ []) ∷ []) er
    ∙ ap (λ (p : Player). specs ++ made v (get_or a.priorities v 0) p (get_or listed first 0 ∷ []) ∷ []) eo
    ∙ ap (λ (xs : List ℕ). specs ++ made v (get_or a.priorities v 0) (player_of (get_or a.owners v 0)) (get_or xs first 0 ∷ []) ∷ []) el
    ∙ ap (λ (xs : List ℕ). specs ++ spec_with a v xs ∷ []) (sym (one_listed a.successors first h))

-- ---- the game

-- the node at a place
pub node_is : (a : GameArrays) (v : ℕ) → v < node_count a → node_at (nodes_in a) v ≡ array_node a v
node_is a v h = get_or-map-range_with_len (array_node a) 0 (node_count a) v v no_node h (omega arith)

pub count_is : (a : GameArrays) → length (nodes_in a) ≡ node_count a
count_is a = length-map-range_with_len (array_node a) 0 (node_count a)

-- a successor of a node is a place
listed_within : (a : GameArrays) → IsGameShape a → (v k : ℕ) → v < node_count a → k < length (listed_at a v)
    → get_or (listed_at a v) k 0 < node_count a
listed_within a shape v k h within =
    let ends = ends_within a shape v h in
    let size = length-between a.successors (start_at a v) (start_at a (v + 1)) ends.1 in
    rw (get_or-between a.successors (start_at a v) (start_at a (v + 1)) k 0 (omega (arith, size)))
    (All-get_or (λ w. w < node_count a) a.successors (start_at a v + k) 0 (omega (arith, size, ends.1)) shape.places)

-- the successors by their identifiers are themselves
identified : (a : GameArrays) → IsGameShape a → (v : ℕ) → v < node_count a
    → map (λ w. (node_at (nodes_in a) w).identifier) (listed_at a v) ≡ listed_at a v
identified a shape v h =
    same_lists _ _ (length-map (listed_at a v) (λ w. (node_at (nodes_in a) w).identifier))
    (λ k d within.
    let inside : k < length (listed_at a v) = omega (arith, length-map (listed_at a v) (λ w. (node_at (nodes_in a) w).identifier)) in
    get_or-map (λ w. (node_at (nodes_in a) w).identifier) (listed_at a v) k 0 d inside
    ∙ ap (λ (node : Node). node.identifier) (node_is a (get_or (listed_at a v) k 0) (listed_within a shape v k h inside))
    ∙ get_or_default (listed_at a v) k 0 d inside)

-- a node of the game as it is specified
specified_is : (a : GameArrays) → IsGameShape a → (v : ℕ) → v < node_count a → specified (nodes_in a) (array_node a v) ≡ spec_of a v
specified_is a shape v h = ap (λ (listed : List ℕ). spec_with a v listed) (identified a shape v h)

-- the specifications of all nodes are those of the game
pub specs_are : (a : GameArrays) → IsGameShape a → map (specified (nodes_in a)) (nodes_in a) ≡ specs_below a (node_count a)
specs_are a shape =
    fill_by_all (spec_of a) (map (specified (nodes_in a)) (nodes_in a)) (node_count a) (spec_of a 0)
    (length-map (nodes_in a) (specified (nodes_in a)) ∙ count_is a)
    (λ k h.
    get_or-map (specified (nodes_in a)) (nodes_in a) k no_node (spec_of a 0) (omega (arith, count_is a))
    ∙ ap (specified (nodes_in a)) (node_is a k h) ∙ specified_is a shape k h)

-- the identifier at a place
identifier_is : (a : GameArrays) (v d : ℕ) → v < node_count a → get_or (identifiers (nodes_in a)) v d ≡ v
identifier_is a v d h =
    get_or-map (λ node. node.identifier) (nodes_in a) v no_node d (omega (arith, count_is a)) ∙ ap (λ (node : Node). node.identifier) (node_is a v h)

-- a node has a successor
continued_at : (a : GameArrays) → IsGameShape a → (v : ℕ) → v < length (nodes_in a) → 0 < length (successors_at (nodes_in a) v)
continued_at a shape v h =
    let inside : v < node_count a = omega (arith, count_is a) in
    let ends = ends_within a shape v inside in
    subst (λ (node : Node). 0 < length node.successors) (sym (node_is a v inside))
    (omega (arith, ends.0, length-between a.successors (start_at a v) (start_at a (v + 1)) ends.1))

-- edges lead to nodes
closed_at : (a : GameArrays) → IsGameShape a → (v w : ℕ) → HasEdge (nodes_in a) v w → w < length (nodes_in a)
closed_at a shape v w edge =
    elim (cases_lt v (node_count a)) [
      | inl inside ↦ inside_at inside (subst (λ (node : Node). Contains node.successors w) (node_is a v inside) edge)
      | inr outside ↦
          let past : node_at (nodes_in a) v ≡ no_node = get_or_past (nodes_in a) v no_node (omega (arith, count_is a)) in
          let none : Contains [] w = subst (λ (node : Node). Contains node.successors w) past edge in absurd (omega (arith, none.1))
    ]
  where
    inside_at : v < node_count a → Contains (listed_at a v) w → w < length (nodes_in a)
    inside_at inside (k, within, is) =
        let below = listed_within a shape v k inside within in
        omega (arith, below, count_is a, sym (get_or_default (listed_at a v) k w 0 within) ∙ is)

pub game_of_shape : (a : GameArrays) → IsGameShape a → IsGame (nodes_in a)
game_of_shape a shape = record {
  inhabited = omega (arith, count_is a, shape.inhabited);
  rising = λ k h.
      let next : k + 1 < node_count a = omega (arith, count_is a, length-map (nodes_in a) (λ (node : Node). node.identifier)) in
      omega (arith, identifier_is a k 0 (omega arith), identifier_is a (k + 1) 0 next);
  continued = continued_at a shape;
  closed = closed_at a shape;
}

-- ---- the limits

-- how many successors the nodes below a place list
listed_below : (a : GameArrays) → IsGameShape a → (v : ℕ) → v ≤ node_count a
    → sum_by (λ (node : Node). length node.successors) (map (array_node a) (range_with_len 0 v)) ≡ start_at a v
listed_below a shape zero h = sym shape.first
listed_below a shape (suc v) h =
    let lengths : Node → ℕ = λ node. length node.successors in
    let ends = ends_within a shape v (omega arith) in
    let size = length-between a.successors (start_at a v) (start_at a (v + 1)) ends.1 in
    let e : v + 1 ≡ suc v = omega arith in
    let P : ℕ → Type 0 = λ n. sum_by lengths (map (array_node a) (range_with_len 0 n)) ≡ start_at a n in
    subst P e
    (omega (arith, sum_by-map-range_with_len_more lengths (array_node a) 0 v v (omega arith), listed_below a shape v (omega arith), size, ends.0))

pub limits_of_shape : (a : GameArrays) → IsGameShape a → node_count a ≤ most_nodes → length a.successors ≤ most_successors → IsWithinLimits (nodes_in a)
limits_of_shape a shape nodes edges = record {
  few_nodes = omega (arith, count_is a);
  few_edges = omega (arith, listed_below a shape (node_count a) (omega arith), shape.last);
  writable = λ v d h.
      let inside : v < node_count a = omega (arith, count_is a) in
      rw (get_or_default (nodes_in a) v d no_node h ∙ node_is a v inside) (record {
        identifier = omega arith;
        priority = All-get_or (λ q. q ≤ most_number) a.priorities v 0 inside shape.priorities;
        name = tt;
      });
}

-- the specifications have this game
pub game_of_specs : (a : GameArrays) → IsGameShape a → IsGameOf (specs_below a (node_count a)) (nodes_in a)
game_of_specs a shape = record {
  game = game_of_shape a shape;
  rearranged = rw (specs_are a shape) (IsPermutation-refl (specs_below a (node_count a)));
}

-- if the specifications have no fault, building them is refused for want of memory alone
pub only_memory : (specs : List NodeSpec) (a : GameArrays) (refusal : Refusal) → game_fault_of specs ≡ None → IsBuildRefusal specs refusal
    → or_game (IsSizeFault a) (or_memory never) refusal
only_memory specs a (Game fault) none h = let e : None ≡ Some fault = sym none ∙ h in cc
only_memory specs a (Text fault) none h = h
only_memory specs a (Automaton fault) none h = h
only_memory specs a (Circuit fault) none h = h
only_memory specs a (Task fault) none h = h
only_memory specs a Memory none h = h
only_memory specs a Io none h = h
