-- The part of a place is a game within the limits, and its specifications are those of the kept nodes.
use Rattle.std.proofs.Common.{◌≡◌, ◌↔◌, ℕ, ◌+◌, ◌<◌, ◌≤◌, ◌⊎◌, inl, inr, Bool, true, false, cond, not, IsTrue, List, [], ◌∷◌, length, map, filter, slice_index, sum_by, Contains, None, IsPermutation, refl, sym, ap, ap₂, ◌∙◌, subst, arith}
use Rattle.std.proofs.lemmas.Bool.{cases_lt, false≢true}
use Rattle.std.proofs.lemmas.List.{length-map, get_or_default, get_or_past}
use Rattle.std.proofs.lemmas.List.Elements.{All-contains, filter_passes}
use Rattle.std.proofs.lemmas.List.Filters.{length-filter_both, sum_by-filter_both}
use Rattle.std.proofs.lemmas.List.FromFn.{length-range_with_len, get_or-range_with_len, fill_by_all}
use Rattle.std.proofs.lemmas.List.Kept.{AllPairs-from_increasing, IsStrictlyIncreasing-filter}
use Rattle.std.proofs.lemmas.List.Sorted.{IsPermutation-refl}
use Rattle.std.specs.List.{range_with_len}
use Rattle.std.specs.List.Sorted.{IsStrictlyIncreasing}
use Rattle.omega_game_values.specs.declared.node_spec.NodeSpec.{NodeSpec}
use Rattle.omega_game_reaching.specs.Reaching.{mark_at}
use Rattle.omega_game_values.specs.Game.{Node, IsGame, IsWithinLimits, IsWritableNode, HasEdge, node_at, no_node, identifiers, successors_at, successor_count}
use Rattle.omega_game_values.specs.Building.{IsGameOf, specified, game_fault_of}
use Rattle.omega_game_values.specs.Places.{new_place}
use Rattle.omega_game_values.specs.Paths.{Reaches}
use Rattle.omega_game_reaching.specs.Part.{IsPart, IsPartAt, restricted}
use Rattle.omega_game_values.proofs.elements.Counting.{sum_by-map, sum_by_same}
use Rattle.omega_game_values.proofs.building.Faults.{without_fault}
use Rattle.omega_game_values.proofs.elements.Membership.{Contains-here, Contains-there, Contains-cases, Contains-nothing, map-map, place_of_contained}
use Rattle.omega_game_reaching.proofs.Kept.{contained_at, edge_under, kept_is_node, kept_onward, length_part, moved_node, node_at_part, reached_is_node, successors_in_part}
use Rattle.omega_game_values.proofs.building.Specified.{determined, identifier_at}

-- functions that agree on a list give the same list
map_agree : {X Y : Type 0} (f g : X → Y) (xs : List X) → ((x : X) → Contains xs x → f x ≡ g x) → map f xs ≡ map g xs
map_agree f g [] same = refl
map_agree f g (x ∷ xs) same = ap₂ ◌∷◌ (same x (Contains-here x xs)) (map_agree f g xs (λ y contained. same y (Contains-there x y xs contained)))

module _ (nodes part : List Node) (v : ℕ) (kept : List ℕ) (game : IsGame nodes) (is_part : IsPartAt nodes v kept part) where
  -- the identifiers of a part rise
  ids_rise : IsStrictlyIncreasing (identifiers part)
  ids_rise k within =
      let size : length (identifiers part) ≡ length kept = length-map part (λ node. node.identifier) ∙ length_part nodes part v kept game is_part in
      let inside : k + 1 < length kept = omega (arith, within, size) in
      let here : (j : ℕ) → j < length kept → slice_index (identifiers part) j ≡ slice_index (identifiers nodes) (slice_index kept j) =
      λ j below. sym (identifier_at part j) ∙ ap (λ node. node.identifier) (node_at_part nodes part v kept game is_part j below) ∙ identifier_at nodes (slice_index kept j) in
      let last : slice_index kept (k + 1) < length nodes =
      kept_is_node nodes part v kept game is_part (slice_index kept (k + 1)) (contained_at nodes part v kept game is_part (k + 1) inside) in
      omega (
        arith,
        here k (omega (arith, inside)),
        here (k + 1) inside,
        AllPairs-from_increasing (identifiers nodes) game.rising (slice_index kept k) (slice_index kept (k + 1)) 0 (is_part.rising k inside)
            (omega (arith, last, length-map nodes (λ node. node.identifier))),
      )

  -- each node of a part has a successor
  part_continued : (k : ℕ) → k < length part → 0 < length (successors_at part k)
  part_continued k within =
      let below : k < length kept = omega (arith, within, length_part nodes part v kept game is_part) in
      omega (
        arith,
        ap length (successors_in_part nodes part v kept game is_part k below),
        length-map (successors_at nodes (slice_index kept k)) (new_place kept),
        game.continued (slice_index kept k) (kept_is_node nodes part v kept game is_part (slice_index kept k) (contained_at nodes part v kept game is_part k below)),
      )

  -- and only nodes of the part
  part_closed : (k j : ℕ) → HasEdge part k j → j < length part
  part_closed k j edge = go (cases_lt k (length part))
    where
      go : (k < length part) ⊎ (length part ≤ k) → j < length part
      go (inr past) = absurd (Contains-nothing j (subst (λ node. Contains node.successors j) (get_or_past part k no_node past) edge))
      go (inl within) =
          let size : length part ≡ length kept = length_part nodes part v kept game is_part in
          omega (arith, size, (edge_under nodes part v kept game is_part k j (omega (arith, within, size)) edge).below)

  -- a part is a game
  pub part_is_game : v < length nodes → IsGame part
  part_is_game node = record {
    inhabited =
        let found = (is_part.reached v).1 (record { path = []; joined = node; ends = refl }) in
        omega (arith, found.1, length_part nodes part v kept game is_part);
    rising = ids_rise;
    continued = part_continued;
    closed = part_closed;
  }

  -- a kept node is specified in the part as in the game
  respecified : (u : ℕ) → Contains kept u → specified part (moved_node nodes part v kept game is_part u) ≡ specified nodes (node_at nodes u)
  respecified u contained =
      let successors : map (λ w. (node_at part w).identifier) (map (new_place kept) (successors_at nodes u)) ≡ map (λ w. (node_at nodes w).identifier) (successors_at nodes u) =
      map-map (λ w. (node_at part w).identifier) (new_place kept) (successors_at nodes u)
      ∙ map_agree (λ w. (node_at part (new_place kept w)).identifier) (λ w. (node_at nodes w).identifier) (successors_at nodes u)
      (λ w edge.
      let place = place_of_contained kept w (kept_onward nodes part v kept game is_part u w contained edge) in
      ap (λ node. node.identifier) (node_at_part nodes part v kept game is_part (new_place kept w) place.below)
      ∙ ap (λ x. (node_at nodes x).identifier) place.holds) in
      ap (λ (list : List ℕ). record (specified nodes (node_at nodes u)) { successors = list }) successors

  -- the specifications of a part are those of the kept nodes
  pub part_specified : map (specified part) part ≡ map (λ u. specified nodes (node_at nodes u)) kept
  part_specified =
      ap (map (specified part)) is_part.kept_nodes
      ∙ map-map (specified part) (moved_node nodes part v kept game is_part) kept
      ∙ map_agree (λ u. specified part (moved_node nodes part v kept game is_part u)) (λ u. specified nodes (node_at nodes u)) kept respecified

  -- so a part is the game of the specifications of the kept nodes
  pub part_is_game_of : v < length nodes → IsGameOf (map (λ u. specified nodes (node_at nodes u)) kept) part
  part_is_game_of node = record {
    game = part_is_game node;
    rearranged = subst (IsPermutation (map (λ u. specified nodes (node_at nodes u)) kept)) (sym part_specified) (IsPermutation-refl (map (λ u. specified nodes (node_at nodes u)) kept));
  }

-- nodes as the list of those at each place
nodes_by_place : (nodes : List Node) → nodes ≡ map (node_at nodes) (range_with_len 0 (length nodes))
nodes_by_place nodes = fill_by_all (node_at nodes) nodes (length nodes) no_node refl (λ k below. refl)

-- a part whose places are chosen by a test keeps the limits
pub part_within_limits : (nodes part : List Node) (v : ℕ) (p : ℕ → Bool) → IsGame nodes → IsPartAt nodes v (filter p (range_with_len 0 (length nodes))) part
    → IsWithinLimits nodes → IsWithinLimits part
part_within_limits nodes part v p game is_part limits = record {
  few_nodes = omega (arith, limits.few_nodes, length_part nodes part v kept game is_part, length-filter_both p (λ u. not (p u)) (λ u. refl) places, length-range_with_len 0 (length nodes));
  few_edges = omega (arith, limits.few_edges, edges_kept, sum_by-filter_both p (λ u. not (p u)) (λ u. refl) (λ u. length (successors_at nodes u)) places, edges_all);
  writable = λ k d within.
      let below : k < length kept = omega (arith, within, length_part nodes part v kept game is_part) in
      let node : slice_index kept k < length nodes = kept_is_node nodes part v kept game is_part (slice_index kept k) (contained_at nodes part v kept game is_part k below) in
      let old : IsWritableNode (node_at nodes (slice_index kept k)) = limits.writable (slice_index kept k) no_node node in
      subst IsWritableNode (sym (get_or_default part k d no_node within ∙ node_at_part nodes part v kept game is_part k below))
      (record { identifier = old.identifier; priority = old.priority; name = old.name });
}
  where
    places : List ℕ
    places = range_with_len 0 (length nodes)

    kept : List ℕ
    kept = filter p (range_with_len 0 (length nodes))

    edges_kept : successor_count part ≡ sum_by (λ u. length (successors_at nodes u)) (filter p (range_with_len 0 (length nodes)))
    edges_kept =
        ap successor_count is_part.kept_nodes
        ∙ sum_by-map (λ node. length node.successors) (moved_node nodes part v (filter p (range_with_len 0 (length nodes))) game is_part) (filter p (range_with_len 0 (length nodes)))
        ∙ sum_by_same _ (λ u. length (successors_at nodes u)) (filter p (range_with_len 0 (length nodes)))
        (λ u. length-map (successors_at nodes u) (new_place (filter p (range_with_len 0 (length nodes)))))

    edges_all : sum_by (λ u. length (successors_at nodes u)) (range_with_len 0 (length nodes)) ≡ successor_count nodes
    edges_all = sym (ap successor_count (nodes_by_place nodes) ∙ sum_by-map (λ node. length node.successors) (node_at nodes) (range_with_len 0 (length nodes)))

module _ {X : Type 0} (p : X → Bool) where
  -- what passes a test stands in the filtered list
  Contains-filter : (xs : List X) (x : X) → Contains xs x → p x ≡ true → Contains (filter p xs) x
  Contains-filter [] x contained passes = absurd (Contains-nothing x contained)
  Contains-filter (y ∷ xs) x contained passes = go (p y) refl (Contains-filter xs x) (Contains-cases y x xs contained)
    where
      go : (b : Bool) → p y ≡ b → (Contains xs x → p x ≡ true → Contains (filter p xs) x) → (y ≡ x) ⊎ Contains xs x → Contains (cond b (y ∷ filter p xs) (filter p xs)) x
      go true is further (inl same) = subst (Contains (y ∷ filter p xs)) same (Contains-here y (filter p xs))
      go true is further (inr later) = Contains-there y x (filter p xs) (further later passes)
      go false is further (inl same) = absurd (false≢true (sym is ∙ ap p same ∙ passes))
      go false is further (inr later) = further later passes

-- the numbers below n rise
range_rises : (n : ℕ) → IsStrictlyIncreasing (range_with_len 0 n)
range_rises n k within =
    let inside : k + 1 < n = omega (arith, within, length-range_with_len 0 n) in
    omega (arith, get_or-range_with_len 0 n k 0 (omega (arith, inside)), get_or-range_with_len 0 n (k + 1) 0 inside)

-- a number below n is among them
range_contains : (n u : ℕ) → u < n → Contains (range_with_len 0 n) u
range_contains n u below = (u, omega (arith, below, length-range_with_len 0 n), get_or-range_with_len 0 n u u below ∙ omega arith)

module _ (nodes : List Node) (v : ℕ) (marks : List Bool) (game : IsGame nodes) (node : v < length nodes) (reached : (u : ℕ) → IsTrue (mark_at marks u) ↔ Reaches nodes v u) where
  -- the marked places
  abbrev kept_places : List ℕ
  kept_places = filter (mark_at marks) (range_with_len 0 (length nodes))

  -- they are those reached
  kept_reached : (u : ℕ) → Contains kept_places u ↔ Reaches nodes v u
  kept_reached u = (
    λ contained. (reached u).0 (All-contains (λ x. mark_at marks x ≡ true) kept_places u (filter_passes (mark_at marks) (range_with_len 0 (length nodes))) contained),
    λ reaches. Contains-filter (mark_at marks) (range_with_len 0 (length nodes)) u (range_contains (length nodes) u (reached_is_node nodes v u reaches)) ((reached u).1 reaches),
  )

  -- the nodes there are the part
  restricted_is_part : IsPartAt nodes v kept_places (restricted nodes kept_places)
  restricted_is_part = record {
    rising = IsStrictlyIncreasing-filter (mark_at marks) (range_with_len 0 (length nodes)) (range_rises (length nodes));
    reached = kept_reached;
    kept_nodes = refl;
  }

  -- the specifications of the marked nodes
  abbrev pub kept_specs : List NodeSpec
  kept_specs = map (λ u. specified nodes (node_at nodes u)) kept_places

  -- there is one
  pub some_kept : 0 < length kept_specs
  some_kept =
      let found = (kept_reached v).1 (record { path = []; joined = node; ends = refl }) in
      omega (arith, found.1, length-map kept_places (λ u. specified nodes (node_at nodes u)))

  -- they have no fault
  pub kept_faultless : IsWithinLimits nodes → game_fault_of kept_specs ≡ None
  kept_faultless limits =
      without_fault kept_specs (restricted nodes kept_places)
      (part_is_game_of nodes (restricted nodes kept_places) v kept_places game restricted_is_part node)
      (part_within_limits nodes (restricted nodes kept_places) v (mark_at marks) game restricted_is_part limits)

  -- and their game is the part
  pub part_from_specs : (part : List Node) → IsGameOf kept_specs part → IsPart nodes v part
  part_from_specs part given = (
    kept_places,
    record {
      rising = restricted_is_part.rising;
      reached = restricted_is_part.reached;
      kept_nodes = determined kept_specs part (restricted nodes kept_places) given
          (part_is_game_of nodes (restricted nodes kept_places) v kept_places game restricted_is_part node);
    },
  )
