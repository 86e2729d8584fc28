-- The game that is built of the nodes by position is the game with each node at its position.
use Rattle.std.proofs.Common.{◌≡◌, ℕ, ◌+◌, ◌<◌, ◌≤◌, IfErr, IfOk, IsOkUnless, List, [], ◌∷◌, ◌++◌, None, Result, Ok, Err, Contains, length, map, take, get_or, refl, sym, ap, subst, ◌∙◌, arith}
use Rattle.std.specs.List.{range_with_len}
use Rattle.std.proofs.lemmas.List.{get_or-map, get_or_default, take_more, length-map, map_more}
use Rattle.std.proofs.lemmas.List.Elements.{Contains-get_or}
use Rattle.omega_text.specs.Limits.{most_number}
use Rattle.omega_game_values.specs.declared.player.Player.{Player}
use Rattle.std.proofs.lemmas.List.FromFn.{fill_by_all, get_or-map-range_with_len, length-map-range_with_len, map-range_with_len_more}
use Rattle.std.proofs.lemmas.List.Sorted.{IsPermutation-refl}
use Rattle.std.specs.List.Sorted.{IsPermutation}
use Rattle.omega_game_values.specs.declared.node_spec.NodeSpec.{NodeSpec}
use Rattle.omega_game_values.specs.declared.Refusal.{Refusal}
use Rattle.omega_game_values.specs.declared.Refusal.TheVariants.{Memory}
use Rattle.omega_game_values.specs.Building.{IsBuildRefusal, IsGameOf, specified, with_last, with_successor}
use Rattle.omega_game_values.specs.Game.{Node, IsGame, IsWithinLimits, IsWritableNode, identifiers, no_node, node_at, owner_at, priority_at, successors_at}
use Rattle.omega_game_values.specs.Laws.{GamesHaveNoFault, SpecificationsHaveOneGame}
use Rattle.omega_game_values.proofs.elements.Membership.{map-Contains, map_same}
use Rattle.omega_game_values.proofs.building.Refusals.{memory_alone}
use Rattle.omega_game_values.proofs.building.Collecting.{with_last-push}
use Rattle.omega_lift_schedules.specs.Permutation.{AreInverse}
use Rattle.omega_solve.specs.budget.private.steps.Building.{spec_of, specs_below}
use Rattle.omega_solve.specs.budget.Reordering.{IsMoved, IsReordering}
use Rattle.omega_solve.proofs.within_budget.Games.{edge_from}
use Rattle.omega_solve.proofs.within_budget.Weights.{sum_fits}

-- the node with a position
abbrev node_of : List Node → List ℕ → List ℕ → ℕ → Node
node_of nodes positions places r = record {
  identifier = r;
  priority = priority_at nodes (get_or places r 0);
  owner = owner_at nodes (get_or places r 0);
  successors = map (λ w. get_or positions w 0) (successors_at nodes (get_or places r 0));
  name = None;
}

module _ (nodes : List Node) (positions places : List ℕ) (game : IsGame nodes) (limits : IsWithinLimits nodes) (inverse : AreInverse positions places)
    (positioned : length positions ≡ length nodes) (placed : length places ≡ length nodes) where
  -- the nodes by position
  abbrev pub by_position : List Node
  by_position = map (node_of nodes positions places) (range_with_len 0 (length nodes))

  long : length by_position ≡ length nodes
  long = length-map-range_with_len (node_of nodes positions places) 0 (length nodes)

  at_position : (r : ℕ) → r < length nodes → node_at by_position r ≡ node_of nodes positions places r
  at_position r lt = get_or-map-range_with_len (node_of nodes positions places) 0 (length nodes) r r no_node lt (omega arith)

  place_below : (r : ℕ) → r < length nodes → get_or places r 0 < length nodes
  place_below r lt = omega (arith, (inverse.placed r (omega (arith, placed))).0, positioned)

  position_below : (v : ℕ) → v < length nodes → get_or positions v 0 < length nodes
  position_below v lt = omega (arith, (inverse.positioned v (omega (arith, positioned))).0, placed)

  -- they are the nodes, each at its position
  pub reordering_by_position : IsReordering nodes by_position positions places
  reordering_by_position = record {
    inverse = inverse;
    positioned = positioned;
    placed = placed;
    entries = long;
    moved = λ v lt.
        subst (λ (node : Node). IsMoved positions (node_at nodes v) node) (sym (at_position (get_or positions v 0) (position_below v lt)))
        (subst (λ (u : ℕ). IsMoved positions (node_at nodes u) (node_of nodes positions places (get_or positions v 0))) (inverse.positioned v (omega (arith, positioned))).1
        (record { priority = refl; owner = refl; successors = refl }));
  }

  successor_below : (r u : ℕ) → r < length nodes → Contains (map (λ w. get_or positions w 0) (successors_at nodes (get_or places r 0))) u → u < length nodes
  successor_below r u lt contained =
      let found = map-Contains (λ w. get_or positions w 0) (successors_at nodes (get_or places r 0)) u contained in
      subst (λ (i : ℕ). i < length nodes) (sym found.2) (position_below found.0 (game.closed (get_or places r 0) found.0 found.1))

  identified : (r : ℕ) → r < length nodes → get_or (identifiers by_position) r 0 ≡ r
  identified r lt =
      get_or-map (λ (node : Node). node.identifier) by_position r no_node 0 (omega (arith, lt, long))
      ∙ ap (λ (node : Node). node.identifier) (at_position r lt)

  -- they are a game
  pub game_by_position : IsGame by_position
  game_by_position = record {
    inhabited = omega (arith, game.inhabited, long);
    rising = λ k lt.
        let below : k + 1 < length nodes = omega (arith, lt, length-map by_position (λ (node : Node). node.identifier), long) in
        omega (arith, identified k (omega (arith, below)), identified (k + 1) below);
    continued = λ r lt.
        let below : r < length nodes = omega (arith, lt, long) in
        let some = game.continued (get_or places r 0) (place_below r below) in
        omega (
          arith,
          some,
          length-map (successors_at nodes (get_or places r 0)) (λ w. get_or positions w 0),
          ap (λ (node : Node). length node.successors) (at_position r below),
        );
    closed = λ r u edge.
        let below : r < length nodes = omega (arith, edge_from by_position r u edge, long) in
        omega (arith, long, successor_below r u below (subst (λ (node : Node). Contains node.successors u) (at_position r below) edge));
  }

  -- of the specifications by position
  pub game_of_specs : IsGameOf (specs_below nodes positions places (length nodes)) by_position
  game_of_specs = record {
    game = game_by_position;
    rearranged = subst (IsPermutation (specs_below nodes positions places (length nodes))) (sym specified_by_position) (IsPermutation-refl (specs_below nodes positions places (length nodes)));
  }
    where
      identified_successors : (r : ℕ) → r < length nodes
          → map (λ v. (node_at by_position v).identifier) (map (λ w. get_or positions w 0) (successors_at nodes (get_or places r 0)))
          ≡ map (λ w. get_or positions w 0) (successors_at nodes (get_or places r 0))
      identified_successors r lt =
          map_same (λ v. (node_at by_position v).identifier) _ (λ u contained. ap (λ (node : Node). node.identifier) (at_position u (successor_below r u lt contained)))

      specified_at : (r : ℕ) → r < length nodes → get_or (map (specified by_position) by_position) r (spec_of nodes positions places 0) ≡ spec_of nodes positions places r
      specified_at r lt =
          get_or-map (specified by_position) by_position r no_node (spec_of nodes positions places 0) (omega (arith, lt, long))
          ∙ ap (specified by_position) (at_position r lt)
          ∙ ap (λ (list : List ℕ). record (spec_of nodes positions places r) { successors = list }) (identified_successors r lt)

      specified_by_position : map (specified (map (node_of nodes positions places) (range_with_len 0 (length nodes)))) (map (node_of nodes positions places) (range_with_len 0 (length nodes)))
          ≡ specs_below nodes positions places (length nodes)
      specified_by_position = fill_by_all (spec_of nodes positions places) _ (length nodes) (spec_of nodes positions places 0)
          (length-map by_position (specified by_position) ∙ long) specified_at

  -- within the limits
  pub limits_by_position : IsWithinLimits by_position
  limits_by_position = record {
    few_nodes = omega (arith, limits.few_nodes, long);
    few_edges = omega (
      arith,
      limits.few_edges,
      sum_fits (λ (node : Node). length node.successors) by_position nodes no_node places positions back (placed ∙ sym long) positioned
          (λ r lt. edges_at r (omega (arith, lt, long))),
    );
    writable = λ r d lt.
        let below : r < length nodes = omega (arith, lt, long) in
        let old : IsWritableNode (node_at nodes (get_or places r 0)) = limits.writable (get_or places r 0) no_node (place_below r below) in
        subst IsWritableNode (sym (get_or_default by_position r d no_node lt ∙ at_position r below))
        (record { identifier = omega (arith, below, limits.few_nodes); priority = old.priority; name = tt });
  }
    where
      edges_at : (r : ℕ) → r < length nodes → length (node_at nodes (get_or places r 0)).successors ≡ length (node_at by_position r).successors
      edges_at r lt =
          sym (length-map (successors_at nodes (get_or places r 0)) (λ w. get_or positions w 0))
          ∙ sym (ap (λ (node : Node). length node.successors) (at_position r lt))

      back : AreInverse places positions
      back = record { positioned = inverse.placed; placed = inverse.positioned }

  -- the game built of these specifications is the reordered one
  pub built_reordered : SpecificationsHaveOneGame → (result : Result (List Node) Refusal) → IfOk result (IsGameOf (specs_below nodes positions places (length nodes)))
      → IfOk result (λ other. IsReordering nodes other positions places)
  built_reordered one (Ok other) built = subst (λ (game : List Node). IsReordering nodes game positions places) (one _ by_position other game_of_specs built) reordering_by_position
  built_reordered one (Err refusal) built = tt

  -- and only memory refuses it
  pub memory_reordered : GamesHaveNoFault → (result : Result (List Node) Refusal) → IfErr result (IsBuildRefusal (specs_below nodes positions places (length nodes)))
      → IsOkUnless result Memory
  memory_reordered faultless (Ok other) refused = tt
  memory_reordered faultless (Err refusal) refused = memory_alone (specs_below nodes positions places (length nodes)) refusal (faultless (specs_below nodes positions places (length nodes)) by_position game_of_specs limits_by_position) refused

  -- there is a node
  pub some_specs : 0 < length (specs_below nodes positions places (length nodes))
  some_specs = omega (arith, game.inhabited, length-map-range_with_len (spec_of nodes positions places) 0 (length nodes))

-- one specification more
pub specs_more : (nodes : List Node) (positions places : List ℕ) (count : ℕ)
    → specs_below nodes positions places (count + 1) ≡ specs_below nodes positions places count ++ spec_of nodes positions places count ∷ []
specs_more nodes positions places count = map-range_with_len_more (spec_of nodes positions places) 0 count count (omega arith)

-- the specification with a position, with these of its successors
abbrev pub with_positioned : List Node → List ℕ → List ℕ → ℕ → List ℕ → NodeSpec
with_positioned nodes positions places r list = record (spec_of nodes positions places r) { successors = map (λ w. get_or positions w 0) list }

-- one successor more
pub positioned_more : (nodes : List Node) (positions places : List ℕ) (r : ℕ) (specs : List NodeSpec) (list : List ℕ) (i : ℕ) → i < length list
    → with_last (with_successor (get_or positions (get_or list i 0) 0)) (specs ++ with_positioned nodes positions places r (take i list) ∷ [])
    ≡ specs ++ with_positioned nodes positions places r (take (i + 1) list) ∷ []
positioned_more nodes positions places r specs list i lt =
    with_last-push (with_successor (get_or positions (get_or list i 0) 0)) specs (with_positioned nodes positions places r (take i list))
    ∙ ap (λ (ids : List ℕ). specs ++ record (spec_of nodes positions places r) { successors = ids } ∷ [])
    (sym (map_more (λ w. get_or positions w 0) list i 0 lt))

-- with the first successor alone
pub first_positioned : (nodes : List Node) (positions places : List ℕ) (r v first priority : ℕ) (owner : Player) (list : List ℕ)
    → v ≡ get_or places r 0 → priority ≡ priority_at nodes v → owner ≡ owner_at nodes v → first ≡ get_or positions (get_or list 0 0) 0 → 0 < length list
    → record { id = r; priority = priority; owner = owner; successors = first ∷ []; name = None } ≡ with_positioned nodes positions places r (take 1 list)
first_positioned nodes positions places r v first priority owner list at same_priority same_owner same_first some =
    let listed : take 1 list ≡ get_or list 0 0 ∷ [] = take_more list 0 0 some in
    let ids : first ∷ [] ≡ map (λ w. get_or positions w 0) (take 1 list) =
    ap (λ (id : ℕ). id ∷ []) same_first ∙ sym (ap (map (λ w. get_or positions w 0)) listed) in
    let spec : ℕ → Player → List ℕ → NodeSpec =
    λ p o list. record { id = r; priority = p; owner = o; successors = list; name = None } in
    ap (λ (p : ℕ). spec p owner (first ∷ [])) (same_priority ∙ ap (priority_at nodes) at)
    ∙ ap (λ (o : Player). spec (priority_at nodes (get_or places r 0)) o (first ∷ [])) (same_owner ∙ ap (owner_at nodes) at)
    ∙ ap (spec (priority_at nodes (get_or places r 0)) (owner_at nodes (get_or places r 0))) ids

-- each listed successor has a place, and its position is a number that a text can hold
pub listed_below : (nodes : List Node) (v i : ℕ) (list : List ℕ) → IsGame nodes → list ≡ successors_at nodes v → i < length list → get_or list i 0 < length nodes
listed_below nodes v i list game same lt = game.closed v (get_or list i 0) (subst (λ (ws : List ℕ). Contains ws (get_or list i 0)) same (Contains-get_or list i 0 lt))

pub some_listed : (nodes : List Node) (v : ℕ) (list : List ℕ) → IsGame nodes → v < length nodes → list ≡ successors_at nodes v → 0 < length list
some_listed nodes v list game lt same = omega (arith, game.continued v lt, ap (λ (ws : List ℕ). length ws) same)

pub position_is_number : (nodes : List Node) (positions places : List ℕ) (v : ℕ) → IsWithinLimits nodes → AreInverse positions places → length positions ≡ length nodes
    → length places ≡ length nodes → v < length nodes → get_or positions v 0 ≤ most_number
position_is_number nodes positions places v limits inverse positioned placed lt =
    omega (arith, limits.few_nodes, (inverse.positioned v (omega (arith, positioned))).0, placed)
