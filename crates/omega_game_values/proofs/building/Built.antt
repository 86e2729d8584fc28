-- Well-formed specifications without a fault have a game: they are sorted, and their successors put under their places.
use Rattle.std.proofs.Common.{◌≡◌, ◌≢◌, ◌==◌, ℕ, ◌<◌, ◌≤◌, ◌⊎◌, inl, inr, false, cond, List, [], length, map, get_or, slice_index, Contains, All, None, refl, sym, ap, ◌∙◌, subst, arith, IsPermutation, eqb-true, ltb-false}
use Rattle.std.proofs.lemmas.Bool.{cases_lt, eqb-false}
use Rattle.std.proofs.lemmas.List.{get_or-map, get_or_past, length-map}
use Rattle.std.proofs.lemmas.List.Elements.{All-contains, Contains-get_or}
use Rattle.std.proofs.lemmas.List.Sorted.{Contains-permutation, IsPermutation-sym, length_permutation, sum_by-IsPermutation}
use Rattle.std.specs.List.Sorted.{IsStrictlyIncreasing}
use Rattle.omega_game_values.specs.declared.node_spec.NodeSpec.{NodeSpec}
use Rattle.omega_game_values.specs.Game.{Node, HasEdge, node_at, no_node, identifiers, successors_at}
use Rattle.omega_game_values.specs.Building.{IsGameOf, IsWellFormed, specified, specified_times, game_fault_of}
use Rattle.omega_game_values.specs.Places.{new_place}
use Rattle.omega_game_values.proofs.elements.Counting.{counted_from}
use Rattle.omega_game_values.proofs.building.Faults.{faultless_from_none}
use Rattle.omega_game_values.proofs.elements.Membership.{Contains-nothing, Contains-under, map-Contains, map-map, map_same, passes_nowhere, place_of_contained}
use Rattle.omega_game_values.proofs.building.Inserting.{sorted_by, IsPermutation-sorted_by, IsNonDecreasingBy-sorted_by, rising_from_once}
use Rattle.omega_game_values.proofs.building.Specified.{identifier_at}

-- specifications of equal parts are equal
same_spec : (a b : NodeSpec) → a.id ≡ b.id → a.priority ≡ b.priority → a.owner ≡ b.owner → a.successors ≡ b.successors → a.name ≡ b.name → a ≡ b
same_spec a b id priority owner successors name =
    λ i. record { id = id i; priority = priority i; owner = owner i; successors = successors i; name = name i }

-- the node of a specification where the nodes have the identifiers by place
abbrev node_of : List ℕ → NodeSpec → Node
node_of ids spec = record {
  identifier = spec.id;
  priority = spec.priority;
  owner = spec.owner;
  successors = map (new_place ids) spec.successors;
  name = spec.name;
}

module _ (specs : List NodeSpec) (some : 0 < length specs) (formed : All IsWellFormed specs) (faultless : game_fault_of specs ≡ None) where
  -- the specifications by rising identifier
  abbrev sorted : List NodeSpec
  sorted = sorted_by (λ spec. spec.id) specs

  -- their identifiers
  abbrev sorted_ids : List ℕ
  sorted_ids = map (λ spec. spec.id) sorted

  -- sorting only moves them
  rearranged : IsPermutation specs sorted
  rearranged = IsPermutation-sorted_by (λ spec. spec.id) specs

  -- each identifier is specified as often
  times_sorted : (id : ℕ) → specified_times sorted id ≡ specified_times specs id
  times_sorted id = sum_by-IsPermutation (λ spec. cond (spec.id == id) 1 0) specs sorted rearranged

  -- what is sorted was given
  given_first : (spec : NodeSpec) → Contains sorted spec → Contains specs spec
  given_first spec = Contains-permutation sorted specs spec (IsPermutation-sym specs sorted rearranged)

  -- no identifier occurs twice, so they rise
  sorted_ids_rise : IsStrictlyIncreasing sorted_ids
  sorted_ids_rise = rising_from_once (λ spec. spec.id) sorted (specified [] no_node) (IsNonDecreasingBy-sorted_by (λ spec. spec.id) specs)
      (λ spec contained.
      let single : specified_times specs spec.id ≤ 1 =
      ltb-false 1 (specified_times specs spec.id) (passes_nowhere _ specs spec (faultless_from_none specs faultless).no_duplicate (given_first spec contained)) in
      omega (arith, times_sorted spec.id))

  -- a listed successor is a specified identifier
  successor_sorted : (spec : NodeSpec) (successor : ℕ) → Contains sorted spec → Contains spec.successors successor → Contains sorted_ids successor
  successor_sorted spec successor contained listed =
      let tested : (specified_times specs successor == 0) ≡ false =
      passes_nowhere _ spec.successors successor (passes_nowhere _ specs spec (faultless_from_none specs faultless).no_undefined (given_first spec contained)) listed in
      let apart : specified_times specs successor ≢ 0 = eqb-false (specified_times specs successor) 0 tested in
      let found = counted_from (λ other. other.id == successor) sorted (omega (arith, times_sorted successor)) in
      subst (Contains sorted_ids) (eqb-true found.0.id successor found.2) (Contains-under (λ other. other.id) sorted found.0 found.1)

  -- the nodes
  abbrev built : List Node
  built = map (node_of sorted_ids) sorted

  -- the nodes have the specified identifiers
  built_ids : identifiers built ≡ sorted_ids
  built_ids = map-map (λ node. node.identifier) (node_of sorted_ids) sorted

  -- each node is that of a specification
  built_at : (v : ℕ) → v < length built → (spec : NodeSpec) × Contains sorted spec × (node_at built v ≡ node_of sorted_ids spec)
  built_at v below =
      let within : v < length sorted = omega (arith, length-map sorted (node_of sorted_ids)) in (
        get_or sorted v (specified [] no_node),
        Contains-get_or sorted v (specified [] no_node) within,
        get_or-map (node_of sorted_ids) sorted v (specified [] no_node) no_node within,
      )

  -- each has a successor
  built_continued : (v : ℕ) → v < length built → 0 < length (successors_at built v)
  built_continued v below =
      let from = built_at v below in
      let well = All-contains IsWellFormed specs from.0 formed (given_first from.0 from.1) in
      omega (arith, well.continued, ap (λ node. length node.successors) from.2, length-map from.0.successors (new_place sorted_ids))

  -- and its successors are nodes
  built_closed : (v w : ℕ) → HasEdge built v w → w < length built
  built_closed v w edge = go (cases_lt v (length built))
    where
      go : (v < length built) ⊎ (length built ≤ v) → w < length built
      go (inr past) = absurd (Contains-nothing w (subst (λ node. Contains node.successors w) (get_or_past built v no_node past) edge))
      go (inl below) =
          let from = built_at v below in
          let target = map-Contains (new_place sorted_ids) from.0.successors w (subst (λ node. Contains node.successors w) from.2 edge) in
          let place = place_of_contained sorted_ids target.0 (successor_sorted from.0 target.0 from.1 target.1) in
          omega (arith, place.below, target.2, length-map sorted (λ spec. spec.id), length-map sorted (node_of sorted_ids))

  -- a node built from a specification is specified so
  respecified : (spec : NodeSpec) → Contains sorted spec → specified built (node_of sorted_ids spec) ≡ spec
  respecified spec contained =
      same_spec (specified built (node_of sorted_ids spec)) spec refl refl refl
      (map-map (λ w. (node_at built w).identifier) (new_place sorted_ids) spec.successors
      ∙ map_same (λ successor. (node_at built (new_place sorted_ids successor)).identifier) spec.successors
      (λ successor listed.
      identifier_at built (new_place sorted_ids successor)
      ∙ ap (λ all. slice_index all (new_place sorted_ids successor)) built_ids
      ∙ (place_of_contained sorted_ids successor (successor_sorted spec successor contained listed)).holds))
      refl

  -- well-formed specifications without a fault have a game
  pub game_built : IsGameOf specs built
  game_built = record {
    game = record {
      inhabited = omega (arith, some, length-map sorted (node_of sorted_ids), length_permutation specs sorted rearranged);
      rising = subst IsStrictlyIncreasing (sym built_ids) sorted_ids_rise;
      continued = built_continued;
      closed = built_closed;
    };
    rearranged = subst (IsPermutation specs)
        (sym (map-map (specified built) (node_of sorted_ids) sorted ∙ map_same (λ spec. specified built (node_of sorted_ids spec)) sorted respecified)) rearranged;
  }
