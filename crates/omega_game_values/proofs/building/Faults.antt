-- The faults of specifications: none where there is a game within the limits,
-- and where there is none their game keeps the limits.
use Rattle.std.proofs.Common.{◌≡◌, ◌==◌, ℕ, ◌<◌, ◌≤◌, Bool, true, false, cond, List, length, map, get_or, Contains, All, Option, Some, None, sum_by, nat_lt, if◌then◌else◌, refl, sym, ◌∙◌, subst, arith, le-ltb, ltb-false, ne_eqb, eq-eqb}
use Rattle.std.proofs.lemmas.List.{get_or-map, length-map}
use Rattle.std.proofs.lemmas.List.Elements.{All-contains}
use Rattle.std.proofs.lemmas.List.Sorted.{Contains-permutation, IsPermutation-sym, length_permutation, sum_by-IsPermutation}
use Rattle.omega_game_values.specs.Limits.{most_nodes, most_successors}
use Rattle.omega_game_values.specs.declared.node_spec.NodeSpec.{NodeSpec}
use Rattle.omega_text.specs.declared.refusal.game.GameFault.{GameFault}
use Rattle.omega_text.specs.declared.refusal.game.GameFault.TheVariants.{DuplicateNode, UndefinedSuccessor, TooManyEdges, TooManyNodes}
use Rattle.omega_game_values.specs.Game.{Node, IsWithinLimits, node_at, no_node, successors_at, successor_count}
use Rattle.omega_game_values.specs.Building.{IsGameOf, IsWellFormed, specified, specified_times, has_duplicate, has_undefined, listed_successors, game_fault_of}
use Rattle.omega_game_values.proofs.elements.Counting.{counted, sum_by-map, sum_by_same}
use Rattle.omega_game_values.proofs.building.Keyed.{once}
use Rattle.omega_game_values.proofs.elements.Membership.{map-Contains, none_passes}
use Rattle.omega_game_values.proofs.building.Specified.{specified_rise}

-- the refusal by four tests in turn
first_fault : Bool → Bool → Bool → Bool → Option GameFault
first_fault a b c d =
    if a then Some DuplicateNode else if b then Some UndefinedSuccessor else if c then Some TooManyNodes else if d then Some TooManyEdges else None

-- none where each test fails
no_fault : (a b c d : Bool) → a ≡ false → b ≡ false → c ≡ false → d ≡ false → first_fault a b c d ≡ None
unfolding first_fault
no_fault a b c d p q r s = rw (p, q, r, s)

-- each test fails
record AllFail (a b c d : Bool) : Type 0 where
  pub first : a ≡ false
  pub second : b ≡ false
  pub third : c ≡ false
  pub fourth : d ≡ false

-- where there is no refusal, each test fails
all_fail : (a b c d : Bool) → first_fault a b c d ≡ None → AllFail a b c d
unfolding first_fault
all_fail true b c d none = absurd (cc)
all_fail false true c d none = absurd (cc)
all_fail false false true d none = absurd (cc)
all_fail false false false true none = absurd (cc)
all_fail false false false false none = record { first = refl; second = refl; third = refl; fourth = refl }

-- the fault of specifications is such a refusal
fault_is : (specs : List NodeSpec) → game_fault_of specs ≡
    first_fault (has_duplicate specs) (has_undefined specs) (nat_lt most_nodes (length specs)) (nat_lt most_successors (listed_successors specs))
unfolding first_fault
fault_is specs = refl

-- specifications without a fault fail each of the four tests
pub record IsFaultless (specs : List NodeSpec) : Type 0 where
  pub no_duplicate : has_duplicate specs ≡ false
  pub no_undefined : has_undefined specs ≡ false
  pub few_nodes : length specs ≤ most_nodes
  pub few_edges : listed_successors specs ≤ most_successors

-- from the refusal
pub faultless_from_none : (specs : List NodeSpec) → game_fault_of specs ≡ None → IsFaultless specs
faultless_from_none specs none =
    let tests = all_fail _ _ _ _ (sym (fault_is specs) ∙ none) in
    record {
      no_duplicate = tests.first;
      no_undefined = tests.second;
      few_nodes = ltb-false most_nodes (length specs) tests.third;
      few_edges = ltb-false most_successors (listed_successors specs) tests.fourth;
    }

module _ (specs : List NodeSpec) (nodes : List Node) (given : IsGameOf specs nodes) where
  -- the specifications by rising identifier
  abbrev ordered : List NodeSpec
  ordered = map (specified nodes) nodes

  -- each identifier is specified as often
  times_kept : (id : ℕ) → specified_times ordered id ≡ specified_times specs id
  times_kept id = sum_by-IsPermutation (λ spec. cond (spec.id == id) 1 0) specs ordered given.rearranged

  -- no identifier is specified twice
  no_duplicate : has_duplicate specs ≡ false
  no_duplicate = none_passes _ specs (λ spec contained.
      le-ltb 1 (specified_times specs spec.id)
      (omega (arith, times_kept spec.id, once (λ other. other.id) ordered spec.id (specified_rise nodes given.game))))

  -- each node is specified
  node_specified : (v : ℕ) → v < length nodes → 0 < specified_times specs (node_at nodes v).identifier
  node_specified v below =
      let there : Contains ordered (specified nodes (node_at nodes v)) =
      (v, omega (arith, length-map nodes (specified nodes)), get_or-map (specified nodes) nodes v no_node (specified nodes (node_at nodes v)) below) in
      let some : 0 < specified_times ordered (node_at nodes v).identifier =
      counted (λ spec. spec.id == (node_at nodes v).identifier) (specified nodes (node_at nodes v)) ordered there (eq-eqb _ _ refl) in
      omega (arith, times_kept (node_at nodes v).identifier)

  -- each listed successor is specified
  successor_specified : (spec : NodeSpec) (successor : ℕ) → Contains specs spec → Contains spec.successors successor → 0 < specified_times specs successor
  successor_specified spec successor contained listed =
      let there = Contains-permutation specs ordered spec given.rearranged contained in
      let v = there.0 in
      let is : spec ≡ specified nodes (node_at nodes v) =
      sym there.2 ∙ get_or-map (specified nodes) nodes v no_node spec (omega (arith, there.1, length-map nodes (specified nodes))) in
      let from = map-Contains (λ w. (node_at nodes w).identifier) (successors_at nodes v) successor
      (subst (λ other. Contains other.successors successor) is listed) in
      subst (λ id. 0 < specified_times specs id) (sym from.2) (node_specified from.0 (given.game.closed v from.0 from.1))

  -- so no successor lacks a specification
  no_undefined : has_undefined specs ≡ false
  no_undefined = none_passes _ specs (λ spec contained.
      none_passes (λ successor. specified_times specs successor == 0) spec.successors (λ successor listed.
      let some : 0 < specified_times specs successor = successor_specified spec successor contained listed in
      ne_eqb (specified_times specs successor) 0 (λ e. omega arith)))

  -- as many successors are listed
  listed_kept : listed_successors specs ≡ successor_count nodes
  listed_kept =
      let kept : listed_successors ordered ≡ listed_successors specs = sum_by-IsPermutation (λ spec. length spec.successors) specs ordered given.rearranged in
      let mapped : listed_successors ordered ≡ sum_by (λ node. length (specified nodes node).successors) nodes =
      sum_by-map (λ spec. length spec.successors) (specified nodes) nodes in
      let same : sum_by (λ node. length (specified nodes node).successors) nodes ≡ successor_count nodes =
      sum_by_same (λ node. length (specified nodes node).successors) (λ node. length node.successors) nodes
      (λ node. length-map node.successors (λ w. (node_at nodes w).identifier)) in
      sym kept ∙ mapped ∙ same

  -- the specifications of a game within the limits have no fault
  pub without_fault : IsWithinLimits nodes → game_fault_of specs ≡ None
  without_fault limits =
      fault_is specs ∙ no_fault _ _ _ _ no_duplicate no_undefined
      (le-ltb most_nodes (length specs) (omega (arith, limits.few_nodes, length_permutation specs ordered given.rearranged, length-map nodes (specified nodes))))
      (le-ltb most_successors (listed_successors specs) (omega (arith, limits.few_edges, listed_kept)))

  -- the specification of each node is given
  node_given : (v : ℕ) (d : Node) → v < length nodes → Contains specs (specified nodes (get_or nodes v d))
  node_given v d below =
      let spec = specified nodes (get_or nodes v d) in
      Contains-permutation ordered specs spec (IsPermutation-sym specs ordered given.rearranged)
      (v, omega (arith, length-map nodes (specified nodes)), get_or-map (specified nodes) nodes v d spec below)

  -- well-formed specifications without a fault have a game within the limits
  pub within_limits : All IsWellFormed specs → game_fault_of specs ≡ None → IsWithinLimits nodes
  within_limits formed none =
      let faultless = faultless_from_none specs none in
      record {
        few_nodes = omega (arith, faultless.few_nodes, length_permutation specs ordered given.rearranged, length-map nodes (specified nodes));
        few_edges = omega (arith, faultless.few_edges, listed_kept);
        writable = λ v d below.
            let well = All-contains IsWellFormed specs (specified nodes (get_or nodes v d)) formed (node_given v d below) in
            record { identifier = well.id; priority = well.priority; name = well.name };
      }
