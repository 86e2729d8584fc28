-- Walks through the edges of a component of edges, and past all components.
use Rattle.std.proofs.Common.{◌≡◌, ℕ, ◌<◌, List, [], ◌∷◌, ◌++◌, Contains, length, refl, subst, arith}
use Rattle.std.proofs.lemmas.List.{length-append}
use Rattle.std.proofs.lemmas.List.Elements.{All-contains, Contains-append_left, Contains-append_right}
use Rattle.omega_graph.specs.Walks.{EdgeSet, IsEdgeWalk, MarkedGraph}
use Rattle.omega_graph.proofs.ClosedWalking.{joined, on_edges, walk_in}
use Rattle.omega_graph.specs.Components.{AreAmong, AreConnected, HoldClosedWalks, ShareNoEdge, edge_component_at}
use Rattle.omega_graph.specs.Graph.{listed}
use Rattle.omega_game_values.proofs.elements.Membership.{Contains-here, Contains-there}
use Rattle.omega_answers_game.proofs.Walks.{listed_from, listed_has}

module _ (graph : MarkedGraph) where
  -- an edge of a walk enters the state to which the walk leads
  pub record IsLast (walk : List ℕ) (to : ℕ) : Type 0 where
    pub edge : ℕ
    pub has : Contains walk edge
    pub enters : (graph edge).to ≡ to

  pub last_of : (edges : EdgeSet) (from first : ℕ) (walk : List ℕ) (to : ℕ) → IsEdgeWalk graph edges from (first ∷ walk) to → IsLast (first ∷ walk) to
  last_of edges from first [] to leads = record { edge = first; has = Contains-here first []; enters = leads.2 }
  last_of edges from first (next ∷ walk) to leads =
      let rest : IsLast (next ∷ walk) to = last_of edges (graph first).to next walk to leads.2 in
      record { edge = rest.edge; has = Contains-there first rest.edge (next ∷ walk) rest.has; enters = rest.enters }

  module _ (edges : List ℕ) (groups : List (List ℕ)) (among : AreAmong edges groups) (connected : AreConnected graph groups) (closed : HoldClosedWalks graph edges groups) where
    -- a walk in a group is one in all edges
    wider : (i from : ℕ) (walk : List ℕ) (to : ℕ) → i < length groups → IsEdgeWalk graph (listed (edge_component_at groups i)) from walk to → IsEdgeWalk graph (listed edges) from walk to
    wider i from walk to below leads =
        let group : List ℕ = edge_component_at groups i in
        walk_in graph (listed group) (listed edges) from walk to
        (λ number has. listed_from edges number
        (All-contains (Contains edges) group number (among i [] below) (listed_has group number (on_edges graph (listed group) from walk to leads number has))))
        leads

    -- from where an edge of a group enters, a walk leads to where another one of it does
    pub leads_on : (i e f : ℕ) → i < length groups → Contains (edge_component_at groups i) e → Contains (edge_component_at groups i) f
        → (walk : List ℕ) × IsEdgeWalk graph (listed edges) (graph e).to walk (graph f).to
    leads_on i e f below has_e has_f =
        let group : List ℕ = edge_component_at groups i in
        let there = connected i [] below e f (listed_from group e has_e) (listed_from group f has_f) in
        let last : IsEdgeWalk graph (listed edges) (graph f).from (f ∷ []) (graph f).to = wider i (graph f).from (f ∷ []) (graph f).to below (listed_from group f has_f, refl, refl) in (
          there.0 ++ f ∷ [],
          joined graph (listed edges) (graph e).to there.0 (graph f).from (f ∷ []) (graph f).to (wider i (graph e).to there.0 (graph f).from below there.1) last,
        )

    -- a state to which walks lead from where an edge of a group enters, and from which they lead back there, is entered
    -- by an edge of the group
    pub stays : ShareNoEdge groups → (i e w : ℕ) (there back : List ℕ) → i < length groups → Contains (edge_component_at groups i) e
        → IsEdgeWalk graph (listed edges) (graph e).to there w → IsEdgeWalk graph (listed edges) w back (graph e).to
        → IsLast (edge_component_at groups i) w
    stays apart i e w there back below has ahead behind =
        let group : List ℕ = edge_component_at groups i in
        let round = connected i [] below e e (listed_from group e has) (listed_from group e has) in
        let rest : List ℕ = (e ∷ there) ++ back in
        let edge_is : IsEdgeWalk graph (listed edges) (graph e).from (e ∷ []) (graph e).to = wider i (graph e).from (e ∷ []) (graph e).to below (listed_from group e has, refl, refl) in
        let on : IsEdgeWalk graph (listed edges) (graph e).from (e ∷ there) w = (edge_is.0, refl, ahead) in
        let leads : IsEdgeWalk graph (listed edges) (graph e).to (round.0 ++ rest) (graph e).to =
        joined graph (listed edges) (graph e).to round.0 (graph e).from rest (graph e).to (wider i (graph e).to round.0 (graph e).from below round.1)
        (joined graph (listed edges) (graph e).from (e ∷ there) w back (graph e).to on behind) in
        let longer : 0 < length (round.0 ++ rest) = omega (arith, length-append round.0 rest) in
        let found = closed (round.0 ++ rest) (record { loop_state = (graph e).to; leads = leads; longer = longer }) in
        let own : List ℕ = edge_component_at groups found.0 in
        let in_own : (number : ℕ) → Contains (e ∷ there) number → Contains own number =
        (λ number inside. listed_has own number
        (on_edges graph (listed own) found.2.loop_state (round.0 ++ rest) found.2.loop_state found.2.leads number
        (Contains-append_right round.0 rest number (Contains-append_left (e ∷ there) back number inside)))) in
        let same : found.0 ≡ i = apart found.0 i e (in_own e (Contains-here e there)) has in
        let last : IsLast (e ∷ there) w = last_of (listed edges) (graph e).from e there w on in
        record {
          edge = last.edge;
          has = subst (λ (k : ℕ). Contains (edge_component_at groups k) last.edge) same (in_own last.edge last.has);
          enters = last.enters;
        }

    -- an edge of some group enters the state
    pub record IsInside (state : ℕ) : Type 0 where
      pub index : ℕ
      pub below : index < length groups
      pub last : IsLast (edge_component_at groups index) state

    -- from a state that no group's edge enters, walks that lead back do not leave
    pub stands : (v w : ℕ) (there back : List ℕ) → (IsInside v → ⊥)
        → IsEdgeWalk graph (listed edges) v there w → IsEdgeWalk graph (listed edges) w back v → v ≡ w
    stands v w [] back none ahead behind = ahead
    stands v w (first ∷ there) back none ahead behind =
        let cycle : List ℕ = (first ∷ there) ++ back in
        let leads : IsEdgeWalk graph (listed edges) v cycle v = joined graph (listed edges) v (first ∷ there) w back v ahead behind in
        let found = closed cycle (record { loop_state = v; leads = leads; longer = omega arith }) in
        let own : List ℕ = edge_component_at groups found.0 in
        let last : IsLast cycle v = last_of (listed edges) v first (there ++ back) v leads in
        let has : Contains own last.edge = listed_has own last.edge (on_edges graph (listed own) found.2.loop_state cycle found.2.loop_state found.2.leads last.edge last.has) in
        absurd (none (record { index = found.0; below = found.1; last = record { edge = last.edge; has = has; enters = last.enters } }))
