-- The nodes of edges, state by state and edge by edge.
use Rattle.std.proofs.Common.{◌≡◌, ℕ, suc, ◌+◌, ◌*◌, ◌<◌, ◌≤◌, Bool, true, false, cond, List, [], ◌∷◌, ◌++◌, length, map, take, get_or, sym, ap, refl, ◌∙◌, subst, arith, add-one, add-zero, zero-add, append_assoc}
use Rattle.std.specs.List.{flat_map, range_with_len}
use Rattle.std.proofs.lemmas.Grind.{flat_map-append}
use Rattle.std.proofs.lemmas.List.{append-nil, get_or_read, length-map, length-take-le, nil_from_length, take_more}
use Rattle.omega_hoa_acceptance.specs.declared.kind.AccKind.{AccKind}
use Rattle.omega_hoa_automaton.specs.Automaton.{BodyEdge, Description, edges_from, edges_of}
use Rattle.omega_hoa_automaton.specs.declared.edge.Edge.{Edge}
use Rattle.omega_hoa_automaton.specs.declared.state.State.{State}
use Rattle.omega_game_values.specs.declared.node_spec.NodeSpec.{NodeSpec}
use Rattle.omega_empty.specs.Counters.{counters}
use Rattle.omega_empty.specs.EmptinessGame.{edge_id, edge_node, edge_nodes, is_usable, leaving, nodes_at, or_sink, plain_node, sink_id, span, state_id, state_node, table}
use Rattle.omega_empty.specs.declared.edge_ranges.EdgeRange.{EdgeRange}
use Rattle.omega_empty.specs.private.layout.Nodes.{begun}
use Rattle.omega_empty.specs.private.layout.Ranges.{AreRanges, IsRangeOf, no_range, usable_in}
use Rattle.omega_lang_runs.proofs.Edges.{edges_take, length-edges_from}
use Rattle.omega_empty.proofs.making.Linking.{range_push}

module _ (kind : AccKind) (a : Description) (usable : List Bool) (counter : ℕ) where
  -- the nodes of some edges and then of others
  pub edge_nodes_on : (number : ℕ) (xs ys : List BodyEdge) → edge_nodes kind a usable counter number (xs ++ ys)
      ≡ edge_nodes kind a usable counter number xs ++ edge_nodes kind a usable counter (number + length xs) ys
  edge_nodes_on number [] ys = ap (λ n. edge_nodes kind a usable counter n ys) (sym (add-zero number))
  edge_nodes_on number (x ∷ xs) ys =
      let e : (number + 1) + length xs ≡ number + suc (length xs) = omega arith in
      let rest : edge_nodes kind a usable counter (number + 1) (xs ++ ys)
      ≡ edge_nodes kind a usable counter (number + 1) xs ++ edge_nodes kind a usable counter (number + suc (length xs)) ys =
      edge_nodes_on (number + 1) xs ys ∙ ap (λ n. edge_nodes kind a usable counter (number + 1) xs ++ edge_nodes kind a usable counter n ys) e in
      go (is_usable usable number) rest
    where
      go : (b : Bool) → edge_nodes kind a usable counter (number + 1) (xs ++ ys)
          ≡ edge_nodes kind a usable counter (number + 1) xs ++ edge_nodes kind a usable counter (number + suc (length xs)) ys
          → cond b (edge_node kind a counter number x ∷ edge_nodes kind a usable counter (number + 1) (xs ++ ys)) (edge_nodes kind a usable counter (number + 1) (xs ++ ys))
          ≡ cond b (edge_node kind a counter number x ∷ edge_nodes kind a usable counter (number + 1) xs) (edge_nodes kind a usable counter (number + 1) xs)
          ++ edge_nodes kind a usable counter (number + suc (length xs)) ys
      go true rest = ap (λ list. edge_node kind a counter number x ∷ list) rest
      go false rest = rest

  -- the node of one edge, if it is usable
  abbrev pub one_node : ℕ → BodyEdge → List NodeSpec
  one_node number edge = edge_nodes kind a usable counter number (edge ∷ [])

  -- an edge of a state more
  pub edges_more : (number index : ℕ) (state : State) (edge : Edge) (specs initial new : List NodeSpec) → index < length state.edges
      → edge ≡ get_or state.edges index edge
      → specs ≡ initial ++ edge_nodes kind a usable counter number (take index (edges_from state))
      → new ≡ specs ++ one_node (number + index) (record { source = state; edge = edge })
      → new ≡ initial ++ edge_nodes kind a usable counter number (take (index + 1) (edges_from state))
  edges_more number index state edge specs initial new below here is new_is =
      let ef : List BodyEdge = edges_from state in
      let one : take (index + 1) ef ≡ take index ef ++ record { source = state; edge = edge } ∷ [] = edges_take state index edge below here in
      let long : length (take index ef) ≡ index = length-take-le index ef (subst (λ (n : ℕ). index ≤ n) (sym (length-edges_from state)) (omega arith)) in
      let rows : edge_nodes kind a usable counter number (take (index + 1) ef)
      ≡ edge_nodes kind a usable counter number (take index ef) ++ one_node (number + index) (record { source = state; edge = edge }) =
      ap (edge_nodes kind a usable counter number) one
      ∙ edge_nodes_on number (take index ef) (record { source = state; edge = edge } ∷ [])
      ∙ ap (λ n. edge_nodes kind a usable counter number (take index ef) ++ one_node (number + n) (record { source = state; edge = edge })) long in
      new_is ∙ ap (λ list. list ++ one_node (number + index) (record { source = state; edge = edge })) is
      ∙ append_assoc initial (edge_nodes kind a usable counter number (take index ef)) (one_node (number + index) (record { source = state; edge = edge }))
      ∙ ap (λ list. initial ++ list) (sym rows)

  -- a state more
  pub states_more : (index : ℕ) (states : List State) (state : State) (specs initial new : List NodeSpec) → index < length states
      → state ≡ get_or states index state
      → specs ≡ initial ++ edge_nodes kind a usable counter 0 (flat_map edges_from (take index states))
      → new ≡ specs ++ edge_nodes kind a usable counter (length (flat_map edges_from (take index states))) (edges_from state)
      → new ≡ initial ++ edge_nodes kind a usable counter 0 (flat_map edges_from (take (index + 1) states))
  states_more index states state specs initial new below here is new_is =
      let one : take (index + 1) states ≡ take index states ++ state ∷ [] =
      take_more states index state below ∙ ap (λ s. take index states ++ s ∷ []) (sym here) in
      let flat : flat_map edges_from (take (index + 1) states) ≡ flat_map edges_from (take index states) ++ edges_from state =
      ap (flat_map edges_from) one ∙ flat_map-append edges_from (take index states) (state ∷ []) ∙ ap (λ list. flat_map edges_from (take index states) ++ list) (append-nil (edges_from state)) in
      let rows : edge_nodes kind a usable counter 0 (flat_map edges_from (take (index + 1) states))
      ≡ edge_nodes kind a usable counter 0 (flat_map edges_from (take index states))
      ++ edge_nodes kind a usable counter (length (flat_map edges_from (take index states))) (edges_from state) =
      ap (edge_nodes kind a usable counter 0) flat
      ∙ edge_nodes_on 0 (flat_map edges_from (take index states)) (edges_from state)
      ∙ ap (λ n. edge_nodes kind a usable counter 0 (flat_map edges_from (take index states)) ++ edge_nodes kind a usable counter n (edges_from state)) (zero-add _) in
      new_is ∙ ap (λ list. list ++ edge_nodes kind a usable counter (length (flat_map edges_from (take index states))) (edges_from state)) is
      ∙ append_assoc initial (edge_nodes kind a usable counter 0 (flat_map edges_from (take index states)))
      (edge_nodes kind a usable counter (length (flat_map edges_from (take index states))) (edges_from state))
      ∙ ap (λ list. initial ++ list) (sym rows)

-- the range that is read is that of the state
pub range_read : (a : Description) (ranges : List EdgeRange) (state : ℕ) (range : EdgeRange) → AreRanges a ranges → state < a.states
    → range ≡ get_or ranges state range → IsRangeOf (edges_of a) state range
range_read a ranges state range are below is =
    let within : state < length ranges = omega (arith, are.entries) in
    let P : EdgeRange → Type 0 = λ r. IsRangeOf (edges_of a) state r in
    subst P (sym (get_or_read ranges state range within is no_range)) (are.each state below)

-- a node that was begun is that of its successors, not of the sink
begun_node : (id sink : ℕ) (xs : List ℕ) → 0 < length xs → begun id xs ≡ plain_node id 0 (or_sink sink xs) ∷ []
begun_node id sink [] some = absurd (omega arith)
begun_node id sink (x ∷ xs) some = refl

module _ (kind : AccKind) (a : Description) (usable us : List Bool) (counter state id first : ℕ) (range : EdgeRange) (specs initial : List NodeSpec)
    (exact : IsRangeOf (edges_of a) state range) (same : us ≡ usable) (id_is : id ≡ state_id a counter state) (first_is : first ≡ counter * span a + a.states)
    (is : specs ≡ initial ++ begun id (map (λ n. first + n) (usable_in us range))) where
  abbrev links : List ℕ
  links = map (edge_id a counter) (leaving usable state 0 (edges_of a))

  links_are : map (λ n. first + n) (usable_in us range) ≡ links
  links_are =
      ap (λ from. map (λ n. from + n) (usable_in us range)) first_is
      ∙ ap (λ entries. map (edge_id a counter) (usable_in entries range)) same
      ∙ ap (map (edge_id a counter)) (sym (exact.exact usable))

  now : specs ≡ initial ++ begun (state_id a counter state) links
  now = is ∙ ap (λ list. initial ++ begun id list) links_are ∙ ap (λ n. initial ++ begun n links) id_is

  -- with successors the state's node is there
  pub linked_state : 0 < length (usable_in us range) → specs ≡ initial ++ state_node kind a usable counter state ∷ []
  linked_state some =
      let longer : 0 < length links = omega (arith, ap length links_are, length-map (usable_in us range) (λ n. first + n)) in
      now ∙ ap (λ list. initial ++ list) (begun_node (state_id a counter state) (sink_id kind a) links longer)

  -- without, it is when the sink was linked
  pub unlinked_state : (new : List NodeSpec) (sink : ℕ) → (0 < length (usable_in us range) → ⊥) → sink ≡ sink_id kind a
      → new ≡ specs ++ plain_node id 0 (sink ∷ []) ∷ [] → new ≡ initial ++ state_node kind a usable counter state ∷ []
  unlinked_state new sink none sink_is new_is =
      let empty : links ≡ [] = nil_from_length links (omega (arith, none, ap length links_are, length-map (usable_in us range) (λ n. first + n))) in
      new_is
      ∙ ap (λ list. list ++ plain_node id 0 (sink ∷ []) ∷ []) (now ∙ ap (λ list. initial ++ begun (state_id a counter state) list) empty ∙ append-nil initial)
      ∙ ap (λ n. initial ++ plain_node n 0 (sink ∷ []) ∷ []) id_is
      ∙ ap (λ n. initial ++ plain_node (state_id a counter state) 0 (n ∷ []) ∷ []) sink_is
      ∙ ap (λ list. initial ++ plain_node (state_id a counter state) 0 (or_sink (sink_id kind a) list) ∷ []) (sym empty)

-- one counter more
pub counters_more : (kind : AccKind) (a : Description) (usable : List Bool) (n : ℕ) (specs new : List NodeSpec)
    → specs ≡ flat_map (nodes_at kind a usable) (range_with_len 0 n) → new ≡ specs ++ nodes_at kind a usable n
    → new ≡ flat_map (nodes_at kind a usable) (range_with_len 0 (n + 1))
counters_more kind a usable n specs new is new_is =
    let node : ℕ → List NodeSpec = nodes_at kind a usable in
    let more : flat_map node (range_with_len 0 (n + 1)) ≡ flat_map node (range_with_len 0 n) ++ node n =
    ap (λ m. flat_map node (range_with_len 0 m)) (add-one n) ∙ ap (flat_map node) (range_push 0 n) ∙ flat_map-append node (range_with_len 0 n) ((0 + n) ∷ [])
    ∙ ap (λ m. flat_map node (range_with_len 0 n) ++ (node m ++ [])) (zero-add n) ∙ ap (λ list. flat_map node (range_with_len 0 n) ++ list) (append-nil (node n)) in
    new_is ∙ ap (λ list. list ++ node n) is ∙ sym more

-- and the sink: the table
pub table_made : (kind : AccKind) (a : Description) (usable : List Bool) (n sink : ℕ) (specs new : List NodeSpec)
    → specs ≡ flat_map (nodes_at kind a usable) (range_with_len 0 n) → n ≡ counters kind → sink ≡ sink_id kind a
    → new ≡ specs ++ plain_node sink 1 (sink ∷ []) ∷ [] → new ≡ table kind a usable
table_made kind a usable n sink specs new is n_is sink_is new_is =
    new_is ∙ ap (λ list. list ++ plain_node sink 1 (sink ∷ []) ∷ []) (is ∙ ap (λ m. flat_map (nodes_at kind a usable) (range_with_len 0 m)) n_is)
    ∙ ap (λ m. flat_map (nodes_at kind a usable) (range_with_len 0 (counters kind)) ++ plain_node m 1 (m ∷ []) ∷ []) sink_is
