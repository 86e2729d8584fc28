-- What the table of an emptiness game contains: the states and the usable edges at each counter, and the sink.
use Rattle.std.proofs.Common.{◌≡◌, ℕ, zero, suc, ◌+◌, ◌<◌, ◌⊎◌, inl, inr, ◌==◌, ◌&&◌, Bool, true, false, cond, List, [], ◌∷◌, map, Some, slice_get, Contains, sym, ap, refl, ◌∙◌, subst, arith}
use Rattle.std.specs.List.{flat_map, range_with_len}
use Rattle.std.proofs.lemmas.Bool.{and_parts, eqb-true}
use Rattle.std.proofs.lemmas.List.Elements.{Contains-append_left, Contains-append_right}
use Rattle.std.proofs.lemmas.Option.{none-some, same_Some}
use Rattle.omega_hoa_acceptance.specs.declared.kind.AccKind.{AccKind}
use Rattle.omega_hoa_automaton.specs.Automaton.{BodyEdge, Description, edge_at, edges_of}
use Rattle.omega_game_values.specs.declared.node_spec.NodeSpec.{NodeSpec}
use Rattle.omega_empty.specs.Counters.{counters}
use Rattle.omega_empty.specs.EmptinessGame.{edge_node, edge_nodes, is_usable, leaving, nodes_at, or_sink, sink_node, state_node, table}
use Rattle.omega_game_values.proofs.elements.Membership.{Contains-cases, Contains-here, Contains-nothing, Contains-there}
use Rattle.omega_empty.proofs.meaning.Membership.{contains_joined, contains_mapped, contains_range}

-- what the rest contains is there whether or not something comes first
either_way : {X : Type 0} (b : Bool) (x : X) (xs : List X) (y : X) → Contains xs y → Contains (cond b (x ∷ xs) xs) y
either_way true x xs y within = Contains-there x y xs within
either_way false x xs y within = within

-- what is there comes first, or the rest contains it
of_either : {X : Type 0} (b : Bool) (x : X) (xs : List X) (y : X) → Contains (cond b (x ∷ xs) xs) y → ((b ≡ true) × (x ≡ y)) ⊎ Contains xs y
of_either true x xs y within = elim (Contains-cases x y xs within) [
  | inl here ↦ inl (refl, here)
  | inr later ↦ inr later
]
of_either false x xs y within = inr within

-- the numbers below a count
numbers_below : (n k : ℕ) → k < n → Contains (range_with_len 0 n) k
numbers_below n k below =
    let e : 0 + k ≡ k = omega arith in
    subst (λ m. Contains (range_with_len 0 n) m) e (contains_range 0 n k below)

-- the number of a usable edge among edges that leaves a state
pub record IsLeaving (usable : List Bool) (state from : ℕ) (edges : List BodyEdge) (number : ℕ) : Type 0 where
  pub index : ℕ
  pub edge : BodyEdge
  pub stands : slice_get edges index ≡ Some edge
  pub counted : number ≡ from + index
  pub leaves : edge.source.number ≡ state
  pub is_usable_one : is_usable usable number ≡ true

module _ (usable : List Bool) (state : ℕ) where
  -- each number listed is that of such an edge
  pub leaving_is : (edges : List BodyEdge) (from number : ℕ) → Contains (leaving usable state from edges) number → IsLeaving usable state from edges number
  leaving_is [] from number within = absurd (Contains-nothing number within)
  leaving_is (x ∷ xs) from number within =
      go (of_either ((x.source.number == state) && is_usable usable from) from (leaving usable state (from + 1) xs) number within)
      (leaving_is xs (from + 1) number)
    where
      go : ((((x.source.number == state) && is_usable usable from) ≡ true) × (from ≡ number)) ⊎ Contains (leaving usable state (from + 1) xs) number
          → (Contains (leaving usable state (from + 1) xs) number → IsLeaving usable state (from + 1) xs number)
          → IsLeaving usable state from (x ∷ xs) number
      go (inl here) later =
          let parts = and_parts (x.source.number == state) (is_usable usable from) here.0 in
          record {
            index = 0;
            edge = x;
            stands = refl;
            counted = omega (arith, here.1);
            leaves = eqb-true x.source.number state parts.0;
            is_usable_one = ap (is_usable usable) (sym here.1) ∙ parts.1;
          }
      go (inr there) later =
          let found = later there in
          record {
            index = suc found.index;
            edge = found.edge;
            stands = found.stands;
            counted = omega (arith, found.counted);
            leaves = found.leaves;
            is_usable_one = found.is_usable_one;
          }

-- a list or the sink
pub or_sink_is : (sink : ℕ) (xs : List ℕ) (x : ℕ) → Contains (or_sink sink xs) x → (x ≡ sink) ⊎ Contains xs x
or_sink_is sink [] x within = elim (Contains-cases sink x [] within) [
  | inl here ↦ inl (sym here)
  | inr later ↦ inr later
]
or_sink_is sink (y ∷ ys) x within = inr within

module _ (kind : AccKind) (a : Description) (usable : List Bool) where
  edge_nodes_have : (counter : ℕ) (edges : List BodyEdge) (from number k : ℕ) (edge : BodyEdge) → slice_get edges k ≡ Some edge → number ≡ from + k
      → is_usable usable number ≡ true → Contains (edge_nodes kind a usable counter from edges) (edge_node kind a counter number edge)
  edge_nodes_have counter [] from number k edge stands counted one = absurd (none-some edge stands)
  edge_nodes_have counter (x ∷ xs) from number zero edge stands counted one =
      let e : number ≡ from = omega arith in
      let here : x ≡ edge = same_Some x edge stands in
      let rest = edge_nodes kind a usable counter (from + 1) xs in
      let first : NodeSpec = edge_node kind a counter from x in
      let spec : NodeSpec = edge_node kind a counter number edge in
      let same : first ≡ spec = ap (λ n. edge_node kind a counter n x) (sym e) ∙ ap (edge_node kind a counter number) here in
      let P : Bool → Type 0 = λ b. Contains (cond b (first ∷ rest) rest) spec in
      subst P (sym (ap (is_usable usable) (sym e) ∙ one)) (subst (λ (s : NodeSpec). Contains (first ∷ rest) s) same (Contains-here first rest))
  edge_nodes_have counter (x ∷ xs) from number (suc k) edge stands counted one =
      either_way (is_usable usable from) (edge_node kind a counter from x) (edge_nodes kind a usable counter (from + 1) xs) (edge_node kind a counter number edge)
      (edge_nodes_have counter xs (from + 1) number k edge stands (omega arith) one)

  -- what a counter's nodes contain the table does
  of_counter : (counter : ℕ) (spec : NodeSpec) → counter < counters kind → Contains (nodes_at kind a usable counter) spec → Contains (table kind a usable) spec
  of_counter counter spec below within =
      Contains-append_left (flat_map (nodes_at kind a usable) (range_with_len 0 (counters kind))) (sink_node kind a ∷ []) spec
      (contains_joined (nodes_at kind a usable) (range_with_len 0 (counters kind)) counter spec (numbers_below (counters kind) counter below) within)

  -- the states at each counter
  pub table_has_state : (counter state : ℕ) → counter < counters kind → state < a.states → Contains (table kind a usable) (state_node kind a usable counter state)
  table_has_state counter state counter_below state_below =
      of_counter counter (state_node kind a usable counter state) counter_below
      (Contains-append_left (map (state_node kind a usable counter) (range_with_len 0 a.states)) (edge_nodes kind a usable counter 0 (edges_of a)) (state_node kind a usable counter state)
      (contains_mapped (state_node kind a usable counter) (range_with_len 0 a.states) state (numbers_below a.states state state_below)))

  -- the usable edges at each counter
  pub table_has_edge : (counter number : ℕ) (edge : BodyEdge) → counter < counters kind → edge_at a number ≡ Some edge → is_usable usable number ≡ true
      → Contains (table kind a usable) (edge_node kind a counter number edge)
  table_has_edge counter number edge counter_below stands one =
      let e : number ≡ 0 + number = omega arith in
      of_counter counter (edge_node kind a counter number edge) counter_below
      (Contains-append_right (map (state_node kind a usable counter) (range_with_len 0 a.states)) (edge_nodes kind a usable counter 0 (edges_of a)) (edge_node kind a counter number edge)
      (edge_nodes_have counter (edges_of a) 0 number number edge stands e one))

  -- the sink
  pub table_has_sink : Contains (table kind a usable) (sink_node kind a)
  table_has_sink =
      Contains-append_right (flat_map (nodes_at kind a usable) (range_with_len 0 (counters kind))) (sink_node kind a ∷ []) (sink_node kind a)
      (Contains-here (sink_node kind a) [])
