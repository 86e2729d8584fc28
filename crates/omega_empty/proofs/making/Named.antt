-- Each successor in the table has a node of its own there.
use Rattle.std.proofs.Common.{◌≡◌, ℕ, zero, suc, ◌+◌, ◌<◌, ◌≤◌, ◌⊎◌, inl, inr, ◌&&◌, Bool, true, false, cond, eqb, List, [], ◌∷◌, ◌++◌, length, map, All, sym, ap, refl, ◌∙◌, subst, arith}
use Rattle.std.specs.List.{flat_map, list_any, range_with_len}
use Rattle.std.proofs.lemmas.Bool.{and_parts, cases_eq, eq-eqb, ne_eqb, or_from}
use Rattle.std.proofs.lemmas.List.Elements.{All-head, All-tail}
use Rattle.std.proofs.lemmas.List.Sums.{sum_by-cons}
use Rattle.omega_hoa_acceptance.specs.declared.kind.AccKind.{AccKind}
use Rattle.omega_hoa_automaton.specs.Automaton.{AreBelow, BodyEdge, Description, edge_count, edges_of}
use Rattle.omega_game_values.specs.Building.{has_undefined, specified_times}
use Rattle.omega_game_values.specs.declared.node_spec.NodeSpec.{NodeSpec}
use Rattle.omega_empty.specs.Counters.{counter_after, counters}
use Rattle.omega_empty.specs.EmptinessGame.{edge_id, edge_node, edge_nodes, is_usable, leaving, nodes_at, or_sink, sink_id, sink_node, state_id, state_node, table}
use Rattle.omega_lang_runs.specs.Lasso.{marks_of}
use Rattle.omega_empty.proofs.Counters.{counter_after_below}

-- some specification has the identifier
abbrev pub Named : ℕ → List NodeSpec → Type 0
Named id [] = ⊥
Named id (spec ∷ specs) = (spec.id ≡ id) ⊎ Named id specs

named_left : (id : ℕ) (xs ys : List NodeSpec) → Named id xs → Named id (xs ++ ys)
named_left id [] ys named = absurd named
named_left id (x ∷ xs) ys (inl here) = inl here
named_left id (x ∷ xs) ys (inr later) = inr (named_left id xs ys later)

named_right : (id : ℕ) (xs ys : List NodeSpec) → Named id ys → Named id (xs ++ ys)
named_right id [] ys named = named
named_right id (x ∷ xs) ys named = inr (named_right id xs ys named)

-- it is specified some times
named_times : (id : ℕ) (specs : List NodeSpec) → Named id specs → 0 < specified_times specs id
named_times id [] named = absurd named
named_times id (spec ∷ specs) (inl here) =
    let test : eqb spec.id id ≡ true = eq-eqb spec.id id here in
    let one : ◌≡◌ {A = ℕ} (cond {A = ℕ} (eqb spec.id id) 1 0) 1 = rw test refl in
    omega (arith, one, sum_by-cons (λ (s : NodeSpec). cond {A = ℕ} (eqb s.id id) 1 0) spec specs)
named_times id (spec ∷ specs) (inr later) =
    omega (arith, named_times id specs later, sum_by-cons (λ (s : NodeSpec). cond {A = ℕ} (eqb s.id id) 1 0) spec specs)

-- all of some identifiers are
abbrev pub AllNamed : List NodeSpec → List ℕ → Type 0
AllNamed all [] = Unit {0}
AllNamed all (id ∷ ids) = Named id all × AllNamed all ids

-- and all that some specifications list
abbrev pub IsClosed : List NodeSpec → List NodeSpec → Type 0
IsClosed all [] = Unit {0}
IsClosed all (spec ∷ specs) = AllNamed all spec.successors × IsClosed all specs

closed_on : (all xs ys : List NodeSpec) → IsClosed all xs → IsClosed all ys → IsClosed all (xs ++ ys)
closed_on all [] ys first second = second
closed_on all (x ∷ xs) ys first second = (first.0, closed_on all xs ys first.1 second)

all_specified : (all : List NodeSpec) (ids : List ℕ) → AllNamed all ids → list_any (λ id. eqb (specified_times all id) 0) ids ≡ false
all_specified all [] named = refl
all_specified all (id ∷ ids) named =
    or_from (eqb (specified_times all id) 0) (list_any (λ other. eqb (specified_times all other) 0) ids)
    (ne_eqb (specified_times all id) 0 (λ none. absurd (omega (arith, named_times id all named.0, none)))) (all_specified all ids named.1)

-- so none is undefined
closed_defined : (all specs : List NodeSpec) → IsClosed all specs
    → list_any (λ (spec : NodeSpec). list_any (λ id. eqb (specified_times all id) 0) spec.successors) specs ≡ false
closed_defined all [] closed = refl
closed_defined all (spec ∷ specs) closed =
    or_from (list_any (λ id. eqb (specified_times all id) 0) spec.successors)
    (list_any (λ (other : NodeSpec). list_any (λ id. eqb (specified_times all id) 0) other.successors) specs)
    (all_specified all spec.successors closed.0) (closed_defined all specs closed.1)

module _ (kind : AccKind) (a : Description) (usable : List Bool) where
  named_state : (counter state n s : ℕ) → state ≤ s → s < state + n → Named (state_id a counter s) (map (state_node kind a usable counter) (range_with_len state n))
  named_state counter state zero s least below = absurd (omega arith)
  named_state counter state (suc n) s least below = elim (cases_eq s state) [
    | inl same ↦ inl (ap (state_id a counter) (sym same))
    | inr other ↦ inr (named_state counter (state + 1) n s (omega arith) (omega arith))
  ]

  named_edge : (counter number : ℕ) (edges : List BodyEdge) (e : ℕ) → number ≤ e → e < number + length edges → is_usable usable e ≡ true
      → Named (edge_id a counter e) (edge_nodes kind a usable counter number edges)
  named_edge counter number [] e least below usable_is = absurd (omega arith)
  named_edge counter number (x ∷ xs) e least below usable_is = elim (cases_eq e number) [
    | inl same ↦ first (ap (is_usable usable) (sym same) ∙ usable_is) (ap (edge_id a counter) (sym same))
    | inr other ↦ second (is_usable usable number) (named_edge counter (number + 1) xs e (omega arith) (omega arith) usable_is)
  ]
    where
      first : is_usable usable number ≡ true → edge_id a counter number ≡ edge_id a counter e → Named (edge_id a counter e) (edge_nodes kind a usable counter number (x ∷ xs))
      first test same = rw test (inl same)

      second : (b : Bool) → Named (edge_id a counter e) (edge_nodes kind a usable counter (number + 1) xs)
          → Named (edge_id a counter e) (cond b (edge_node kind a counter number x ∷ edge_nodes kind a usable counter (number + 1) xs) (edge_nodes kind a usable counter (number + 1) xs))
      second true later = inr later
      second false later = later

  named_counter : (id from n counter : ℕ) → from ≤ counter → counter < from + n → Named id (nodes_at kind a usable counter)
      → Named id (flat_map (nodes_at kind a usable) (range_with_len from n))
  named_counter id from zero counter least below named = absurd (omega arith)
  named_counter id from (suc n) counter least below named = elim (cases_eq counter from) [
    | inl same ↦ let P : ℕ → Type 0 = λ m. Named id (nodes_at kind a usable m) in
        named_left id (nodes_at kind a usable from) (flat_map (nodes_at kind a usable) (range_with_len (from + 1) n)) (subst P same named)
    | inr other ↦ named_right id (nodes_at kind a usable from) (flat_map (nodes_at kind a usable) (range_with_len (from + 1) n))
        (named_counter id (from + 1) n counter (omega arith) (omega arith) named)
  ]

  -- states, usable edges and the sink are in the table
  pub state_named : (counter state : ℕ) → counter < counters kind → state < a.states → Named (state_id a counter state) (table kind a usable)
  state_named counter state counter_below below =
      named_left (state_id a counter state) (flat_map (nodes_at kind a usable) (range_with_len 0 (counters kind))) (sink_node kind a ∷ [])
      (named_counter (state_id a counter state) 0 (counters kind) counter (omega arith) (omega arith)
      (named_left (state_id a counter state) (map (state_node kind a usable counter) (range_with_len 0 a.states)) (edge_nodes kind a usable counter 0 (edges_of a))
      (named_state counter 0 a.states state (omega arith) (omega arith))))

  pub edge_named : (counter number : ℕ) → counter < counters kind → number < edge_count a → is_usable usable number ≡ true
      → Named (edge_id a counter number) (table kind a usable)
  edge_named counter number counter_below below usable_is =
      named_left (edge_id a counter number) (flat_map (nodes_at kind a usable) (range_with_len 0 (counters kind))) (sink_node kind a ∷ [])
      (named_counter (edge_id a counter number) 0 (counters kind) counter (omega arith) (omega arith)
      (named_right (edge_id a counter number) (map (state_node kind a usable counter) (range_with_len 0 a.states)) (edge_nodes kind a usable counter 0 (edges_of a))
      (named_edge counter 0 (edges_of a) number (omega arith) (omega arith) usable_is)))

  pub sink_named : Named (sink_id kind a) (table kind a usable)
  sink_named = named_right (sink_id kind a) (flat_map (nodes_at kind a usable) (range_with_len 0 (counters kind))) (sink_node kind a ∷ []) (inl refl)

  or_sink_named : (ids : List ℕ) → AllNamed (table kind a usable) ids → AllNamed (table kind a usable) (or_sink (sink_id kind a) ids)
  or_sink_named [] named = (sink_named, tt)
  or_sink_named (id ∷ ids) named = named

  leaving_named : (counter state number : ℕ) (edges : List BodyEdge) → counter < counters kind → number + length edges ≤ edge_count a
      → AllNamed (table kind a usable) (map (edge_id a counter) (leaving usable state number edges))
  leaving_named counter state number [] counter_below within = tt
  leaving_named counter state number (x ∷ xs) counter_below within =
      go (eqb x.source.number state && is_usable usable number) refl (leaving_named counter state (number + 1) xs counter_below (omega arith))
    where
      go : (b : Bool) → (eqb x.source.number state && is_usable usable number) ≡ b
          → AllNamed (table kind a usable) (map (edge_id a counter) (leaving usable state (number + 1) xs))
          → AllNamed (table kind a usable) (map (edge_id a counter) (cond b (number ∷ leaving usable state (number + 1) xs) (leaving usable state (number + 1) xs)))
      go true test rest =
          (edge_named counter number counter_below (omega arith) (and_parts (eqb x.source.number state) (is_usable usable number) test).1, rest)
      go false test rest = rest

  states_closed : (counter state n : ℕ) → counter < counters kind → IsClosed (table kind a usable) (map (state_node kind a usable counter) (range_with_len state n))
  states_closed counter state zero counter_below = tt
  states_closed counter state (suc n) counter_below = (
    or_sink_named (map (edge_id a counter) (leaving usable state 0 (edges_of a))) (leaving_named counter state 0 (edges_of a) counter_below (omega arith)),
    states_closed counter (state + 1) n counter_below,
  )

  targets_named : (counter : ℕ) (targets : List ℕ) → counter < counters kind → AreBelow a.states targets → AllNamed (table kind a usable) (map (state_id a counter) targets)
  targets_named counter [] counter_below below = tt
  targets_named counter (t ∷ ts) counter_below below =
      (state_named counter t counter_below (All-head (λ m. m < a.states) t ts below), targets_named counter ts counter_below (All-tail (λ m. m < a.states) t ts below))

  edges_closed : (counter number : ℕ) (edges : List BodyEdge) → counter < counters kind → All (λ (e : BodyEdge). AreBelow a.states e.edge.targets) edges
      → IsClosed (table kind a usable) (edge_nodes kind a usable counter number edges)
  edges_closed counter number [] counter_below below = tt
  edges_closed counter number (x ∷ xs) counter_below below =
      go (is_usable usable number)
      (targets_named (counter_after kind counter (marks_of x)) x.edge.targets (counter_after_below kind counter (marks_of x) counter_below)
      (All-head (λ (e : BodyEdge). AreBelow a.states e.edge.targets) x xs below))
      (edges_closed counter (number + 1) xs counter_below (All-tail (λ (e : BodyEdge). AreBelow a.states e.edge.targets) x xs below))
    where
      go : (b : Bool) → AllNamed (table kind a usable) (map (state_id a (counter_after kind counter (marks_of x))) x.edge.targets)
          → IsClosed (table kind a usable) (edge_nodes kind a usable counter (number + 1) xs)
          → IsClosed (table kind a usable) (cond b (edge_node kind a counter number x ∷ edge_nodes kind a usable counter (number + 1) xs) (edge_nodes kind a usable counter (number + 1) xs))
      go true targets rest = (targets, rest)
      go false targets rest = rest

  counters_closed : (from n : ℕ) → from + n ≤ counters kind → All (λ (e : BodyEdge). AreBelow a.states e.edge.targets) (edges_of a)
      → IsClosed (table kind a usable) (flat_map (nodes_at kind a usable) (range_with_len from n))
  counters_closed from zero within below = tt
  counters_closed from (suc n) within below =
      closed_on (table kind a usable) (nodes_at kind a usable from) (flat_map (nodes_at kind a usable) (range_with_len (from + 1) n))
      (closed_on (table kind a usable) (map (state_node kind a usable from) (range_with_len 0 a.states)) (edge_nodes kind a usable from 0 (edges_of a))
      (states_closed from 0 a.states (omega arith)) (edges_closed from 0 (edges_of a) (omega arith) below))
      (counters_closed (from + 1) n (omega arith) below)

  -- no successor of the table is undefined
  pub table_defined : All (λ (e : BodyEdge). AreBelow a.states e.edge.targets) (edges_of a) → has_undefined (table kind a usable) ≡ false
  table_defined below =
      closed_defined (table kind a usable) (table kind a usable)
      (closed_on (table kind a usable) (flat_map (nodes_at kind a usable) (range_with_len 0 (counters kind))) (sink_node kind a ∷ [])
      (counters_closed 0 (counters kind) (omega arith) below) ((sink_named, tt), tt))
