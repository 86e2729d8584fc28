-- What the table contains: the node of a state, of a usable edge, or the sink, each known by its identifier.
use Rattle.std.proofs.Common.{◌≡◌, ℕ, zero, suc, ◌+◌, ◌*◌, ◌<◌, ◌≤◌, ◌⊎◌, inl, inr, ◌&&◌, Bool, true, false, cond, eqb, List, [], ◌∷◌, map, Contains, Some, sym, ap, refl, ◌∙◌, subst, arith, add-zero, zero-add}
use Rattle.std.specs.Prelude.{slice_get}
use Rattle.std.specs.List.{flat_map, range_with_len}
use Rattle.std.proofs.lemmas.Bool.{and_from, cases_order, eq-eqb}
use Rattle.std.proofs.lemmas.List.Elements.{Contains-append_cases}
use Rattle.std.proofs.lemmas.Nat.{mul-add-lt}
use Rattle.std.proofs.lemmas.Option.{slice_get_within}
use Rattle.std.proofs.Math.Nat.{mul_comm}
use Rattle.omega_hoa_acceptance.specs.declared.kind.AccKind.{AccKind}
use Rattle.omega_hoa_automaton.specs.Automaton.{BodyEdge, Description, edge_at, edge_count, edges_of}
use Rattle.omega_game_values.specs.declared.node_spec.NodeSpec.{NodeSpec}
use Rattle.omega_empty.specs.Counters.{counters}
use Rattle.omega_empty.specs.EmptinessGame.{edge_id, edge_node, edge_nodes, is_usable, leaving, nodes_at, sink_id, sink_node, span, state_id, state_node, table}

-- a number below a product's rows tells row and column
pub same_digits : (t i x j y : ℕ) → x < t → y < t → i * t + x ≡ j * t + y → (i ≡ j) × (x ≡ y)
same_digits t i x j y x_below y_below same = elim (cases_order i j) [
  | inl rows ↦ (rows, omega (arith, ap (λ m. m * t) rows))
  | inr apart ↦ absurd (elim apart [
    | inl less ↦ omega (arith, mul-add-lt i t x j less x_below, mul_comm t j)
    | inr more ↦ omega (arith, mul-add-lt j t y i more y_below, mul_comm t i)
  ])
]

-- an element is the first or one of the rest
pub first_or_rest : {X : Type 0} (x : X) (xs : List X) (y : X) → Contains (x ∷ xs) y → (x ≡ y) ⊎ Contains xs y
first_or_rest x xs y (zero, below, here) = inl here
first_or_rest x xs y (suc k, below, here) = inr (k, omega arith, here)

module _ (kind : AccKind) (a : Description) (usable : List Bool) where
  -- what a specification of the table is
  pub data IsRow (row : NodeSpec) : Type 0 where
    at_state : (counter state : ℕ) → counter < counters kind → state < a.states → row ≡ state_node kind a usable counter state → IsRow row
    at_edge : (counter number : ℕ) (edge : BodyEdge) → counter < counters kind → number < edge_count a → edge_at a number ≡ Some edge
        → row ≡ edge_node kind a counter number edge → IsRow row
    at_sink : row ≡ sink_node kind a → IsRow row

  in_states : (counter state n : ℕ) (row : NodeSpec) → counter < counters kind → state + n ≤ a.states
      → Contains (map (state_node kind a usable counter) (range_with_len state n)) row → IsRow row
  in_states counter state zero row counter_below within has = absurd (omega (arith, has.1))
  in_states counter state (suc n) row counter_below within has =
      elim (first_or_rest (state_node kind a usable counter state) (map (state_node kind a usable counter) (range_with_len (state + 1) n)) row has) [
        | inl here ↦ at_state counter state counter_below (omega arith) (sym here)
        | inr later ↦ in_states counter (state + 1) n row counter_below (omega arith) later
      ]

  in_edges : (counter number : ℕ) (edges : List BodyEdge) (row : NodeSpec) → counter < counters kind
      → ((k : ℕ) (edge : BodyEdge) → slice_get edges k ≡ Some edge → (number + k < edge_count a) × (edge_at a (number + k) ≡ Some edge))
      → Contains (edge_nodes kind a usable counter number edges) row → IsRow row
  in_edges counter number [] row counter_below known has = absurd (omega (arith, has.1))
  in_edges counter number (x ∷ xs) row counter_below known has =
      go (is_usable usable number) has (in_edges counter (number + 1) xs row counter_below
      (λ k edge here. (let e : (number + 1) + k ≡ number + suc k = omega arith in
      let P : ℕ → Type 0 = λ m. (m < edge_count a) × (edge_at a m ≡ Some edge) in subst P (sym e) (known (suc k) edge here))))
    where
      go : (b : Bool) → Contains (cond b (edge_node kind a counter number x ∷ edge_nodes kind a usable counter (number + 1) xs) (edge_nodes kind a usable counter (number + 1) xs)) row
          → (Contains (edge_nodes kind a usable counter (number + 1) xs) row → IsRow row) → IsRow row
      go true has rest = elim (first_or_rest (edge_node kind a counter number x) (edge_nodes kind a usable counter (number + 1) xs) row has) [
        | inl here ↦
            let found = known 0 x refl in
            at_edge counter number x counter_below (omega (arith, found.0)) (ap (edge_at a) (sym (add-zero number)) ∙ found.1) (sym here)
        | inr later ↦ rest later
      ]
      go false has rest = rest has

  in_counters : (from n : ℕ) (row : NodeSpec) → from + n ≤ counters kind → Contains (flat_map (nodes_at kind a usable) (range_with_len from n)) row → IsRow row
  in_counters from zero row within has = absurd (omega (arith, has.1))
  in_counters from (suc n) row within has =
      elim (Contains-append_cases (nodes_at kind a usable from) (flat_map (nodes_at kind a usable) (range_with_len (from + 1) n)) row has) [
        | inl first ↦ elim (Contains-append_cases (map (state_node kind a usable from) (range_with_len 0 a.states)) (edge_nodes kind a usable from 0 (edges_of a)) row first) [
          | inl state ↦ in_states from 0 a.states row (omega arith) (omega arith) state
          | inr edge ↦ in_edges from 0 (edges_of a) row (omega arith) (λ k e here.
              (let P : ℕ → Type 0 = λ m. (m < edge_count a) × (edge_at a m ≡ Some e) in subst P (sym (zero-add k)) (slice_get_within (edges_of a) k e here, here))) edge
        ]
        | inr later ↦ in_counters (from + 1) n row (omega arith) later
      ]

  pub row_of : (row : NodeSpec) → Contains (table kind a usable) row → IsRow row
  row_of row has = elim (Contains-append_cases (flat_map (nodes_at kind a usable) (range_with_len 0 (counters kind))) (sink_node kind a ∷ []) row has) [
    | inl counter ↦ in_counters 0 (counters kind) row (omega arith) counter
    | inr last ↦ elim (first_or_rest (sink_node kind a) [] row last) [ inl here ↦ at_sink (sym here) | inr none ↦ absurd (omega (arith, none.1)) ]
  ]

  -- the sink's identifier is above all others
  below_sink : (counter x : ℕ) → counter < counters kind → x < span a → counter * span a + x ≡ sink_id kind a → ⊥
  below_sink counter x counter_below below same = omega (arith, mul-add-lt counter (span a) x (counters kind) counter_below below, mul_comm (span a) (counters kind))

  -- by the identifier of a state it is the state's node
  pub state_row : (row : NodeSpec) (counter state : ℕ) → counter < counters kind → state < a.states → row.id ≡ state_id a counter state → IsRow row
      → row ≡ state_node kind a usable counter state
  state_row row counter state counter_below below id_is (at_state c s c_below s_below is) =
      let same = same_digits (span a) c s counter state (omega arith) (omega arith) (sym (ap (λ (r : NodeSpec). r.id) is) ∙ id_is) in
      is ∙ ap (λ n. state_node kind a usable n s) same.0 ∙ ap (state_node kind a usable counter) same.1
  state_row row counter state counter_below below id_is (at_edge c number edge c_below number_below here is) =
      let same = same_digits (span a) c (a.states + number) counter state (omega arith) (omega arith) (omega (arith, ap (λ (r : NodeSpec). r.id) is, id_is)) in
      absurd (omega (arith, same.1))
  state_row row counter state counter_below below id_is (at_sink is) =
      absurd (below_sink counter state counter_below (omega arith) (sym id_is ∙ ap (λ (r : NodeSpec). r.id) is))

  -- by the identifier of an edge it is the edge's node
  pub edge_row : (row : NodeSpec) (counter number : ℕ) (edge : BodyEdge) → counter < counters kind → number < edge_count a → edge_at a number ≡ Some edge
      → row.id ≡ edge_id a counter number → IsRow row → row ≡ edge_node kind a counter number edge
  edge_row row counter number edge counter_below below here id_is (at_state c s c_below s_below is) =
      let same = same_digits (span a) c s counter (a.states + number) (omega arith) (omega arith) (omega (arith, ap (λ (r : NodeSpec). r.id) is, id_is)) in
      absurd (omega (arith, same.1))
  edge_row row counter number edge counter_below below here id_is (at_edge c n other c_below n_below there is) =
      let same = same_digits (span a) c (a.states + n) counter (a.states + number) (omega arith) (omega arith) (omega (arith, ap (λ (r : NodeSpec). r.id) is, id_is)) in
      let one : n ≡ number = omega (arith, same.1) in
      let edges_same : other ≡ edge = some_same other edge (sym there ∙ ap (edge_at a) one ∙ here) in
      is ∙ ap (λ m. edge_node kind a m n other) same.0 ∙ ap (λ m. edge_node kind a counter m other) one ∙ ap (edge_node kind a counter number) edges_same
    where
      some_same : (x y : BodyEdge) → Some x ≡ Some y → x ≡ y
      some_same x y e = cc
  edge_row row counter number edge counter_below below here id_is (at_sink is) =
      absurd (below_sink counter (a.states + number) counter_below (omega arith) (omega (arith, ap (λ (r : NodeSpec). r.id) is, id_is)))

  -- a usable edge is among those that leave its state
  pub leaving_has : (state number k : ℕ) (edges : List BodyEdge) (edge : BodyEdge) → slice_get edges k ≡ Some edge → edge.source.number ≡ state
      → is_usable usable (number + k) ≡ true → Contains (leaving usable state number edges) (number + k)
  leaving_has state number k [] edge here leaves usable_is = absurd (none k here)
    where
      none : (k : ℕ) → slice_get [] k ≡ Some edge → ⊥
      none zero e = cc
      none (suc k) e = cc
  leaving_has state number zero (x ∷ xs) edge here leaves usable_is =
      let same : x ≡ edge = some_same x edge here in
      let test : (eqb x.source.number state && is_usable usable number) ≡ true =
      and_from (eqb x.source.number state) (is_usable usable number) (eq-eqb x.source.number state (ap (λ (e : BodyEdge). e.source.number) same ∙ leaves))
      (ap (is_usable usable) (sym (add-zero number)) ∙ usable_is) in
      let P : ℕ → Type 0 = λ m. Contains (leaving usable state number (x ∷ xs)) m in
      subst P (sym (add-zero number)) (rw test (0, omega arith, refl))
    where
      some_same : (x y : BodyEdge) → Some x ≡ Some y → x ≡ y
      some_same x y e = cc
  leaving_has state number (suc k) (x ∷ xs) edge here leaves usable_is =
      let e : (number + 1) + k ≡ number + suc k = omega arith in
      let P : ℕ → Type 0 = λ m. Contains (leaving usable state (number + 1) xs) m in
      go (eqb x.source.number state && is_usable usable number)
      (subst P e (leaving_has state (number + 1) k xs edge here leaves (ap (is_usable usable) e ∙ usable_is)))
    where
      go : (b : Bool) → Contains (leaving usable state (number + 1) xs) (number + suc k)
          → Contains (cond b (number ∷ leaving usable state (number + 1) xs) (leaving usable state (number + 1) xs)) (number + suc k)
      go true rest = (suc rest.0, omega (arith, rest.1), rest.2)
      go false rest = rest
