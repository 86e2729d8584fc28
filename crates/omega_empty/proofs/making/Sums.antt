-- The table lists at most two successors for each identifier.
use Rattle.std.proofs.Common.{◌≡◌, ℕ, zero, suc, ◌+◌, ◌*◌, ◌<◌, ◌≤◌, ◌⊎◌, inl, inr, ◌&&◌, Bool, true, false, cond, eqb, List, [], ◌∷◌, length, map, All, sym, ap, refl, ◌∙◌, arith, add-one}
use Rattle.std.specs.List.{flat_map, range_with_len}
use Rattle.std.proofs.Math.Nat.{add-mul, one-mul}
use Rattle.std.proofs.lemmas.Bool.{and_parts, cases_Bool, eqb-true}
use Rattle.std.proofs.lemmas.List.{length-map}
use Rattle.std.proofs.lemmas.List.Elements.{All-head, All-tail}
use Rattle.std.proofs.lemmas.List.Sums.{sum_by-append, sum_by-cons}
use Rattle.omega_hoa_acceptance.specs.declared.kind.AccKind.{AccKind}
use Rattle.omega_hoa_automaton.specs.Automaton.{BodyEdge, Description, edges_of}
use Rattle.omega_game_values.specs.Building.{listed_successors}
use Rattle.omega_game_values.specs.declared.node_spec.NodeSpec.{NodeSpec}
use Rattle.omega_empty.specs.Counters.{counter_after, counters}
use Rattle.omega_empty.specs.EmptinessGame.{edge_id, edge_node, edge_nodes, is_usable, leaving, nodes_at, or_sink, sink_id, sink_node, span, state_id, state_node, table}
use Rattle.omega_lang_runs.specs.Lasso.{marks_of}

abbrev listed : NodeSpec → ℕ
listed spec = length spec.successors

-- how many edges leave the states of a row of states
abbrev leave : List Bool → ℕ → List BodyEdge → ℕ → ℕ → ℕ
leave usable number edges state zero = 0
leave usable number edges state (suc n) = length (leaving usable state number edges) + leave usable number edges (state + 1) n

leave_none : (usable : List Bool) (number state n : ℕ) → leave usable number [] state n ≡ 0
leave_none usable number state zero = refl
leave_none usable number state (suc n) = omega (arith, leave_none usable number (state + 1) n)

-- an edge leaves one state alone: none of those above, or at most one
leave_above : (usable : List Bool) (number : ℕ) (x : BodyEdge) (xs : List BodyEdge) (state n : ℕ) → x.source.number < state
    → leave usable number (x ∷ xs) state n ≡ leave usable (number + 1) xs state n
leave_above usable number x xs state zero above = refl
leave_above usable number x xs state (suc n) above =
    omega (arith, not_leaving (cases_Bool (eqb x.source.number state && is_usable usable number)), leave_above usable number x xs (state + 1) n (omega arith))
  where
    not_leaving : ((eqb x.source.number state && is_usable usable number) ≡ true) ⊎ ((eqb x.source.number state && is_usable usable number) ≡ false)
        → length (leaving usable state number (x ∷ xs)) ≡ length (leaving usable state (number + 1) xs)
    not_leaving (inl test) = absurd (omega (arith, eqb-true x.source.number state (and_parts (eqb x.source.number state) (is_usable usable number) test).0))
    not_leaving (inr test) = rw test refl

leave_more : (usable : List Bool) (number : ℕ) (x : BodyEdge) (xs : List BodyEdge) (state n : ℕ)
    → leave usable number (x ∷ xs) state n ≤ leave usable (number + 1) xs state n + 1
leave_more usable number x xs state zero = omega arith
leave_more usable number x xs state (suc n) =
    elim (cases_Bool (eqb x.source.number state && is_usable usable number)) [
      | inl test ↦
          let same : x.source.number ≡ state = eqb-true x.source.number state (and_parts (eqb x.source.number state) (is_usable usable number) test).0 in
          omega (arith, one_more test, leave_above usable number x xs (state + 1) n (omega arith))
      | inr test ↦ omega (arith, no_more test, leave_more usable number x xs (state + 1) n)
    ]
  where
    one_more : (eqb x.source.number state && is_usable usable number) ≡ true → length (leaving usable state number (x ∷ xs)) ≡ suc (length (leaving usable state (number + 1) xs))
    one_more test = rw test refl

    no_more : (eqb x.source.number state && is_usable usable number) ≡ false → length (leaving usable state number (x ∷ xs)) ≡ length (leaving usable state (number + 1) xs)
    no_more test = rw test refl

leave_all : (usable : List Bool) (number : ℕ) (edges : List BodyEdge) (state n : ℕ) → leave usable number edges state n ≤ length edges
leave_all usable number [] state n = omega (arith, leave_none usable number state n)
leave_all usable number (x ∷ xs) state n = omega (arith, leave_more usable number x xs state n, leave_all usable (number + 1) xs state n)

length-or_sink : (sink : ℕ) (xs : List ℕ) → length (or_sink sink xs) ≤ length xs + 1
length-or_sink sink [] = omega arith
length-or_sink sink (x ∷ xs) = omega arith

module _ (kind : AccKind) (a : Description) (usable : List Bool) where
  states_listed : (counter state n : ℕ) → listed_successors (map (state_node kind a usable counter) (range_with_len state n)) ≤ leave usable 0 (edges_of a) state n + n
  states_listed counter state zero = omega arith
  states_listed counter state (suc n) =
      omega (
        arith,
        sum_by-cons listed (state_node kind a usable counter state) (map (state_node kind a usable counter) (range_with_len (state + 1) n)),
        length-or_sink (sink_id kind a) (map (edge_id a counter) (leaving usable state 0 (edges_of a))),
        length-map (leaving usable state 0 (edges_of a)) (edge_id a counter),
        states_listed counter (state + 1) n,
      )

  edges_listed : (counter number : ℕ) (edges : List BodyEdge) → All (λ (e : BodyEdge). length e.edge.targets ≤ 1) edges
      → listed_successors (edge_nodes kind a usable counter number edges) ≤ length edges
  edges_listed counter number [] single = omega arith
  edges_listed counter number (x ∷ xs) single =
      go (is_usable usable number) (edges_listed counter (number + 1) xs (All-tail (λ (e : BodyEdge). length e.edge.targets ≤ 1) x xs single))
    where
      go : (b : Bool) → listed_successors (edge_nodes kind a usable counter (number + 1) xs) ≤ length xs
          → listed_successors (cond b (edge_node kind a counter number x ∷ edge_nodes kind a usable counter (number + 1) xs) (edge_nodes kind a usable counter (number + 1) xs)) ≤ suc (length xs)
      go true rest =
          omega (
            arith,
            rest,
            sum_by-cons listed (edge_node kind a counter number x) (edge_nodes kind a usable counter (number + 1) xs),
            length-map x.edge.targets (state_id a (counter_after kind counter (marks_of x))),
            All-head (λ (e : BodyEdge). length e.edge.targets ≤ 1) x xs single,
          )
      go false rest = omega (arith, rest)

  counters_listed : (from n most : ℕ) → most ≡ n * span a → All (λ (e : BodyEdge). length e.edge.targets ≤ 1) (edges_of a)
      → listed_successors (flat_map (nodes_at kind a usable) (range_with_len from n)) ≤ most + most
  counters_listed from zero most most_is single = omega arith
  counters_listed from (suc n) most most_is single =
      let less : most ≡ n * span a + span a = most_is ∙ ap (λ m. m * span a) (sym (add-one n)) ∙ add-mul n 1 (span a) ∙ ap (λ m. n * span a + m) (one-mul (span a)) in
      omega (
        arith,
        less,
        sum_by-append listed (nodes_at kind a usable from) (flat_map (nodes_at kind a usable) (range_with_len (from + 1) n)),
        sum_by-append listed (map (state_node kind a usable from) (range_with_len 0 a.states)) (edge_nodes kind a usable from 0 (edges_of a)),
        states_listed from 0 a.states,
        leave_all usable 0 (edges_of a) 0 a.states,
        edges_listed from 0 (edges_of a) single,
        counters_listed (from + 1) n (n * span a) refl single,
      )

  pub table_listed : All (λ (e : BodyEdge). length e.edge.targets ≤ 1) (edges_of a)
      → listed_successors (table kind a usable) ≤ counters kind * span a + counters kind * span a + 1
  table_listed single =
      omega (
        arith,
        sum_by-append listed (flat_map (nodes_at kind a usable) (range_with_len 0 (counters kind))) (sink_node kind a ∷ []),
        counters_listed 0 (counters kind) (counters kind * span a) refl single,
      )
