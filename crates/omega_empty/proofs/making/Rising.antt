-- The identifiers of the table rise, so that each is given once.
use Rattle.std.proofs.Common.{◌≡◌, ℕ, zero, suc, ◌+◌, ◌*◌, ◌<◌, ◌≤◌, Bool, true, false, cond, List, [], ◌∷◌, ◌++◌, length, map, get_or, sym, ap, refl, ◌∙◌, subst, arith, add-zero, zero-add, add-one, le_refl}
use Rattle.std.proofs.Math.Nat.{add-mul, one-mul, zero-mul}
use Rattle.std.proofs.lemmas.List.{length-map}
use Rattle.std.specs.List.{flat_map, range_with_len}
use Rattle.std.specs.List.Sorted.{IsStrictlyIncreasing}
use Rattle.omega_hoa_acceptance.specs.declared.kind.AccKind.{AccKind}
use Rattle.omega_hoa_automaton.specs.Automaton.{BodyEdge, Description, edges_of}
use Rattle.omega_game_values.specs.declared.node_spec.NodeSpec.{NodeSpec}
use Rattle.omega_empty.specs.Counters.{counters}
use Rattle.omega_empty.specs.EmptinessGame.{edge_node, edge_nodes, is_usable, nodes_at, sink_node, span, state_node, table}

-- the identifiers rise, from one number on and below another
abbrev pub Rising : ℕ → ℕ → List NodeSpec → Type 0
Rising low high [] = low ≤ high
Rising low high (spec ∷ specs) = (low ≤ spec.id) × Rising (spec.id + 1) high specs

rising_lower : (low mid high : ℕ) (specs : List NodeSpec) → low ≤ mid → Rising mid high specs → Rising low high specs
rising_lower low mid high [] less rises = omega arith
rising_lower low mid high (spec ∷ specs) less rises = (omega (arith, rises.0), rises.1)

rising_on : (low mid high : ℕ) (xs ys : List NodeSpec) → Rising low mid xs → Rising mid high ys → Rising low high (xs ++ ys)
rising_on low mid high [] ys first second = rising_lower low mid high ys first second
rising_on low mid high (x ∷ xs) ys first second = (first.0, rising_on (x.id + 1) mid high xs ys first.1 second)

-- there are no more of them than numbers
pub rising_length : (low high : ℕ) (specs : List NodeSpec) → Rising low high specs → low + length specs ≤ high
rising_length low high [] rises = omega arith
rising_length low high (spec ∷ specs) rises = omega (arith, rises.0, rising_length (spec.id + 1) high specs rises.1)

-- each is below the next
next_above : (low high : ℕ) (specs : List NodeSpec) → Rising low high specs → (k : ℕ) → suc k < length specs
    → get_or (map (λ (spec : NodeSpec). spec.id) specs) k 0 < get_or (map (λ (spec : NodeSpec). spec.id) specs) (suc k) 0
next_above low high [] rises k below = absurd (omega arith)
next_above low high (spec ∷ []) rises k below = absurd (omega arith)
next_above low high (spec ∷ next ∷ specs) rises zero below = omega (arith, rises.1.0)
next_above low high (spec ∷ next ∷ specs) rises (suc k) below = next_above (spec.id + 1) high (next ∷ specs) rises.1 k (omega arith)

pub increasing : (low high : ℕ) (specs : List NodeSpec) → Rising low high specs → IsStrictlyIncreasing (map (λ (spec : NodeSpec). spec.id) specs)
increasing low high specs rises k below =
    let P : ℕ → Type 0 = λ n. get_or (map (λ (spec : NodeSpec). spec.id) specs) k 0 < get_or (map (λ (spec : NodeSpec). spec.id) specs) n 0 in
    subst P (sym (add-one k)) (next_above low high specs rises k (omega (arith, length-map specs (λ (spec : NodeSpec). spec.id))))

module _ (kind : AccKind) (a : Description) (usable : List Bool) where
  states_rise : (counter state n low high : ℕ) → low ≡ counter * span a + state → low + n ≡ high
      → Rising low high (map (state_node kind a usable counter) (range_with_len state n))
  states_rise counter state zero low high low_is high_is = omega arith
  states_rise counter state (suc n) low high low_is high_is = (
    omega arith,
    rising_lower (counter * span a + state + 1) (low + 1) high (map (state_node kind a usable counter) (range_with_len (state + 1) n)) (omega arith)
        (states_rise counter (state + 1) n (low + 1) high (omega arith) (omega arith)),
  )

  edges_rise : (counter number : ℕ) (edges : List BodyEdge) (low high : ℕ) → low ≡ counter * span a + a.states + number → low + length edges ≡ high
      → Rising low high (edge_nodes kind a usable counter number edges)
  edges_rise counter number [] low high low_is high_is = omega arith
  edges_rise counter number (edge ∷ edges) low high low_is high_is =
      go (is_usable usable number) (edges_rise counter (number + 1) edges (low + 1) high (omega arith) (omega arith))
    where
      go : (b : Bool) → Rising (low + 1) high (edge_nodes kind a usable counter (number + 1) edges)
          → Rising low high (cond b (edge_node kind a counter number edge ∷ edge_nodes kind a usable counter (number + 1) edges) (edge_nodes kind a usable counter (number + 1) edges))
      go true rest =
          (omega arith, rising_lower (counter * span a + a.states + number + 1) (low + 1) high (edge_nodes kind a usable counter (number + 1) edges) (omega arith) rest)
      go false rest = rising_lower low (low + 1) high (edge_nodes kind a usable counter (number + 1) edges) (omega arith) rest

  counter_rises : (counter low high : ℕ) → low ≡ counter * span a → high ≡ low + span a → Rising low high (nodes_at kind a usable counter)
  counter_rises counter low high low_is high_is =
      rising_on low (low + a.states) high (map (state_node kind a usable counter) (range_with_len 0 a.states)) (edge_nodes kind a usable counter 0 (edges_of a))
      (states_rise counter 0 a.states low (low + a.states) (omega arith) refl)
      (edges_rise counter 0 (edges_of a) (low + a.states) high (omega arith) (omega arith))

  counters_rise : (counter n low high : ℕ) → low ≡ counter * span a → high ≡ (counter + n) * span a
      → Rising low high (flat_map (nodes_at kind a usable) (range_with_len counter n))
  counters_rise counter zero low high low_is high_is = omega (arith, ap (λ m. m * span a) (add-zero counter))
  counters_rise counter (suc n) low high low_is high_is =
      let shifted : counter + suc n ≡ (counter + 1) + n = omega arith in
      let more : (counter + 1) * span a ≡ counter * span a + span a = add-mul counter 1 (span a) ∙ ap (λ m. counter * span a + m) (one-mul (span a)) in
      rising_on low (low + span a) high (nodes_at kind a usable counter) (flat_map (nodes_at kind a usable) (range_with_len (counter + 1) n))
      (counter_rises counter low (low + span a) low_is refl)
      (counters_rise (counter + 1) n (low + span a) high (omega (arith, more)) (high_is ∙ ap (λ m. m * span a) shifted))

  -- from 0 up to the sink
  pub table_rises : Rising 0 (counters kind * span a + 1) (table kind a usable)
  table_rises =
      rising_on 0 (counters kind * span a) (counters kind * span a + 1) (flat_map (nodes_at kind a usable) (range_with_len 0 (counters kind))) (sink_node kind a ∷ [])
      (counters_rise 0 (counters kind) 0 (counters kind * span a) (sym (zero-mul (span a))) (ap (λ m. m * span a) (sym (zero-add (counters kind)))))
      (le_refl (counters kind * span a), le_refl (counters kind * span a + 1))
