-- How many nodes the labels of a graph have in all.
use Rattle.std.proofs.Common.{◌≡◌, inl, inr, ◌<◌, ◌≤◌, ◌*◌, ℕ, true, false, Option, List, [], ◌∷◌, length, map, refl, sym, ap, ◌∙◌, arith}
use Rattle.std.specs.Prelude.{◌||◌, nat_lt, sum_by}
use Rattle.std.specs.List.{AllZip, list_any, range_with_len}
use Rattle.std.proofs.lemmas.Bool.{false≢true, le-ltb, ltb-true, or_cases, or_from}
use Rattle.std.proofs.lemmas.List.Elements.{Contains-append_right}
use Rattle.std.proofs.lemmas.List.FromFn.{fill_by_all}
use Rattle.std.proofs.lemmas.List.Sums.{sum_by-cons}
use Rattle.omega_acc.specs.WritingLaws.{WrittenLabelsMean}
use Rattle.omega_hoa_automaton.specs.Faults.{definitions_of, has_large_expression, is_labelled, is_large, label_total, passes, size_of_meaning, size_under, some_meaning}
use Rattle.omega_hoa_automaton.specs.Limits.{most_total_size}
use Rattle.omega_hoa_expression.specs.Limits.{most_size}
use Rattle.omega_hoa_label.specs.Label.{label_size}
use Rattle.omega_hoa_label.specs.Raw.{RawLabelTree}
use Rattle.omega_hoa_label_text.specs.Expanding.{Defined, entries_of, expansion}
use Rattle.omega_hoa_syntax.specs.declared.raw_automaton.RawAutomaton.{RawAutomaton}
use Rattle.omega_hoa_syntax.specs.declared.raw_edge.RawEdge.{RawEdge}
use Rattle.omega_hoa_syntax.specs.declared.raw_state.RawState.{RawState}
use Rattle.omega_ltl_translation.specs.declared.graph.GraphEdge.{GraphEdge}
use Rattle.omega_ltl_translation.specs.declared.joining.JoinedEdge.{JoinedEdge}
use Rattle.omega_ltl_translation.specs.private.Graphs.{edges_of_state}
use Rattle.omega_ltl_translation.specs.private.Joining.{AreFilled, joined_count}
use Rattle.omega_ltl_translation.specs.private.Written.{IsWrittenEdge, IsWrittenGraph, IsWrittenState}
use Rattle.omega_ltl_translation.proofs.Meaning.{no_aliases}

module _ (mean : WrittenLabelsMean) (sets : ℕ) where
  -- an edge
  edge_size : (joined : JoinedEdge) (raw : RawEdge) → IsWrittenEdge sets joined raw → size_under [] raw.label ≤ length joined.cubes.items * 193
  edge_size joined raw is =
      let size : size_under [] raw.label ≡ label_size is.label = ap (size_under []) is.label_is ∙ ap size_of_meaning (mean [] is.label).means in
      omega (arith, size, is.small)

  edge_small : (joined : JoinedEdge) (raw : RawEdge) → length joined.cubes.items ≤ 128 → IsWrittenEdge sets joined raw → passes (λ (label : RawLabelTree). is_large (expansion [] label)) raw.label ≡ false
  edge_small joined raw few is =
      ap (passes (λ (label : RawLabelTree). is_large (expansion [] label))) is.label_is ∙ ap is_large (mean [] is.label).means
      ∙ le-ltb most_size (label_size is.label) (omega (arith, is.small, few))

  -- the edges of a state
  edges_size : (joined : List JoinedEdge) (raw : List RawEdge) → AllZip (IsWrittenEdge sets) joined raw → sum_by (λ (edge : RawEdge). size_under [] edge.label) raw ≤ joined_count joined * 193
  edges_size [] [] are = omega arith
  edges_size [] (edge ∷ raw) are = absurd are
  edges_size (one ∷ joined) [] are = absurd are
  edges_size (one ∷ joined) (edge ∷ raw) are =
      let left = sum_by-cons (λ (e : RawEdge). size_under [] e.label) edge raw in
      let right = sum_by-cons (λ (j : JoinedEdge). length j.cubes.items) one joined in
      let first = edge_size one edge are.0 in
      let rest = edges_size joined raw are.1 in
      omega (arith, left, right, first, rest)

  edges_small : (joined : List JoinedEdge) (raw : List RawEdge) → AreFilled joined → AllZip (IsWrittenEdge sets) joined raw
      → list_any (λ (edge : RawEdge). passes (λ (label : RawLabelTree). is_large (expansion [] label)) edge.label) raw ≡ false
  edges_small [] [] few are = refl
  edges_small [] (edge ∷ raw) few are = absurd are
  edges_small (one ∷ joined) [] few are = absurd are
  edges_small (one ∷ joined) (edge ∷ raw) few are =
      or_from _ _ (edge_small one edge (few one (0, omega arith, refl)).1 are.0) (edges_small joined raw (λ j h. few j (Contains-append_right (one ∷ []) joined j h)) are.1)

  -- a state
  state_size : (number : ℕ) (edges : List GraphEdge) (raw : RawState) → IsWrittenState sets number edges raw → label_total [] raw ≤ length edges * 193
  state_size number edges raw is =
      let bare : size_under [] raw.label ≡ 0 = ap (size_under []) is.label in
      let size = edges_size is.edges_are.joined raw.edges is.edges_are.written in
      omega (arith, bare, size, is.edges_are.are_joined.count)

  state_small : (number : ℕ) (edges : List GraphEdge) (raw : RawState) → IsWrittenState sets number edges raw → is_labelled (λ label. is_large (expansion [] label)) raw ≡ false
  state_small number edges raw is =
      or_from _ _ (ap (passes (λ (label : RawLabelTree). is_large (expansion [] label))) is.label) (edges_small is.edges_are.joined raw.edges is.edges_are.are_joined.filled is.edges_are.written)

  -- states
  states_size : (edges : List (List GraphEdge)) (numbers : List ℕ) (raw : List RawState) → AllZip (λ number. IsWrittenState sets number (edges_of_state edges number)) numbers raw
      → sum_by (label_total []) raw ≤ sum_by length (map (edges_of_state edges) numbers) * 193
  states_size edges [] [] are = omega arith
  states_size edges [] (state ∷ raw) are = absurd are
  states_size edges (number ∷ numbers) [] are = absurd are
  states_size edges (number ∷ numbers) (state ∷ raw) are =
      let left = sum_by-cons (label_total []) state raw in
      let right = sum_by-cons {X = List GraphEdge} length (edges_of_state edges number) (map (edges_of_state edges) numbers) in
      let first = state_size number (edges_of_state edges number) state are.0 in
      let rest = states_size edges numbers raw are.1 in
      omega (arith, left, right, first, rest)

  states_small : (edges : List (List GraphEdge)) (numbers : List ℕ) (raw : List RawState) → AllZip (λ number. IsWrittenState sets number (edges_of_state edges number)) numbers raw
      → list_any (is_labelled (λ label. is_large (expansion [] label))) raw ≡ false
  states_small edges [] [] are = refl
  states_small edges [] (state ∷ raw) are = absurd are
  states_small edges (number ∷ numbers) [] are = absurd are
  states_small edges (number ∷ numbers) (state ∷ raw) are =
      or_from _ _ (state_small number (edges_of_state edges number) state are.0) (states_small edges numbers raw are.1)

-- the edges by their states
all_edges : (edges : List (List GraphEdge)) → edges ≡ map (edges_of_state edges) (range_with_len 0 (length edges))
all_edges edges = fill_by_all (edges_of_state edges) edges (length edges) [] refl (λ k low. refl)

-- if labels pass their limits, there are over so many edges
pub many_edges : WrittenLabelsMean → (name : Option (List ℕ)) (propositions : List (List ℕ)) (sets : ℕ) (edges : List (List GraphEdge)) (raw : RawAutomaton)
    → IsWrittenGraph name propositions sets edges raw → has_large_expression raw ≡ true → 86928 < sum_by length edges
unfolding has_large_expression
many_edges mean name propositions sets edges raw is large = elim (or_cases (some_meaning is_large raw) (nat_lt most_total_size (sum_by (label_total (definitions_of raw)) raw.states)) large) [
  | inl one ↦ absurd (false≢true (sym small ∙ one))
  | inr total ↦ (
      let over = ltb-true most_total_size (sum_by (label_total (definitions_of raw)) raw.states) total in
      let same : sum_by (label_total (definitions_of raw)) raw.states ≡ sum_by (label_total []) raw.states = ap (λ (ds : List Defined). sum_by (label_total ds) raw.states) none in
      let size = states_size mean sets edges (range_with_len 0 (length edges)) raw.states is.states in
      let all : sum_by length edges ≡ sum_by length (map (edges_of_state edges) (range_with_len 0 (length edges))) = ap (λ (es : List (List GraphEdge)). sum_by length es) (all_edges edges) in
      omega (arith, over, same, size, all)
      )
]
  where
    none : definitions_of raw ≡ []
    none = no_aliases name propositions sets edges raw is

    small : some_meaning is_large raw ≡ false
    small = ap (λ (ds : List Defined). list_any (λ entry. is_large entry.meaning) (entries_of [] ds) || list_any (is_labelled (λ label. is_large (expansion ds label))) raw.states) none
        ∙ states_small mean sets edges (range_with_len 0 (length edges)) raw.states is.states
