-- A complement has no universal branching: each of its edges is one of the automaton's, or leads to the sink.
use Rattle.std.proofs.Common.{◌≡◌, ◌==◌, ℕ, ◌+◌, Bool, true, false, ◌||◌, if◌then◌else◌, List, [], ◌∷◌, ◌++◌, length, nat_lt, refl, ap, ap₂, ◌∙◌}
use Rattle.std.specs.Prelude.{Option, None, Some, slice_index_or}
use Rattle.std.specs.List.{AllZip, filter_map, list_any, range_with_len}
use Rattle.omega_hoa_automaton.specs.Automaton.{Description}
use Rattle.omega_hoa_automaton.specs.Branching.{has_universal_branching, state_branches}
use Rattle.omega_hoa_automaton.specs.Items.{start_in}
use Rattle.omega_hoa_automaton.specs.Faults.{definitions_of}
use Rattle.omega_hoa_automaton.specs.Meaning.{IsEdgeOf, IsStateOf}
use Rattle.omega_hoa_automaton.specs.declared.edge.Edge.{Edge}
use Rattle.omega_hoa_automaton.specs.declared.state.State.{State}
use Rattle.omega_hoa_edges.specs.AutomatonLabels.{each_by_index, state_among, state_at}
use Rattle.omega_hoa_label.specs.Raw.{RawLabelTree}
use Rattle.omega_hoa_label_text.specs.Expanding.{Defined}
use Rattle.omega_hoa_syntax.specs.declared.raw_edge.RawEdge.{RawEdge}
use Rattle.omega_hoa_syntax.specs.declared.raw_item.RawItem.{RawItem}
use Rattle.omega_hoa_syntax.specs.declared.raw_state.RawState.{RawState}
use Rattle.omega_lang_complement.specs.Complement.{IsComplement}
use Rattle.omega_lang_complement.specs.Written.{IsTurned, IsTurnedAt, further_edges, sinks, turned_edge}
use Rattle.omega_lang_word_laws.proofs.parting.Plain.{or_parts}

abbrev lists_two : List ℕ → Bool
lists_two states = nat_lt 1 (length states)

abbrev edge_branches : RawEdge → Bool
edge_branches edge = lists_two edge.targets

abbrev raw_branches : RawState → Bool
raw_branches state = list_any edge_branches state.edges

any_append : {X : Type 0} (p : X → Bool) (xs ys : List X) → list_any p xs ≡ false → list_any p ys ≡ false → list_any p (xs ++ ys) ≡ false
any_append p [] ys first second = second
any_append p (x ∷ xs) ys first second =
    let parts = or_parts (p x) (list_any p xs) first in
    ap₂ ◌||◌ parts.0 (any_append p xs ys parts.1 second)

-- what is written branches as what is meant
edges_meant : (ds : List Defined) (raws : List RawEdge) (edges : List Edge) → AllZip (IsEdgeOf ds) raws edges → list_any edge_branches raws ≡ false
    → list_any (λ (edge : Edge). lists_two edge.targets) edges ≡ false
edges_meant ds [] [] all none = refl
edges_meant ds [] (edge ∷ edges) all none = absurd all
edges_meant ds (raw ∷ raws) [] all none = absurd all
edges_meant ds (raw ∷ raws) (edge ∷ edges) all none =
    let parts = or_parts (edge_branches raw) (list_any edge_branches raws) none in
    ap₂ ◌||◌ (ap lists_two all.0.targets ∙ parts.0) (edges_meant ds raws edges all.1 parts.1)

states_meant : (ds : List Defined) (raws : List RawState) (states : List State) → AllZip (IsStateOf ds) raws states → list_any raw_branches raws ≡ false
    → list_any state_branches states ≡ false
states_meant ds [] [] all none = refl
states_meant ds [] (state ∷ states) all none = absurd all
states_meant ds (raw ∷ raws) [] all none = absurd all
states_meant ds (raw ∷ raws) (state ∷ states) all none =
    let parts = or_parts (raw_branches raw) (list_any raw_branches raws) none in
    ap₂ ◌||◌ (edges_meant ds raw.edges state.edges all.0.edges parts.0) (states_meant ds raws states all.1 parts.1)

-- a turned state branches as the state does
edges_turned : (count index : ℕ) (state : State) (edges : List Edge) → list_any (λ (edge : Edge). lists_two edge.targets) edges ≡ false
    → list_any edge_branches (each_by_index (turned_edge count state) index edges) ≡ false
edges_turned count index state [] none = refl
edges_turned count index state (edge ∷ edges) none =
    let parts = or_parts (lists_two edge.targets) (list_any (λ (edge : Edge). lists_two edge.targets) edges) none in
    ap₂ ◌||◌ parts.0 (edges_turned count (index + 1) state edges parts.1)

further_plain : (sink : ℕ) (missing : Option RawLabelTree) → list_any edge_branches (further_edges sink missing) ≡ false
further_plain sink None = refl
further_plain sink (Some missing) = refl

state_turned : (count sink : ℕ) (state : State) (raw : RawState) → IsTurned count sink state raw → state_branches state ≡ false → raw_branches raw ≡ false
state_turned count sink state raw turned none =
    ap (list_any edge_branches) turned.edges
    ∙ any_append edge_branches (each_by_index (turned_edge count state) 0 state.edges) (further_edges sink turned.missing)
    (edges_turned count 0 state state.edges none) (further_plain sink turned.missing)

-- so does one among states
among_plain : (states : List State) (number : ℕ) → list_any state_branches states ≡ false → state_branches (state_among states number) ≡ false
among_plain [] number none = refl
among_plain (state ∷ states) number none =
    let parts = or_parts (state_branches state) (list_any state_branches states) none in
    elim (state.number == number) as (λ (b : Bool). state_branches (if b then state else state_among states number) ≡ false) [
      | true ↦ parts.0
      | false ↦ among_plain states number parts.1
    ]

module _ (a : Description) (none : has_universal_branching a ≡ false) where
  abbrev parts : (list_any lists_two a.starts ≡ false) × (list_any state_branches a.defined ≡ false)
  parts = or_parts (list_any lists_two a.starts) (list_any state_branches a.defined) none

  all_turned : (numbers : List ℕ) (raws : List RawState) → AllZip (λ number. IsTurnedAt a number) numbers raws → list_any raw_branches raws ≡ false
  all_turned [] [] all = refl
  all_turned [] (raw ∷ raws) all = absurd all
  all_turned (number ∷ numbers) [] all = absurd all
  all_turned (number ∷ numbers) (raw ∷ raws) all =
      ap₂ ◌||◌ (state_turned (length a.propositions) a.states (state_at a number) raw all.0 (among_plain a.defined number parts.1))
      (all_turned numbers raws all.1)

  sinks_plain : (sink : Bool) → list_any raw_branches (sinks a sink) ≡ false
  sinks_plain true = refl
  sinks_plain false = refl

  start_plain : (starts : List (List ℕ)) → list_any lists_two starts ≡ false → list_any lists_two (slice_index_or starts 0 (a.states ∷ []) ∷ []) ≡ false
  start_plain [] plain = refl
  start_plain (start ∷ starts) plain = ap₂ ◌||◌ (or_parts (lists_two start) (list_any lists_two starts) plain).0 refl

  pub complement_plain : (c : Description) → IsComplement a c → has_universal_branching c ≡ false
  complement_plain c (raw, written, means) =
      ap₂ ◌||◌
      (ap (list_any lists_two) (means.starts ∙ ap (λ (items : List RawItem). filter_map start_in items) written.items) ∙ start_plain a.starts parts.0)
      (states_meant (definitions_of raw) raw.states c.defined means.defined
      (ap (list_any raw_branches) written.body
      ∙ any_append raw_branches written.turned (sinks a written.sink) (all_turned (range_with_len 0 a.states) written.turned written.states) (sinks_plain written.sink)))
