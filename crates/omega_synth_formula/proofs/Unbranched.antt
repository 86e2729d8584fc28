-- A complement has no universal branching.
use Rattle.std.proofs.Common.{◌≡◌, ◌==◌, ℕ, ◌+◌, Bool, true, false, ◌||◌, if◌then◌else◌, List, [], ◌∷◌, ◌++◌, length, nat_lt, Option, None, Some, refl, ap, ap₂, ◌∙◌}
use Rattle.std.specs.Prelude.{slice_index_or}
use Rattle.std.specs.List.{AllZip, list_any, range_with_len}
use Rattle.omega_hoa_automaton.specs.Automaton.{Description}
use Rattle.omega_hoa_automaton.specs.Branching.{has_universal_branching, state_branches}
use Rattle.omega_hoa_automaton.specs.Faults.{definitions_of}
use Rattle.omega_hoa_automaton.specs.Meaning.{IsEdgeOf, IsStateOf}
use Rattle.omega_hoa_automaton.specs.declared.edge.Edge.{Edge}
use Rattle.omega_hoa_automaton.specs.declared.state.State.{State}
use Rattle.omega_hoa_edges.specs.AutomatonLabels.{each_by_index, state_among, state_at}
use Rattle.omega_hoa_edges.specs.Determinism.{IsDeterministic}
use Rattle.omega_hoa_label.specs.Raw.{RawLabelTree}
use Rattle.omega_hoa_label_text.specs.Expanding.{Defined}
use Rattle.omega_hoa_syntax.specs.declared.raw_automaton.RawAutomaton.{RawAutomaton}
use Rattle.omega_hoa_syntax.specs.declared.raw_edge.RawEdge.{RawEdge}
use Rattle.omega_hoa_syntax.specs.declared.raw_state.RawState.{RawState}
use Rattle.omega_lang_complement.specs.Complement.{IsComplement}
use Rattle.omega_lang_complement.specs.Written.{IsTurnedAt, IsWrittenComplement, further_edges, sinks, turned_edge, turned_edges}
use Rattle.omega_hoa_automaton.specs.Automaton.{IsAutomaton}
use Rattle.omega_lang_word_laws.proofs.parting.Meant.{starts_are}
use Rattle.omega_lang_word_laws.proofs.parting.Plain.{or_parts}

abbrev lists_two : List ℕ → Bool
lists_two states = nat_lt 1 (length states)

abbrev raw_edge_branches : RawEdge → Bool
raw_edge_branches edge = lists_two edge.targets

abbrev raw_branches : RawState → Bool
raw_branches state = list_any raw_edge_branches state.edges

none_appended : {X : Type 0} (test : X → Bool) (xs ys : List X) → list_any test xs ≡ false → list_any test ys ≡ false → list_any test (xs ++ ys) ≡ false
none_appended test [] ys none rest = rest
none_appended test (x ∷ xs) ys none rest =
    let parts = or_parts (test x) (list_any test xs) none in ap₂ ◌||◌ parts.0 (none_appended test xs ys parts.1 rest)

-- ---- as the complement is written

turned_plain : (count : ℕ) (state : State) (index : ℕ) (edges : List Edge) → list_any (λ (edge : Edge). lists_two edge.targets) edges ≡ false
    → list_any raw_edge_branches (each_by_index (turned_edge count state) index edges) ≡ false
turned_plain count state index [] none = refl
turned_plain count state index (edge ∷ edges) none =
    let parts = or_parts (lists_two edge.targets) (list_any (λ (edge : Edge). lists_two edge.targets) edges) none in
    ap₂ ◌||◌ parts.0 (turned_plain count state (index + 1) edges parts.1)

further_plain : (sink : ℕ) (missing : Option RawLabelTree) → list_any raw_edge_branches (further_edges sink missing) ≡ false
further_plain sink None = refl
further_plain sink (Some label) = refl

state_plain : (states : List State) (number : ℕ) → list_any state_branches states ≡ false → state_branches (state_among states number) ≡ false
state_plain [] number none = refl
state_plain (state ∷ states) number none = go (state.number == number) (state_plain states number parts.1)
  where
    parts : (state_branches state ≡ false) × (list_any state_branches states ≡ false)
    parts = or_parts (state_branches state) (list_any state_branches states) none

    go : (b : Bool) → state_branches (state_among states number) ≡ false → state_branches (if b then state else state_among states number) ≡ false
    go true rest = parts.0
    go false rest = rest

module _ (a : Description) (plain : list_any state_branches a.defined ≡ false) where
  one_plain : (number : ℕ) (raw : RawState) → IsTurnedAt a number raw → raw_branches raw ≡ false
  one_plain number raw turned =
      ap (list_any raw_edge_branches) turned.edges
      ∙ none_appended raw_edge_branches (turned_edges (length a.propositions) (state_at a number)) (further_edges a.states turned.missing)
      (turned_plain (length a.propositions) (state_at a number) 0 (state_at a number).edges (state_plain a.defined number plain))
      (further_plain a.states turned.missing)

  all_plain : (numbers : List ℕ) (raws : List RawState) → AllZip (λ number. IsTurnedAt a number) numbers raws → list_any raw_branches raws ≡ false
  all_plain [] [] all = refl
  all_plain [] (raw ∷ raws) all = absurd all
  all_plain (number ∷ numbers) [] all = absurd all
  all_plain (number ∷ numbers) (raw ∷ raws) all = ap₂ ◌||◌ (one_plain number raw all.0) (all_plain numbers raws all.1)

  sinks_plain : (sink : Bool) → list_any raw_branches (sinks a sink) ≡ false
  sinks_plain true = refl
  sinks_plain false = refl

  raw_plain : (raw : RawAutomaton) → IsWrittenComplement a raw → list_any raw_branches raw.states ≡ false
  raw_plain raw written =
      ap (list_any raw_branches) written.body
      ∙ none_appended raw_branches written.turned (sinks a written.sink) (all_plain (range_with_len 0 a.states) written.turned written.states) (sinks_plain written.sink)

-- ---- and as it is meant

module _ (definitions : List Defined) where
  edges_meant : (raws : List RawEdge) (edges : List Edge) → AllZip (IsEdgeOf definitions) raws edges → list_any raw_edge_branches raws ≡ false
      → list_any (λ (edge : Edge). lists_two edge.targets) edges ≡ false
  edges_meant [] [] all none = refl
  edges_meant [] (edge ∷ edges) all none = absurd all
  edges_meant (raw ∷ raws) [] all none = absurd all
  edges_meant (raw ∷ raws) (edge ∷ edges) all none =
      let parts = or_parts (raw_edge_branches raw) (list_any raw_edge_branches raws) none in
      ap₂ ◌||◌ (ap lists_two all.0.targets ∙ parts.0) (edges_meant raws edges all.1 parts.1)

  states_meant : (raws : List RawState) (states : List State) → AllZip (IsStateOf definitions) raws states → list_any raw_branches raws ≡ false
      → list_any state_branches states ≡ false
  states_meant [] [] all none = refl
  states_meant [] (state ∷ states) all none = absurd all
  states_meant (raw ∷ raws) [] all none = absurd all
  states_meant (raw ∷ raws) (state ∷ states) all none =
      let parts = or_parts (raw_branches raw) (list_any raw_branches raws) none in
      ap₂ ◌||◌ (edges_meant raw.edges state.edges all.0.edges parts.0) (states_meant raws states all.1 parts.1)

start_plain : (starts : List (List ℕ)) (sink : ℕ) → list_any lists_two starts ≡ false → lists_two (slice_index_or starts 0 (sink ∷ [])) ≡ false
start_plain [] sink none = refl
start_plain (start ∷ starts) sink none = (or_parts (lists_two start) (list_any lists_two starts) none).0

pub complement_plain : (a c : Description) → IsDeterministic a → (is : IsComplement a c) → IsAutomaton c → has_universal_branching c ≡ false
complement_plain a c deterministic is is_c =
    let parts = or_parts (list_any lists_two a.starts) (list_any state_branches a.defined) deterministic.plain in
    ap₂ ◌||◌
    (ap (list_any lists_two) (starts_are a c is.0 is.1 is.2 is_c) ∙ ap₂ ◌||◌ (start_plain a.starts a.states parts.0) refl)
    (states_meant (definitions_of is.0) is.0.states c.defined is.2.defined (raw_plain a parts.1 is.0 is.1))
