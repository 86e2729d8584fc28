-- Controllers and complements do not branch universally.
use Rattle.std.proofs.Common.{◌≡◌, ℕ, suc, ◌+◌, Bool, true, false, nat_lt, if◌then◌else◌, ◌==◌, Option, Some, None, List, [], ◌∷◌, ◌++◌, length, map, refl, sym, ap, subst, ◌∙◌}
use Rattle.std.specs.Prelude.{slice_index_or}
use Rattle.std.specs.List.{AllByRecursion, AllZip, filter_map, list_any, range_with_len}
use Rattle.std.proofs.lemmas.Bool.{or_from, or_parts}
use Rattle.std.proofs.lemmas.List.{length-map}
use Rattle.std.proofs.lemmas.List.Folds.{list_any-append}
use Rattle.omega_hoa_label_text.specs.Expanding.{Defined}
use Rattle.omega_hoa_label.specs.Raw.{RawLabelTree}
use Rattle.omega_hoa_syntax.specs.declared.raw_edge.RawEdge.{RawEdge}
use Rattle.omega_hoa_syntax.specs.declared.raw_state.RawState.{RawState}
use Rattle.omega_hoa_automaton.specs.Automaton.{Description}
use Rattle.omega_hoa_automaton.specs.Branching.{has_universal_branching, state_branches}
use Rattle.omega_hoa_automaton.specs.Faults.{definitions_of}
use Rattle.omega_hoa_automaton.specs.Items.{start_in}
use Rattle.omega_hoa_automaton.specs.Meaning.{IsEdgeOf, IsStateOf}
use Rattle.omega_hoa_automaton.specs.declared.edge.Edge.{Edge}
use Rattle.omega_hoa_automaton.specs.declared.state.State.{State}
use Rattle.omega_lang_complement.specs.Complement.{IsComplement}
use Rattle.omega_hoa_edges.specs.AutomatonLabels.{each_by_index, state_among, state_at}
use Rattle.omega_lang_complement.specs.Written.{IsTurnedAt, further_edges, header, sinks, turned_edge, turned_edges}
use Rattle.omega_synth_text.specs.Winner.{is_kept_edge, kept_edge, kept_edges, kept_state, kept_states, number_of}
use Rattle.omega_answers_synth.specs.Laws.{controller_of}

-- whether a list has two states or more
abbrev pub lists_two : List ℕ → Bool
lists_two states = nat_lt 1 (length states)

abbrev branches : Edge → Bool
branches edge = lists_two edge.targets

abbrev raw_branches : RawEdge → Bool
raw_branches edge = lists_two edge.targets

-- ---- controllers

module _ (a : Description) (controlled kept : List ℕ) (reached : ℕ → Bool) where
  as_many : (states : List ℕ) → lists_two (map (number_of reached) states) ≡ lists_two states
  as_many states = ap (nat_lt 1) (length-map states (number_of reached))

  starts_plain : (starts : List (List ℕ)) → list_any lists_two starts ≡ false → list_any lists_two (map (λ start. map (number_of reached) start) starts) ≡ false
  starts_plain [] none = refl
  starts_plain (start ∷ starts) none =
      let parts = or_parts (lists_two start) (list_any lists_two starts) none in or_from _ _ (as_many start ∙ parts.0) (starts_plain starts parts.1)

  edges_plain : (keeps : ℕ → Bool) (count : ℕ) (state : State) (index number : ℕ) (edges : List Edge) → list_any branches edges ≡ false
      → list_any branches (kept_edges keeps (kept_edge count reached None state) index number edges) ≡ false
  edges_plain keeps count state index number [] none = refl
  edges_plain keeps count state index number (edge ∷ edges) none =
      let parts = or_parts (branches edge) (list_any branches edges) none in go parts.0 (keeps number) (edges_plain keeps count state (suc index) (suc number) edges parts.1)
    where
      rest : List Edge
      rest = kept_edges keeps (kept_edge count reached None state) (suc index) (suc number) edges

      go : branches edge ≡ false → (b : Bool) → list_any branches rest ≡ false → list_any branches (if b then kept_edge count reached None state index edge ∷ rest else rest) ≡ false
      go one true others = or_from _ _ (as_many edge.targets ∙ one) others
      go one false others = others

  states_plain : (keeps : ℕ → Bool) (count number : ℕ) (states : List State) → list_any state_branches states ≡ false
      → list_any state_branches (kept_states (kept_state count keeps reached (λ state. None)) reached number states) ≡ false
  states_plain keeps count number [] none = refl
  states_plain keeps count number (state ∷ states) none =
      let parts = or_parts (state_branches state) (list_any state_branches states) none in
      go parts.0 (reached state.number) (states_plain keeps count (number + length state.edges) states parts.1)
    where
      made : State
      made = kept_state count keeps reached (λ state. None) number state

      rest : List State
      rest = kept_states (kept_state count keeps reached (λ state. None)) reached (number + length state.edges) states

      go : state_branches state ≡ false → (b : Bool) → list_any state_branches rest ≡ false → list_any state_branches (if b then made ∷ rest else rest) ≡ false
      go one true others = or_from _ _ (edges_plain keeps count state 0 number state.edges one) others
      go one false others = others

  pub controller_plain : has_universal_branching a ≡ false → has_universal_branching (controller_of a controlled kept reached) ≡ false
  controller_plain plain =
      let parts = or_parts (list_any lists_two a.starts) (list_any state_branches a.defined) plain in
      or_from _ _ (starts_plain a.starts parts.0) (states_plain (is_kept_edge a kept) (length a.propositions) 0 a.defined parts.1)

-- ---- complements

edges_meant : (definitions : List Defined) (raws : List RawEdge) (edges : List Edge) → AllZip (IsEdgeOf definitions) raws edges → list_any raw_branches raws ≡ false
    → list_any branches edges ≡ false
edges_meant definitions [] [] zip none = refl
edges_meant definitions [] (edge ∷ edges) zip none = absurd zip
edges_meant definitions (raw ∷ raws) [] zip none = absurd zip
edges_meant definitions (raw ∷ raws) (edge ∷ edges) zip none =
    let parts = or_parts (raw_branches raw) (list_any raw_branches raws) none in or_from _ _ (ap lists_two zip.0.targets ∙ parts.0) (edges_meant definitions raws edges zip.1 parts.1)

abbrev IsPlainRaw : RawState → Type 0
IsPlainRaw raw = list_any raw_branches raw.edges ≡ false

states_meant : (definitions : List Defined) (raws : List RawState) (states : List State) → AllZip (IsStateOf definitions) raws states → AllByRecursion IsPlainRaw raws
    → list_any state_branches states ≡ false
states_meant definitions [] [] zip all = refl
states_meant definitions [] (state ∷ states) zip all = absurd zip
states_meant definitions (raw ∷ raws) [] zip all = absurd zip
states_meant definitions (raw ∷ raws) (state ∷ states) zip all =
    or_from _ _ (edges_meant definitions raw.edges state.edges zip.0.edges all.0) (states_meant definitions raws states zip.1 all.1)

module _ (a : Description) (starts_one : list_any lists_two a.starts ≡ false) (states_one : list_any state_branches a.defined ≡ false) where
  among_plain : (states : List State) (number : ℕ) → list_any state_branches states ≡ false → list_any branches (state_among states number).edges ≡ false
  among_plain [] number none = refl
  among_plain (state ∷ states) number none =
      let parts = or_parts (state_branches state) (list_any state_branches states) none in go (state.number == number) parts.0 (among_plain states number parts.1)
    where
      go : (b : Bool) → state_branches state ≡ false → list_any branches (state_among states number).edges ≡ false
          → list_any branches (if b then state else state_among states number).edges ≡ false
      go true one rest = one
      go false one rest = rest

  turned_plain : (count : ℕ) (state : State) (index : ℕ) (edges : List Edge) → list_any branches edges ≡ false → list_any raw_branches (each_by_index (turned_edge count state) index edges) ≡ false
  turned_plain count state index [] none = refl
  turned_plain count state index (edge ∷ edges) none =
      let parts = or_parts (branches edge) (list_any branches edges) none in or_from _ _ parts.0 (turned_plain count state (index + 1) edges parts.1)

  further_plain : (sink : ℕ) (missing : Option RawLabelTree) → list_any raw_branches (further_edges sink missing) ≡ false
  further_plain sink None = refl
  further_plain sink (Some label) = refl

  all_turned : (numbers : List ℕ) (raws : List RawState) → AllZip (λ number. IsTurnedAt a number) numbers raws → AllByRecursion IsPlainRaw raws
  all_turned [] [] zip = tt
  all_turned [] (raw ∷ raws) zip = absurd zip
  all_turned (number ∷ numbers) [] zip = absurd zip
  all_turned (number ∷ numbers) (raw ∷ raws) zip = (
    ap (list_any raw_branches) zip.0.edges
        ∙ list_any-append raw_branches (turned_edges (length a.propositions) (state_at a number)) (further_edges a.states zip.0.missing)
        ∙ or_from _ _ (turned_plain (length a.propositions) (state_at a number) 0 (state_at a number).edges (among_plain a.defined number states_one))
        (further_plain a.states zip.0.missing),
    all_turned numbers raws zip.1,
  )

  with_sinks : (raws : List RawState) (sink : Bool) → AllByRecursion IsPlainRaw raws → AllByRecursion IsPlainRaw (raws ++ sinks a sink)
  with_sinks [] true all = (refl, tt)
  with_sinks [] false all = tt
  with_sinks (raw ∷ raws) sink all = (all.0, with_sinks raws sink all.1)

  start_plain : (starts : List (List ℕ)) → list_any lists_two starts ≡ false → lists_two (slice_index_or starts 0 (a.states ∷ [])) ≡ false
  start_plain [] none = refl
  start_plain (start ∷ starts) none = (or_parts (lists_two start) (list_any lists_two starts) none).0

  pub complement_plain : (complement : Description) → IsComplement a complement → has_universal_branching complement ≡ false
  complement_plain complement (raw, written, means) =
      let starts : complement.starts ≡ filter_map start_in (header a written.sink) = means.starts ∙ ap (filter_map start_in) written.items in
      or_from _ _
      (ap (list_any lists_two) starts ∙ or_from _ _ (start_plain a.starts starts_one) refl)
      (states_meant (definitions_of raw) raw.states complement.defined means.defined
      (subst (AllByRecursion IsPlainRaw) (sym written.body) (with_sinks written.turned written.sink (all_turned (range_with_len 0 a.states) written.turned written.states))))
