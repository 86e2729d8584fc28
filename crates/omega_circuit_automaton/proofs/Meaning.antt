-- The automaton of a circuit as it is written means an automaton with the edges of its states.
use Rattle.std.proofs.Common.{◌≡◌, inl, inr, ◌<◌, ◌≤◌, ◌+◌, ◌/◌, ℕ, zero, suc, Bool, true, false, Option, None, Some, List, [], ◌∷◌, length, get_or, map, slice_get, if◌then◌else◌, refl, sym, ap, subst, ◌∙◌, arith}
use Rattle.std.specs.Prelude.{◌||◌, Contains, IfSome, IsTrue, nat_lt, option_and_then, option_map, sum_by, unwrap_or}
use Rattle.std.specs.List.{filter_map, flat_map, list_any}
use Rattle.std.specs.Option.{option_or}
use Rattle.std.proofs.lemmas.Bool.{cases_lt, le-ltb, lt-ltb}
use Rattle.std.proofs.lemmas.List.{get_or_append_left, get_or_default}
use Rattle.std.proofs.lemmas.List.Elements.{Contains-get_or}
use Rattle.std.proofs.lemmas.List.Folds.{list_any_none}
use Rattle.std.proofs.lemmas.List.Sums.{sum_by-cons}
use Rattle.omega_acc.specs.WritingLaws.{WrittenFormulasMean, WrittenLabelsMean}
use Rattle.omega_hoa_acceptance.specs.Kind.{buchi_formula}
use Rattle.omega_hoa_acceptance.specs.Meaning.{acc_meant}
use Rattle.omega_hoa_automaton.specs.Automaton.{BodyEdge, Description, IsAutomaton, edge_at, edges_of}
use Rattle.omega_hoa_automaton.specs.Branching.{has_universal_branching, state_branches}
use Rattle.omega_hoa_automaton.specs.Faults.{definitions_of, mentioned_count}
use Rattle.omega_hoa_automaton.specs.Items.{Accepted, Named, acc_name_in, acceptance_in, alias_in, first_said, name_in, properties_in, propositions_in, start_in, states_in, tool_in, unknown_in}
use Rattle.omega_hoa_automaton.specs.Meaning.{IsEdgeOf, IsLabelOf, IsStateOf, Means}
use Rattle.omega_hoa_automaton.specs.declared.edge.Edge.{Edge}
use Rattle.omega_hoa_automaton.specs.declared.state.State.{State}
use Rattle.omega_hoa_label.specs.Label.{LabelTree, truth}
use Rattle.omega_hoa_label.specs.Writing.{label_written}
use Rattle.omega_hoa_label_text.specs.Expanding.{Defined, IsExpansion}
use Rattle.omega_hoa_satisfiable.specs.Satisfiable.{IsSatisfiable}
use Rattle.omega_hoa_syntax.specs.declared.raw_automaton.RawAutomaton.{RawAutomaton}
use Rattle.omega_hoa_syntax.specs.declared.raw_edge.RawEdge.{RawEdge}
use Rattle.omega_hoa_syntax.specs.declared.raw_item.RawItem.{RawItem}
use Rattle.omega_hoa_syntax.specs.declared.raw_state.RawState.{RawState}
use Rattle.omega_lang_product.proofs.Meaning.{meant_is}
use Rattle.omega_hoa_edges.specs.AutomatonLabels.{labels_at, state_at}
use Rattle.omega_hoa_edges.specs.Determinism.{IsDeterministic}
use Rattle.omega_hoa_edges.specs.Labels.{label_at, valuation_label}
use Rattle.omega_hoa_edges.proofs.Rows.{each_at, each_there}
use Rattle.omega_lang_runs.specs.Lasso.{IsStep, label_of}
use Rattle.omega_lang_runs.specs.Words.{Allows, CanBeTaken}
use Rattle.omega_lang_runs.proofs.Flat.{IsListed, contains_flat, listed_flat}
use Rattle.omega_lang_word_laws.proofs.meeting.Lists.{beside_left, beside_right, contains_at, index_of}
use Rattle.omega_lang_word_laws.proofs.parting.Numbered.{never_some, state_is, zip_left, zip_right}
use Rattle.omega_circuit.specs.Circuit.{CircuitValue}
use Rattle.omega_circuit.specs.Rounds.{HasInputs, IsRound}
use Rattle.omega_circuit_automaton.specs.CircuitAutomaton.{AgreeBelow, AnswersEachOnce, AnswersOnce, HasCircuitHeader, HasValuations}
use Rattle.omega_circuit_automaton.specs.Names.{proposition_names}
use Rattle.omega_circuit_automaton.specs.declared.ternary.Ternary.{Ternary}
use Rattle.omega_circuit_automaton.specs.declared.ternary.Ternary.TheVariants.{False, True, Unknown}
use Rattle.omega_circuit_automaton.specs.private.Automata.{IsAutomatonOf, IsMade, IsTaken}
use Rattle.omega_circuit_automaton.specs.private.Cuts.{Cut, IsCutOf, answering, fits, is_true, next_values, one_if, pattern_of, valuation_at}
use Rattle.omega_circuit_automaton.specs.private.Ternary.{Matches, known, latch_values, ternary_at}
use Rattle.omega_circuit_automaton.specs.private.Written.{IsWrittenAutomaton, IsWrittenCut, IsWrittenState, valuation_name}
use Rattle.omega_circuit_automaton.proofs.Cubes.{and_true, at_fits, fits_alike, fits_at, fits_both}

same_some : {X : Type 0} (x y : X) → Some x ≡ Some y → x ≡ y
same_some x y e = cc

same_target : (x y : ℕ) → (x ∷ []) ≡ (y ∷ []) → x ≡ y
same_target x y e = cc

-- a test that fails at each item passes nowhere
none_passes : {X : Type 0} (test : X → Bool) (xs : List X) → ((x : X) → Contains xs x → test x ≡ false) → list_any test xs ≡ false
none_passes test xs fails = list_any_none test xs (λ k d below. fails (get_or xs k d) (Contains-get_or xs k d below))

no_label : (definitions : List Defined) (label : Option LabelTree) → IsLabelOf definitions None label → label ≡ None
no_label definitions None is = refl
no_label definitions (Some tree) is = absurd is

a_label : WrittenLabelsMean → (definitions : List Defined) (tree : LabelTree) (label : Option LabelTree) → definitions ≡ []
    → IsLabelOf definitions (Some (label_written tree)) label → label ≡ Some tree
a_label mean definitions tree None none is = absurd is
a_label mean definitions tree (Some meant) none is =
    ap Some (meant_is mean meant tree (subst (λ (ds : List Defined). IsExpansion ds (label_written tree) meant) none is))

-- each pattern has a letter
own_matches : (value : Ternary) → Matches value (is_true value)
own_matches False = refl
own_matches True = refl
own_matches Unknown = tt

own_fits : (pattern : List Ternary) → fits pattern (λ k. is_true (ternary_at pattern k)) ≡ true
own_fits pattern = at_fits pattern (λ k. is_true (ternary_at pattern k)) (λ k low. own_matches (ternary_at pattern k))

-- some edge answers a letter
some_fits : (cuts : List Cut) (letter : ℕ → Bool) → 0 < answering letter cuts → (cut : Cut) × Contains cuts cut × (fits cut.cube letter ≡ true)
some_fits [] letter some = absurd (omega (arith, some))
some_fits (cut ∷ cuts) letter some = go (fits cut.cube letter) refl (λ more. some_fits cuts letter more)
  where
    later : (found : (other : Cut) × Contains cuts other × (fits other.cube letter ≡ true)) → (other : Cut) × Contains (cut ∷ cuts) other × (fits other.cube letter ≡ true)
    later found = (found.0, (suc found.1.0, omega (arith, found.1.1), found.1.2), found.2)

    go : (b : Bool) → fits cut.cube letter ≡ b → (0 < answering letter cuts → (other : Cut) × Contains cuts other × (fits other.cube letter ≡ true))
        → (other : Cut) × Contains (cut ∷ cuts) other × (fits other.cube letter ≡ true)
    go true is others = (cut, (0, omega arith, refl), is)
    go false is others =
        let all = sum_by-cons (λ (x : Cut). one_if (fits x.cube letter)) cut cuts in
        let none : one_if (fits cut.cube letter) ≡ 0 = ap one_if is in
        later (others (omega (arith, some, all, none)))

-- two edges answer no letter both
one_fit : (cuts : List Cut) (letter : ℕ → Bool) (i : ℕ) (x : Cut) → slice_get cuts i ≡ Some x → fits x.cube letter ≡ true → 1 ≤ answering letter cuts
one_fit [] letter i x e fit = absurd (never_some x e)
one_fit (cut ∷ cuts) letter zero x e fit =
    let all = sum_by-cons (λ (y : Cut). one_if (fits y.cube letter)) cut cuts in
    let one : one_if (fits cut.cube letter) ≡ 1 = ap (λ (y : Cut). one_if (fits y.cube letter)) (same_some cut x e) ∙ ap one_if fit in
    omega (arith, all, one)
one_fit (cut ∷ cuts) letter (suc i) x e fit =
    let all = sum_by-cons (λ (y : Cut). one_if (fits y.cube letter)) cut cuts in
    let more = one_fit cuts letter i x e fit in
    omega (arith, all, more)

two_fit : (cuts : List Cut) (letter : ℕ → Bool) (i j : ℕ) (x y : Cut) → i < j → slice_get cuts i ≡ Some x → slice_get cuts j ≡ Some y
    → fits x.cube letter ≡ true → fits y.cube letter ≡ true → 2 ≤ answering letter cuts
two_fit [] letter i j x y less first second fx fy = absurd (never_some x first)
two_fit (cut ∷ cuts) letter i zero x y less first second fx fy = absurd (omega (arith, less))
two_fit (cut ∷ cuts) letter zero (suc j) x y less first second fx fy =
    let all = sum_by-cons (λ (z : Cut). one_if (fits z.cube letter)) cut cuts in
    let one : one_if (fits cut.cube letter) ≡ 1 = ap (λ (z : Cut). one_if (fits z.cube letter)) (same_some cut x first) ∙ ap one_if fx in
    let more = one_fit cuts letter j y second fy in
    omega (arith, all, one, more)
two_fit (cut ∷ cuts) letter (suc i) (suc j) x y less first second fx fy =
    let all = sum_by-cons (λ (z : Cut). one_if (fits z.cube letter)) cut cuts in
    let more = two_fit cuts letter i j x y (omega (arith, less)) first second fx fy in
    omega (arith, all, more)

-- a letter of inputs with outputs
full_letter : ℕ → List Ternary → (ℕ → Bool) → ℕ → Bool
full_letter inputs pattern letter p = if nat_lt p inputs then letter p else is_true (ternary_at pattern p)

full_below : (inputs : ℕ) (pattern : List Ternary) (letter : ℕ → Bool) (p : ℕ) → p < inputs → full_letter inputs pattern letter p ≡ letter p
unfolding full_letter
full_below inputs pattern letter p below = ap (λ (b : Bool). if b then letter p else is_true (ternary_at pattern p)) (lt-ltb p inputs below)

full_beyond : (inputs : ℕ) (pattern : List Ternary) (letter : ℕ → Bool) (p : ℕ) → inputs ≤ p → full_letter inputs pattern letter p ≡ is_true (ternary_at pattern p)
unfolding full_letter
full_beyond inputs pattern letter p past = ap (λ (b : Bool). if b then letter p else is_true (ternary_at pattern p)) (le-ltb p inputs past)

full_fits : (cut : Cut) (inputs : ℕ) → length cut.cube ≡ inputs → (letter : ℕ → Bool) → fits cut.cube letter ≡ true → fits (pattern_of cut) (full_letter inputs (pattern_of cut) letter) ≡ true
full_fits cut inputs long letter fit = at_fits (pattern_of cut) (full_letter inputs (pattern_of cut) letter) (λ k within. elim (cases_lt k inputs) [
  | inl below ↦ subst (Matches (ternary_at (pattern_of cut) k)) (sym (full_below inputs (pattern_of cut) letter k below))
      (subst (λ (v : Ternary). Matches v (letter k)) (sym (get_or_append_left cut.cube (map known cut.outputs) Unknown k (omega (arith, below, long)))) (fits_at cut.cube letter fit k))
  | inr past ↦ subst (Matches (ternary_at (pattern_of cut) k)) (sym (full_beyond inputs (pattern_of cut) letter k past)) (own_matches (ternary_at (pattern_of cut) k))
])

no_state : RawState
no_state = record { label = None; number = 0; name = None; marks = None; edges = [] }

module _ (mean : WrittenLabelsMean) (formulas : WrittenFormulasMean) (c : CircuitValue) (raw : RawAutomaton) (written : IsWrittenAutomaton c (proposition_names c) raw)
    (a : Description) (means : Means raw a) where
  abbrev valuations : List (List Bool)
  valuations = written.states.valuations

  no_definitions : definitions_of raw ≡ []
  no_definitions = ap (filter_map alias_in) written.items

  starts : a.starts ≡ (0 ∷ []) ∷ []
  starts = means.starts ∙ ap (filter_map start_in) written.items

  named : a.propositions ≡ proposition_names c
  named = means.propositions ∙ ap (λ (items : List RawItem). unwrap_or (option_map (λ (n : Named). n.names) (first_said propositions_in items)) []) written.items

  counted : a.sets ≡ 0
  counted = means.sets ∙ ap (λ (items : List RawItem). unwrap_or (option_map (λ (s : Accepted). s.count) (first_said acceptance_in items)) 0) written.items

  pub states_counted : a.states ≡ length valuations
  states_counted = means.states ∙ ap (λ (items : List RawItem). unwrap_or (first_said states_in items) (mentioned_count raw)) written.items ∙ written.states.all

  accepting : a.acceptance ≡ buchi_formula 0
  accepting = same_some a.acceptance (buchi_formula 0) (sym means.acceptance
      ∙ ap (λ (items : List RawItem). option_and_then (λ (s : Accepted). acc_meant s.formula) (first_said acceptance_in items)) written.items
      ∙ (formulas (buchi_formula 0)).means)

  pub header_is : HasCircuitHeader c a
  header_is = record {
    starts = starts;
    propositions = named;
    controllable = means.unknown ∙ ap (filter_map unknown_in) written.items;
    acc_name = means.acc_name ∙ ap (first_said acc_name_in) written.items;
    acceptance = accepting;
    sets = counted;
    unnamed = means.name ∙ ap (first_said name_in) written.items;
    no_tool = means.tool ∙ ap (first_said tool_in) written.items;
    no_properties = means.properties ∙ ap (flat_map properties_in) written.items;
  }

  -- a state that is defined is one of those that are written
  record Found (number : ℕ) (state : State) : Type 0 where
    raw_state : RawState
    meant : IsStateOf (definitions_of raw) raw_state state
    is : IsWrittenState c valuations number raw_state

  written_at : (raw_state : RawState) → (there : Contains raw.states raw_state) → IsWrittenState c valuations there.0 raw_state
  written_at raw_state there = subst (IsWrittenState c valuations there.0) there.2 (written.states.exploring.states_are there.0 raw_state there.1)

  found : (state : State) → Contains a.defined state → Found state.number state
  found state within =
      let there = beside_right (IsStateOf (definitions_of raw)) raw.states a.defined means.defined state within in
      let is = written_at there.0 there.1 in
      record {
        raw_state = there.0;
        meant = there.2;
        is = subst (λ (n : ℕ). IsWrittenState c valuations n there.0) (sym is.number_is ∙ sym there.2.number) is;
      }

  record Defined_at (number : ℕ) : Type 0 where
    state : State
    within : Contains a.defined state
    at : Found number state

  defined_at : (number : ℕ) → number < length valuations → Defined_at number
  defined_at number low =
      let below : number < length raw.states = omega (arith, low, written.states.all) in
      let raw_state : RawState = get_or raw.states number no_state in
      let there : Contains raw.states raw_state = (number, below, get_or_default raw.states number raw_state no_state below) in
      let meant = beside_left (IsStateOf (definitions_of raw)) raw.states a.defined means.defined raw_state there in
      record { state = meant.0; within = meant.1; at = record { raw_state = raw_state; meant = meant.2; is = written_at raw_state there } }

  -- labels and targets of edges
  module _ (number : ℕ) (state : State) (at : Found number state) (cut : Cut) (raw_edge : RawEdge) (edge : Edge) (we : IsWrittenCut cut raw_edge) (me : IsEdgeOf (definitions_of raw) raw_edge edge) where
    abbrev body : BodyEdge
    body = record { source = state; edge = edge }

    state_label : state.label ≡ None
    state_label = no_label (definitions_of raw) state.label (subst (λ l. IsLabelOf (definitions_of raw) l state.label) at.is.label at.meant.label)

    edge_label : edge.label ≡ Some we.label
    edge_label = a_label mean (definitions_of raw) we.label edge.label no_definitions (subst (λ l. IsLabelOf (definitions_of raw) l edge.label) we.label_is me.label)

    label_there : label_of body ≡ Some we.label
    label_there = ap (λ l. option_or l edge.label) state_label ∙ edge_label

    targets_there : edge.targets ≡ cut.target ∷ []
    targets_there = me.targets ∙ we.targets

  -- an edge of a state is one of those that are written
  record FoundEdge (number : ℕ) (state : State) (at : Found number state) (edge : Edge) : Type 0 where
    raw_edge : RawEdge
    meant : IsEdgeOf (definitions_of raw) raw_edge edge
    cut : Cut
    right : IsCutOf c valuations (valuation_at valuations number) cut
    is : IsWrittenCut cut raw_edge

  found_edge : (number : ℕ) (state : State) (at : Found number state) (edge : Edge) → Contains state.edges edge → FoundEdge number state at edge
  found_edge number state at edge within =
      let there = beside_right (IsEdgeOf (definitions_of raw)) at.raw_state.edges state.edges at.meant.edges edge within in
      let from = beside_right IsWrittenCut at.is.edges_are.cuts at.raw_state.edges at.is.edges_are.written there.0 there.1 in
      record {
        raw_edge = there.0;
        meant = there.2;
        cut = from.0;
        right = subst (IsCutOf c valuations (valuation_at valuations number)) from.1.2 (at.is.edges_are.right from.1.0 from.0 from.1.1);
        is = from.2;
      }

  listed : (number : ℕ) (edge : BodyEdge) → edge_at a number ≡ Some edge → IsListed a.defined edge
  listed number edge numbered = listed_flat a.defined edge (contains_at (edges_of a) number edge numbered)

  taken_by : (from number to : ℕ) (letter : ℕ → Bool) (edge : BodyEdge) (at : Found edge.source.number edge.source) (of : FoundEdge edge.source.number edge.source at edge.edge)
      → edge.source.number ≡ from → edge.edge.targets ≡ to ∷ [] → Allows a number (label_of edge) letter → IsTaken c valuations from to letter
  taken_by from number to letter edge at of leaves enters allows =
      let label = label_there edge.source.number edge.source at of.cut of.raw_edge edge.edge of.is of.meant in
      let held : IsTrue (truth letter of.is.label) = subst (λ (l : Option LabelTree). Allows a number l letter) label allows in
      record {
        cut = of.cut;
        right = subst (λ (n : ℕ). IsCutOf c valuations (valuation_at valuations n) of.cut) leaves of.right;
        target = same_target of.cut.target to (sym (targets_there edge.source.number edge.source at of.cut of.raw_edge edge.edge of.is of.meant) ∙ enters);
        holds = sym (of.is.exact letter) ∙ held;
      }

  taken : (from number to : ℕ) (step : IsStep a from number to) (letter : ℕ → Bool) → from < length valuations → Allows a number (label_of step.edge) letter
      → IsTaken c valuations from to letter
  taken from number to step letter low allows =
      let is = listed number step.edge step.numbered in
      let at = found step.edge.source (is.place, is.below, sym is.here) in
      taken_by from number to letter step.edge at (found_edge step.edge.source.number step.edge.source at step.edge.edge is.contained) step.leaves step.enters allows

  made_by : (from : ℕ) (letter : ℕ → Bool) (at : Defined_at from) (cut : Cut) → IsCutOf c valuations (valuation_at valuations from) cut → fits cut.cube letter ≡ true
      → (raw_edge : RawEdge) → IsWrittenCut cut raw_edge → (meant : Edge) → Contains at.state.edges meant → IsEdgeOf (definitions_of raw) raw_edge meant → IsMade c valuations a from letter
  made_by from letter at cut right fit raw_edge we meant within me =
      let state = at.state in
      let here : BodyEdge = record { source = state; edge = meant } in
      let label = label_there from state at.at cut raw_edge meant we me in
      let held : IsTrue (truth (λ k. is_true (ternary_at (pattern_of cut) k)) we.label) = we.exact (λ k. is_true (ternary_at (pattern_of cut) k)) ∙ own_fits (pattern_of cut) in
      let numbered = index_of (edges_of a) here (contains_flat a.defined at.within.0 state meant at.within.1 (sym at.within.2) within) in
      record {
        cut = cut;
        right = right;
        fit = fit;
        number = numbered.0;
        step = record {
          edge = here;
          numbered = numbered.1;
          usable = subst (λ (l : Option LabelTree). IfSome l IsSatisfiable) (sym label) ((λ k. is_true (ternary_at (pattern_of cut) k)), held);
          leaves = at.at.meant.number ∙ at.at.is.number_is;
          enters = targets_there from state at.at cut raw_edge meant we me;
        };
        allows = λ full fitting. subst (λ (l : Option LabelTree). Allows a numbered.0 l full) (sym label) (we.exact full ∙ fitting);
      }

  made : (from : ℕ) (letter : ℕ → Bool) → from < length valuations → IsMade c valuations a from letter
  made from letter low =
      let at = defined_at from low in
      let edges = at.at.is.edges_are in
      let once = edges.once letter in
      let none : sum_by (λ (x : List Ternary). one_if (fits x letter)) [] ≡ 0 = refl in
      let some = some_fits edges.cuts letter (omega (arith, once, none)) in
      let raw_edge = beside_left IsWrittenCut edges.cuts at.at.raw_state.edges edges.written some.0 some.1 in
      let meant = beside_left (IsEdgeOf (definitions_of raw)) at.at.raw_state.edges at.state.edges at.at.meant.edges raw_edge.0 raw_edge.1 in
      made_by from letter at some.0 (subst (IsCutOf c valuations (valuation_at valuations from)) some.1.2 (edges.right some.1.0 some.0 some.1.1)) some.2 raw_edge.0 raw_edge.2 meant.0 meant.1 meant.2

  pub automaton_is : IsAutomatonOf c valuations a
  automaton_is = record {
    some = written.states.exploring.some;
    start = written.states.exploring.start;
    starts = starts;
    propositions = named;
    acceptance = accepting;
    taken = taken;
    made = made;
  }

  -- no edge branches
  single : (state : State) → Contains a.defined state → state_branches state ≡ false
  single state within = none_passes (λ edge. nat_lt 1 (length edge.targets)) state.edges (λ edge has.
      let at = found state within in
      let of = found_edge state.number state at edge has in
      ap (λ (targets : List ℕ). nat_lt 1 (length targets)) (targets_there state.number state at of.cut of.raw_edge edge of.is of.meant))

  pub plain : has_universal_branching a ≡ false
  plain =
      ap (λ (all : List (List ℕ)). list_any (λ start. nat_lt 1 (length start)) all || list_any state_branches a.defined) starts
      ∙ none_passes state_branches a.defined single

  -- each letter of the inputs has one edge of a state
  module _ (is : IsAutomaton a) (number : ℕ) (low : number < length valuations) where
    at : Defined_at number
    at = defined_at number low

    state : State
    state = state_at a number

    own : Found number state
    unfolding state
    own =
        let there = index_of a.defined (defined_at number low).state (defined_at number low).within in
        let d = defined_at number low in
        let same : state_at a number ≡ d.state =
        ap (state_at a) (sym (d.at.meant.number ∙ d.at.is.number_is)) ∙ state_is a.defined there.0 d.state is.once there.1 in
        subst (Found number) (sym same) d.at

    labels : List LabelTree
    labels = labels_at a number

    -- the cut of a label
    record Cut_at (index : ℕ) (label : LabelTree) : Type 0 where
      cut : Cut
      here : slice_get own.is.edges_are.cuts index ≡ Some cut
      long : length cut.cube ≡ length c.inputs
      exact : (letter : ℕ → Bool) → truth letter label ≡ fits (pattern_of cut) letter

    long_at : (index : ℕ) (cut : Cut) → slice_get own.is.edges_are.cuts index ≡ Some cut → length cut.cube ≡ length c.inputs
    long_at index cut here =
        let there = contains_at own.is.edges_are.cuts index cut here in
        let right = subst (IsCutOf c valuations (valuation_at valuations number)) there.2 (own.is.edges_are.right there.0 cut there.1) in
        right.long

    label_is : (index : ℕ) (cut : Cut) (raw_edge : RawEdge) (edge : Edge) (we : IsWrittenCut cut raw_edge) → IsEdgeOf (definitions_of raw) raw_edge edge
        → label_at (length a.propositions) state index edge ≡ we.label
    label_is index cut raw_edge edge we me =
        ap (λ (l : Option LabelTree). unwrap_or l (valuation_label index (length a.propositions))) (label_there number state own cut raw_edge edge we me)

    cut_at : (index : ℕ) (label : LabelTree) → slice_get labels index ≡ Some label → Cut_at index label
    unfolding labels state
    cut_at index label e =
        let edge = each_at (label_at (length a.propositions) (state_at a number)) (state_at a number).edges index label e in
        let raw_edge = zip_right (IsEdgeOf (definitions_of raw)) own.raw_state.edges (state_at a number).edges index edge.0 own.meant.edges edge.1.0 in
        let cut = zip_right IsWrittenCut own.is.edges_are.cuts own.raw_state.edges index raw_edge.0 own.is.edges_are.written raw_edge.1.0 in
        record {
          cut = cut.0;
          here = cut.1.0;
          long = long_at index cut.0 cut.1.0;
          exact = λ letter. ap (truth letter) (edge.1.1 ∙ label_is index cut.0 raw_edge.0 edge.0 cut.1.1 raw_edge.1.1) ∙ cut.1.1.exact letter;
        }

    record Label_of (index : ℕ) (cut : Cut) : Type 0 where
      label : LabelTree
      here : slice_get labels index ≡ Some label
      exact : (letter : ℕ → Bool) → truth letter label ≡ fits (pattern_of cut) letter

    label_of_cut : (index : ℕ) (cut : Cut) → slice_get own.is.edges_are.cuts index ≡ Some cut → Label_of index cut
    unfolding labels state
    label_of_cut index cut e =
        let raw_edge = zip_left IsWrittenCut own.is.edges_are.cuts own.raw_state.edges index cut own.is.edges_are.written e in
        let edge = zip_left (IsEdgeOf (definitions_of raw)) own.raw_state.edges (state_at a number).edges index raw_edge.0 own.meant.edges raw_edge.1.0 in
        record {
          label = label_at (length a.propositions) (state_at a number) index edge.0;
          here = each_there (label_at (length a.propositions) (state_at a number)) (state_at a number).edges index edge.0 edge.1.0;
          exact = λ letter. ap (truth letter) (label_is index cut raw_edge.0 edge.0 raw_edge.1.1 edge.1.1) ∙ raw_edge.1.1.exact letter;
        }

    -- an answer is a letter that the cube fits
    answered : (letter answer : ℕ → Bool) (cut : Cut) → length cut.cube ≡ length c.inputs → AgreeBelow (length c.inputs) letter answer → fits (pattern_of cut) answer ≡ true → fits cut.cube letter ≡ true
    answered letter answer cut long agrees holds =
        fits_alike cut.cube letter answer (λ k within. agrees k (omega (arith, within, long)))
        ∙ (and_true (fits cut.cube answer) (fits (map known cut.outputs) (λ k. answer (length cut.cube + k))) (sym (fits_both cut.cube (map known cut.outputs) answer) ∙ holds)).0

    same_index : (letter : ℕ → Bool) (i j : ℕ) (x y : Cut) → slice_get own.is.edges_are.cuts i ≡ Some x → slice_get own.is.edges_are.cuts j ≡ Some y
        → fits x.cube letter ≡ true → fits y.cube letter ≡ true → i < j → ⊥
    same_index letter i j x y first second fx fy less =
        let once = own.is.edges_are.once letter in
        let none : sum_by (λ (z : List Ternary). one_if (fits z letter)) [] ≡ 0 = refl in
        let both = two_fit own.is.edges_are.cuts letter i j x y less first second fx fy in
        omega (arith, once, none, both)

    answers_once : (letter : ℕ → Bool) → AnswersOnce labels (length c.inputs) letter
    answers_once letter =
        let once = own.is.edges_are.once letter in
        let none : sum_by (λ (z : List Ternary). one_if (fits z letter)) [] ≡ 0 = refl in
        let some = some_fits own.is.edges_are.cuts letter (omega (arith, once, none)) in
        let there = index_of own.is.edges_are.cuts some.0 some.1 in
        let label = label_of_cut there.0 some.0 there.1 in
        let long = long_at there.0 some.0 there.1 in
        record {
          index = there.0;
          label = label.label;
          here = label.here;
          answer = full_letter (length c.inputs) (pattern_of some.0) letter;
          agrees = λ p below. sym (full_below (length c.inputs) (pattern_of some.0) letter p below);
          holds = label.exact (full_letter (length c.inputs) (pattern_of some.0) letter) ∙ full_fits some.0 (length c.inputs) long letter some.2;
          only = λ other answer_label here answer agrees holds.
              let cut = cut_at other answer_label here in
              let fit = answered letter answer cut.cut cut.long agrees (sym (cut.exact answer) ∙ holds) in
              elim (cases_lt other there.0) [
                | inl less ↦ absurd (same_index letter other there.0 cut.cut some.0 cut.here there.1 fit some.2 less)
                | inr more ↦ elim (cases_lt there.0 other) [
                  | inl less ↦ absurd (same_index letter there.0 other some.0 cut.cut there.1 cut.here some.2 fit less)
                  | inr also ↦ omega (arith, more, also)
                ]
              ];
        }

  pub answers_each_once : IsAutomaton a → AnswersEachOnce c a
  unfolding labels
  answers_each_once is number letter low = answers_once is number (omega (arith, low, states_counted)) letter

  pub deterministic : IsAutomaton a → IsDeterministic a
  unfolding labels
  deterministic is = record {
    plain = plain;
    one_start = (let e : length a.starts ≡ 1 = ap length starts in omega (arith, e));
    apart = λ number low clash.
        let pair = clash.1.1 in
        let letter = clash.1.2.0 in
        let both = and_true (truth letter clash.0) (truth letter clash.1.0) clash.1.2.1 in
        let once = answers_once is number (omega (arith, low, states_counted)) letter in
        let first = once.only pair.first clash.0 pair.first_is letter (λ p below. refl) both.0 in
        let second = once.only pair.second clash.1.0 pair.second_is letter (λ p below. refl) both.1 in
        let order = pair.in_order in
        omega (arith, first, second, order);
  }

  -- where edges lead
  leads : (from number to : ℕ) (letter round : ℕ → Bool) → from < length valuations → IsStep a from number to → CanBeTaken a number letter → IsRound c round
      → latch_values c.latches round ≡ valuation_at valuations from → HasInputs c round letter → valuation_at valuations to ≡ next_values c.latches round
  leads from number to letter round low step can is_round latched has =
      let allowed : Allows a number (label_of step.edge) letter = subst (λ (e : BodyEdge). Allows a number (label_of e) letter)
      (same_some can.edge step.edge (sym can.numbered ∙ step.numbered)) can.allowed in
      let t = taken from number to step letter low allowed in
      let fit = (and_true (fits t.cut.cube letter) (fits (map known t.cut.outputs) (λ k. letter (length t.cut.cube + k)))
      (sym (fits_both t.cut.cube (map known t.cut.outputs) letter) ∙ t.holds)).0 in
      ap (valuation_at valuations) (sym t.target) ∙ t.right.ends.nexts_are round (record {
        is = is_round;
        latched = latched;
        fits = fits_at t.cut.cube (λ k. round (get_or c.inputs k 0 / 2))
            (fits_alike t.cut.cube (λ k. round (get_or c.inputs k 0 / 2)) letter (λ k within. has k (omega (arith, within, t.right.long))) ∙ fit);
      })

  name_there : IsAutomaton a → (number : ℕ) → number < length valuations → (state_at a number).name ≡ valuation_name (valuation_at valuations number)
  unfolding state
  name_there automaton number low = let found = own automaton number low in found.meant.name ∙ found.is.name_is

  pub has_valuations : IsAutomaton a → HasValuations c a
  has_valuations is = record {
    valuations = valuations;
    counted = states_counted;
    first = written.states.exploring.start;
    long = written.states.exploring.known;
    named = λ number low. name_there is number (omega (arith, low, states_counted));
    leads = leads;
  }
