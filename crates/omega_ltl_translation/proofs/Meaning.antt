-- The automaton of a graph as it is written means an automaton with the edges of the graph.
use Rattle.std.proofs.Common.{◌≡◌, ◌<◌, ◌+◌, ◌↔◌, ℕ, Bool, false, Option, None, Some, List, [], ◌∷◌, ◌++◌, length, get_or, refl, sym, ap, subst, ◌∙◌, arith}
use Rattle.std.specs.Prelude.{◌||◌, Contains, IfSome, IsTrue, nat_lt, option_and_then, option_map, unwrap_or}
use Rattle.std.specs.List.{filter_map, list_any, range_with_len}
use Rattle.std.specs.Option.{option_or}
use Rattle.std.proofs.lemmas.List.Elements.{Contains-get_or}
use Rattle.std.proofs.lemmas.List.Folds.{list_any_none}
use Rattle.std.proofs.lemmas.List.FromFn.{get_or-range_with_len, length-range_with_len}
use Rattle.omega_acc.specs.WritingLaws.{WrittenFormulasMean, WrittenLabelsMean}
use Rattle.omega_hoa_acceptance.specs.Acceptance.{holds}
use Rattle.omega_hoa_acceptance.specs.Kind.{buchi_formula}
use Rattle.omega_hoa_acceptance.specs.Meaning.{acc_meant}
use Rattle.omega_hoa_automaton.specs.Automaton.{BodyEdge, Description, edge_at, edges_of}
use Rattle.omega_hoa_automaton.specs.Branching.{has_universal_branching, state_branches}
use Rattle.omega_hoa_automaton.specs.Faults.{definitions_of}
use Rattle.omega_hoa_automaton.specs.Items.{Accepted, Named, acc_name_in, acceptance_in, alias_in, first_said, name_in, propositions_in, start_in}
use Rattle.omega_hoa_automaton.specs.Meaning.{AreMarksOf, IsEdgeOf, IsLabelOf, IsStateOf, Means, written_marks}
use Rattle.omega_hoa_automaton.specs.declared.edge.Edge.{Edge}
use Rattle.omega_hoa_automaton.specs.declared.state.State.{State}
use Rattle.omega_hoa_label.specs.Label.{LabelTree, truth}
use Rattle.omega_hoa_label.specs.Writing.{label_written}
use Rattle.omega_hoa_label_text.specs.Expanding.{Defined, IsExpansion}
use Rattle.omega_hoa_satisfiable.specs.Satisfiable.{IsSatisfiable}
use Rattle.omega_hoa_syntax.specs.declared.raw_automaton.RawAutomaton.{RawAutomaton}
use Rattle.omega_hoa_syntax.specs.declared.raw_edge.RawEdge.{RawEdge}
use Rattle.omega_hoa_syntax.specs.declared.raw_item.RawItem.{RawItem}
use Rattle.omega_hoa_syntax.specs.declared.raw_item.RawItem.TheVariants as item
use Rattle.omega_hoa_syntax.specs.declared.raw_state.RawState.{RawState}
use Rattle.omega_lang_product.specs.Acceptance.{buchi_name}
use Rattle.omega_lang_product.proofs.Meaning.{meant_is}
use Rattle.omega_lang_product.proofs.Membership.{Contains-nothing}
use Rattle.omega_lang_runs.specs.Lasso.{IsStep, label_of, marks_of}
use Rattle.omega_lang_runs.specs.Words.{Allows}
use Rattle.omega_lang_runs.proofs.Flat.{IsListed, contains_flat, listed_flat}
use Rattle.omega_lang_word_laws.proofs.meeting.Lists.{beside_left, beside_right, contains_at, index_of}
use Rattle.omega_lang_word_laws.proofs.meeting.Marks.{contains_holds, holds_contains}
use Rattle.omega_ltl_shapes.specs.Covers.{is_set}
use Rattle.omega_ltl_translation.specs.Translation.{HasHeader, IsGeneralizedBuchi}
use Rattle.omega_ltl_translation.specs.declared.graph.GraphEdge.{GraphEdge}
use Rattle.omega_ltl_translation.specs.declared.joining.JoinedEdge.{JoinedEdge}
use Rattle.omega_ltl_translation.specs.private.Automata.{IsAutomatonOf, IsMade, IsTaken}
use Rattle.omega_ltl_translation.specs.private.Graphs.{edges_of_state}
use Rattle.omega_ltl_translation.specs.private.Joining.{IsJoinedTo}
use Rattle.omega_ltl_translation.specs.private.Labels.{IsTrueCube}
use Rattle.omega_ltl_translation.specs.private.Written.{IsWrittenEdge, IsWrittenGraph, IsWrittenState, header, name_items}

same_some : {X : Type 0} (x y : X) → Some x ≡ Some y → x ≡ y
same_some x y e = cc

-- a test that fails at each item passes nowhere
none_passes : {X : Type 0} (test : X → Bool) (xs : List X) → ((x : X) → Contains xs x → test x ≡ false) → list_any test xs ≡ false
none_passes test xs fails = list_any_none test xs (λ k d below. fails (get_or xs k d) (Contains-get_or xs k d below))

-- the item of the name says nothing else
module _ {X : Type 0} (says : RawItem → Option X) (unnamed : (bytes : List ℕ) → says (item.Name bytes) ≡ None) where
  nothing_said : (name : Option (List ℕ)) → filter_map says (name_items name) ≡ []
  nothing_said None = refl
  nothing_said (Some bytes) = rw (unnamed bytes) refl

-- labels and marks that are not there
no_label : (definitions : List Defined) (label : Option LabelTree) → IsLabelOf definitions None label → label ≡ None
no_label definitions None is = refl
no_label definitions (Some tree) is = absurd is

no_marks : (marks : List ℕ) → AreMarksOf [] marks → marks ≡ []
no_marks [] are = refl
no_marks (x ∷ xs) are = absurd (Contains-nothing x ((are.same x).0 (0, omega arith, refl)))

a_label : WrittenLabelsMean → (definitions : List Defined) (tree : LabelTree) (label : Option LabelTree) → definitions ≡ []
    → IsLabelOf definitions (Some (label_written tree)) label → label ≡ Some tree
a_label mean definitions tree None none is = absurd is
a_label mean definitions tree (Some meant) none is =
    ap Some (meant_is mean meant tree (subst (λ (ds : List Defined). IsExpansion ds (label_written tree) meant) none is))

-- an edge of a state, as it is written and as it is meant
module _ (mean : WrittenLabelsMean) (definitions : List Defined) (none : definitions ≡ []) (sets number : ℕ) (edges : List GraphEdge)
    (raw_state : RawState) (state : State) (w : IsWrittenState sets number edges raw_state) (m : IsStateOf definitions raw_state state)
    (joined : JoinedEdge) (raw : RawEdge) (edge : Edge) (we : IsWrittenEdge sets joined raw) (me : IsEdgeOf definitions raw edge) where
  abbrev body : BodyEdge
  body = record { source = state; edge = edge }

  state_label : state.label ≡ None
  state_label = no_label definitions state.label (subst (λ l. IsLabelOf definitions l state.label) w.label m.label)

  edge_label : edge.label ≡ Some we.label
  edge_label = a_label mean definitions we.label edge.label none (subst (λ l. IsLabelOf definitions l edge.label) we.label_is me.label)

  pub label_there : label_of body ≡ Some we.label
  label_there = ap (λ l. option_or l edge.label) state_label ∙ edge_label

  state_marks : state.marks ≡ []
  state_marks = no_marks state.marks (subst (λ marks. AreMarksOf (written_marks marks) state.marks) w.marks m.marks)

  pub marks_there : (set : ℕ) → set < sets → IsTrue (holds set (marks_of body)) ↔ (is_set joined.late set ≡ false)
  marks_there set low = (
    λ h. ((we.marks set).0 ((me.marks.same set).0 (holds_contains set edge.marks (subst (λ (marks : List ℕ). IsTrue (holds set (marks ++ edge.marks))) state_marks h)))).1,
    λ h. subst (λ (marks : List ℕ). IsTrue (holds set (marks ++ edge.marks))) (sym state_marks)
        (contains_holds set edge.marks ((me.marks.same set).1 ((we.marks set).1 (low, h)))),
  )

  pub targets_there : edge.targets ≡ joined.target ∷ []
  targets_there = me.targets ∙ we.targets

-- no item says what an alias is
pub no_aliases : (name : Option (List ℕ)) (propositions : List (List ℕ)) (sets : ℕ) (edges : List (List GraphEdge)) (raw : RawAutomaton)
    → IsWrittenGraph name propositions sets edges raw → definitions_of raw ≡ []
no_aliases name propositions sets edges raw written = ap (filter_map alias_in) written.items ∙ nothing_said alias_in (λ bytes. refl) name

-- the automaton
module _ (mean : WrittenLabelsMean) (formulas : WrittenFormulasMean) (name : Option (List ℕ)) (propositions : List (List ℕ)) (sets : ℕ) (edges : List (List GraphEdge))
    (raw : RawAutomaton) (written : IsWrittenGraph name propositions sets edges raw) (a : Description) (means : Means raw a) where
  no_definitions : definitions_of raw ≡ []
  no_definitions = no_aliases name propositions sets edges raw written

  starts : a.starts ≡ (0 ∷ []) ∷ []
  starts = means.starts ∙ ap (filter_map start_in) written.items ∙ ap (λ (rest : List (List ℕ)). (0 ∷ []) ∷ rest) (nothing_said start_in (λ bytes. refl) name)

  named : a.propositions ≡ propositions
  named = means.propositions ∙ ap (λ (items : List RawItem). unwrap_or (option_map (λ (n : Named). n.names) (first_said propositions_in items)) []) written.items

  counted : a.sets ≡ sets
  counted = means.sets ∙ ap (λ (items : List RawItem). unwrap_or (option_map (λ (s : Accepted). s.count) (first_said acceptance_in items)) 0) written.items

  accepting : a.acceptance ≡ buchi_formula sets
  accepting = same_some a.acceptance (buchi_formula sets) (sym means.acceptance
      ∙ ap (λ (items : List RawItem). option_and_then (λ (s : Accepted). acc_meant s.formula) (first_said acceptance_in items)) written.items
      ∙ (formulas (buchi_formula sets)).means)

  acceptance_named : a.acc_name ≡ Some (buchi_name sets)
  acceptance_named = means.acc_name ∙ ap (first_said acc_name_in) written.items

  called : a.name ≡ name
  called = means.name ∙ ap (first_said name_in) written.items ∙ said name
    where
      said : (n : Option (List ℕ)) → first_said name_in (header n propositions (length edges) sets) ≡ n
      said None = refl
      said (Some bytes) = refl

  -- a state that is defined is one of those that are written
  record Found (state : State) : Type 0 where
    raw_state : RawState
    meant : IsStateOf (definitions_of raw) raw_state state
    is : IsWrittenState sets state.number (edges_of_state edges state.number) raw_state

  found : (state : State) → Contains a.defined state → Found state
  found state within =
      let there = beside_right (IsStateOf (definitions_of raw)) raw.states a.defined means.defined state within in
      let from = beside_right (λ number. IsWrittenState sets number (edges_of_state edges number)) (range_with_len 0 (length edges)) raw.states written.states there.0 there.1 in
      let same : from.0 ≡ state.number = sym from.2.number_is ∙ sym there.2.number in
      record {
        raw_state = there.0;
        meant = there.2;
        is = subst (λ (n : ℕ). IsWrittenState sets n (edges_of_state edges n) there.0) same from.2;
      }

  -- an edge of it is one of those that are written
  record FoundEdge (state : State) (at : Found state) (edge : Edge) : Type 0 where
    raw_edge : RawEdge
    meant : IsEdgeOf (definitions_of raw) raw_edge edge
    joined : JoinedEdge
    within : Contains at.is.edges_are.joined joined
    is : IsWrittenEdge sets joined raw_edge

  found_edge : (state : State) (at : Found state) (edge : Edge) → Contains state.edges edge → FoundEdge state at edge
  found_edge state at edge within =
      let there = beside_right (IsEdgeOf (definitions_of raw)) at.raw_state.edges state.edges at.meant.edges edge within in
      let from = beside_right (IsWrittenEdge sets) at.is.edges_are.joined at.raw_state.edges at.is.edges_are.written there.0 there.1 in
      record { raw_edge = there.0; meant = there.2; joined = from.0; within = from.1; is = from.2 }

  listed : (number : ℕ) (edge : BodyEdge) → edge_at a number ≡ Some edge → IsListed a.defined edge
  listed number edge numbered = listed_flat a.defined edge (contains_at (edges_of a) number edge numbered)

  same_target : (x y : ℕ) → (x ∷ []) ≡ (y ∷ []) → x ≡ y
  same_target x y e = cc

  taken_by : (from number to : ℕ) (letter : ℕ → Bool) (edge : BodyEdge) (at : Found edge.source) (of : FoundEdge edge.source at edge.edge) → edge.source.number ≡ from
      → edge.edge.targets ≡ to ∷ [] → Allows a number (label_of edge) letter → IsTaken edges sets from to letter edge
  taken_by from number to letter edge at of leaves enters allows =
      let state = edge.source in
      let label = label_there mean (definitions_of raw) no_definitions sets state.number (edges_of_state edges state.number) at.raw_state state at.is at.meant of.joined of.raw_edge edge.edge of.is of.meant in
      let marks = marks_there mean (definitions_of raw) no_definitions sets state.number (edges_of_state edges state.number) at.raw_state state at.is at.meant of.joined of.raw_edge edge.edge of.is of.meant in
      let cube = (of.is.exact letter).0 (subst (λ (l : Option LabelTree). Allows a number l letter) label allows) in
      let origin = at.is.edges_are.are_joined.only of.joined cube.0 of.within cube.1 in
      record {
        edge = origin.0;
        listed = subst (λ (n : ℕ). Contains (edges_of_state edges n) origin.0) leaves origin.1;
        target = sym origin.3.target ∙ same_target of.joined.target to (sym of.is.targets ∙ sym of.meant.targets ∙ enters);
        true_cube = subst (IsTrueCube letter) (sym origin.2) cube.2;
        marks = λ set below. (
          λ h. subst (λ (w : ℕ). is_set w set ≡ false) origin.3.late ((marks set below).0 h),
          λ h. (marks set below).1 (subst (λ (w : ℕ). is_set w set ≡ false) (sym origin.3.late) h),
        );
      }

  taken : (from number to : ℕ) (step : IsStep a from number to) (letter : ℕ → Bool) → from < length edges → Allows a number (label_of step.edge) letter
      → IsTaken edges sets from to letter step.edge
  taken from number to step letter low allows =
      let is = listed number step.edge step.numbered in
      let at = found step.edge.source (is.place, is.below, sym is.here) in
      taken_by from number to letter step.edge at (found_edge step.edge.source at step.edge.edge is.contained) step.leaves step.enters allows

  -- the state with a number is defined
  record Defined_at (number : ℕ) : Type 0 where
    state : State
    within : Contains a.defined state
    raw_state : RawState
    meant : IsStateOf (definitions_of raw) raw_state state
    is : IsWrittenState sets number (edges_of_state edges number) raw_state

  defined_at : (number : ℕ) → number < length edges → Defined_at number
  defined_at number low =
      let numbers : List ℕ = range_with_len 0 (length edges) in
      let here : get_or numbers number number ≡ number = get_or-range_with_len 0 (length edges) number number low ∙ (let e : 0 + number ≡ number = omega arith in e) in
      let long : length numbers ≡ length edges = length-range_with_len 0 (length edges) in
      let there = beside_left (λ n. IsWrittenState sets n (edges_of_state edges n)) numbers raw.states written.states number (number, omega arith, here) in
      let meant = beside_left (IsStateOf (definitions_of raw)) raw.states a.defined means.defined there.0 there.1 in
      record { state = meant.0; within = meant.1; raw_state = there.0; meant = meant.2; is = there.2 }

  made_by : (from : ℕ) (edge : GraphEdge) (letter : ℕ → Bool) (at : Defined_at from) (joined : JoinedEdge) → IsJoinedTo edge joined → (raw_edge : RawEdge) → IsWrittenEdge sets joined raw_edge
      → (meant : Edge) → Contains at.state.edges meant → IsEdgeOf (definitions_of raw) raw_edge meant → IsTrueCube letter edge.cube → IsMade a sets from letter edge
  made_by from edge letter at joined to raw_edge we meant within me cube =
      let state = at.state in
      let here : BodyEdge = record { source = state; edge = meant } in
      let label = label_there mean (definitions_of raw) no_definitions sets from (edges_of_state edges from) at.raw_state state at.is at.meant joined raw_edge meant we me in
      let marks = marks_there mean (definitions_of raw) no_definitions sets from (edges_of_state edges from) at.raw_state state at.is at.meant joined raw_edge meant we me in
      let held : IsTrue (truth letter we.label) = (we.exact letter).1 (edge.cube, to.cube, cube) in
      let numbered = index_of (edges_of a) here (contains_flat a.defined at.within.0 state meant at.within.1 (sym at.within.2) within) in
      record {
        number = numbered.0;
        step = record {
          edge = here;
          numbered = numbered.1;
          usable = subst (λ (l : Option LabelTree). IfSome l IsSatisfiable) (sym label) (letter, held);
          leaves = at.meant.number ∙ at.is.number_is;
          enters = me.targets ∙ we.targets ∙ ap (λ (n : ℕ). n ∷ []) to.like.target;
        };
        allowed = subst (λ (l : Option LabelTree). Allows a numbered.0 l letter) (sym label) held;
        marks = λ set below. (
          λ h. subst (λ (w : ℕ). is_set w set ≡ false) to.like.late ((marks set below).0 h),
          λ h. (marks set below).1 (subst (λ (w : ℕ). is_set w set ≡ false) (sym to.like.late) h),
        );
      }

  made : (from : ℕ) (edge : GraphEdge) (letter : ℕ → Bool) → from < length edges → Contains (edges_of_state edges from) edge → IsTrueCube letter edge.cube
      → IsMade a sets from letter edge
  made from edge letter low within cube =
      let at = defined_at from low in
      let to = at.is.edges_are.are_joined.each edge within in
      let raw_edge = beside_left (IsWrittenEdge sets) at.is.edges_are.joined at.raw_state.edges at.is.edges_are.written to.0 to.1 in
      let meant = beside_left (IsEdgeOf (definitions_of raw)) at.raw_state.edges at.state.edges at.meant.edges raw_edge.0 raw_edge.1 in
      made_by from edge letter at to.0 to.2 raw_edge.0 raw_edge.2 meant.0 meant.1 meant.2 cube

  pub automaton_is : IsAutomatonOf propositions sets (length edges) edges a
  automaton_is = record { starts = starts; propositions = named; acceptance = accepting; taken = taken; made = made }

  pub header_is : HasHeader name propositions a
  header_is = record { name_is = called; propositions_are = named; starts = starts }

  -- no edge branches
  single : (state : State) → Contains a.defined state → state_branches state ≡ false
  single state within = none_passes (λ edge. nat_lt 1 (length edge.targets)) state.edges (λ edge has.
      let at = found state within in
      let of = found_edge state at edge has in
      ap (λ (targets : List ℕ). nat_lt 1 (length targets)) (of.meant.targets ∙ of.is.targets))

  plain : has_universal_branching a ≡ false
  plain =
      ap (λ (all : List (List ℕ)). list_any (λ start. nat_lt 1 (length start)) all || list_any state_branches a.defined) starts
      ∙ none_passes state_branches a.defined single

  pub buchi_is : IsGeneralizedBuchi a
  buchi_is = record {
    acceptance = accepting ∙ ap buchi_formula (sym counted);
    named = acceptance_named ∙ ap (λ (n : ℕ). Some (buchi_name n)) (sym counted);
    plain = plain;
  }
