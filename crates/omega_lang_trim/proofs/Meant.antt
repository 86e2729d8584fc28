-- What the written form of an automaton means is that automaton, if its marks rise.
use Rattle.std.proofs.Common.{◌≡◌, ℕ, Bool, true, false, cond, Option, Some, None, option_map, List, [], ◌∷◌, ◌+◌, length, map, filter, refl, sym, ap, subst, ◌∙◌}
use Rattle.std.specs.Prelude.{option_and_then, slice_get, unwrap_or}
use Rattle.std.specs.List.{AllByRecursion, AllZip}
use Rattle.std.specs.List.Sorted.{IsStrictlyIncreasing}
use Rattle.std.proofs.lemmas.List.Elements.{recursion_from_All}
use Rattle.omega_acc.specs.WritingLaws.{WrittenFormulasMean, WrittenLabelsMean}
use Rattle.omega_hoa_acceptance.specs.Acceptance.{AccTree}
use Rattle.omega_hoa_acceptance.specs.Meaning.{acc_meant}
use Rattle.omega_hoa_acceptance.specs.declared.name.AccName.{AccName}
use Rattle.omega_hoa_label_text.specs.Expanding.{Defined}
use Rattle.omega_hoa_label.specs.Label.{LabelTree}
use Rattle.omega_hoa_label.specs.Writing.{label_written}
use Rattle.omega_hoa_automaton.specs.Automaton.{Description, IsAutomaton}
use Rattle.omega_hoa_automaton.specs.Automaton as automaton
use Rattle.omega_hoa_automaton.specs.Faults.{mentioned_count}
use Rattle.omega_hoa_automaton.specs.Meaning.{AreMarksOf, IsEdgeOf, IsLabelOf, IsStateOf, Means}
use Rattle.omega_hoa_automaton.specs.declared.edge.Edge.{Edge}
use Rattle.omega_hoa_automaton.specs.declared.header.Header.{Header}
use Rattle.omega_hoa_automaton.specs.declared.state.State.{State}
use Rattle.omega_hoa_automaton.specs.declared.tool.Tool.{Tool}
use Rattle.omega_hoa_automaton.proofs.MarkLemmas.{rising_is_one}
use Rattle.omega_lang_trim.specs.Written.{edge_written, state_written, written}
use Rattle.omega_lang_trim.proofs.Said.{acc_name_said, acceptance_said, aliases_said, first_acc_name, first_name, name_said, properties_said, propositions_said, starts_said, states_said, tool_said, unknown_said}
use Rattle.omega_lang_trim.specs.Trimmed.{edge_kept, edge_stays, edges_kept, keeps_labels, state_kept, states_kept, stays, trimmed}

-- the marks of a state and of its edges rise
pub record HasRisingMarks (state : State) : Type 0 where
  pub own : IsStrictlyIncreasing state.marks
  pub edges : AllByRecursion (λ edge. IsStrictlyIncreasing edge.marks) state.edges

inside : {X : Type 0} (x y : X) → Some x ≡ Some y → x ≡ y
inside x y e = cc

-- marks as they are written
marks_meant : (marks meant : List ℕ) → IsStrictlyIncreasing marks → AreMarksOf marks meant → meant ≡ marks
marks_meant marks meant rising of =
    rising_is_one meant marks of.rising rising (λ mark has. (of.same mark).0 has) (λ mark has. (of.same mark).1 has)

module _ (label_means : WrittenLabelsMean) where
  label_meant : (label meant : Option LabelTree) → IsLabelOf [] (option_map label_written label) meant → meant ≡ label
  label_meant None None is = refl
  label_meant None (Some tree) is = absurd is
  label_meant (Some tree) None is = absurd is
  label_meant (Some tree) (Some meant) is =
      sym (sym (ap (option_map (λ meaning. meaning.tree)) (label_means [] tree).means) ∙ is.tree_is)

  abbrev edge_with : Option LabelTree → List ℕ → List ℕ → Edge
  edge_with label targets marks = record { label = label; targets = targets; marks = marks }

  edge_meant : (edge meant : Edge) → IsStrictlyIncreasing edge.marks → IsEdgeOf [] (edge_written edge) meant → meant ≡ edge
  edge_meant edge meant rising is =
      ap (λ x. edge_with x meant.targets meant.marks) (label_meant edge.label meant.label is.label)
      ∙ (ap (λ x. edge_with edge.label x meant.marks) is.targets
      ∙ ap (λ x. edge_with edge.label edge.targets x) (marks_meant edge.marks meant.marks rising is.marks))

  edges_meant : (edges meant : List Edge) → AllByRecursion (λ edge. IsStrictlyIncreasing edge.marks) edges → AllZip (IsEdgeOf []) (map edge_written edges) meant → meant ≡ edges
  edges_meant [] [] rising zip = refl
  edges_meant [] (other ∷ others) rising zip = absurd zip
  edges_meant (edge ∷ edges) [] rising zip = absurd zip
  edges_meant (edge ∷ edges) (other ∷ others) rising zip =
      ap (λ (e : Edge). e ∷ others) (edge_meant edge other rising.0 zip.0) ∙ ap (λ (list : List Edge). edge ∷ list) (edges_meant edges others rising.1 zip.1)

  abbrev state_with : Option LabelTree → ℕ → Option (List ℕ) → List ℕ → List Edge → State
  state_with label number name marks edges = record { label = label; number = number; name = name; marks = marks; edges = edges }

  state_meant : (state meant : State) → HasRisingMarks state → IsStateOf [] (state_written state) meant → meant ≡ state
  state_meant state meant rising is =
      ap (λ x. state_with x meant.number meant.name meant.marks meant.edges) (label_meant state.label meant.label is.label)
      ∙ (ap (λ x. state_with state.label x meant.name meant.marks meant.edges) is.number
      ∙ (ap (λ x. state_with state.label state.number x meant.marks meant.edges) is.name
      ∙ (ap (λ x. state_with state.label state.number state.name x meant.edges) (marks_meant state.marks meant.marks rising.own is.marks)
      ∙ ap (λ x. state_with state.label state.number state.name state.marks x) (edges_meant state.edges meant.edges rising.edges is.edges))))

  states_meant : (states meant : List State) → AllByRecursion HasRisingMarks states → AllZip (IsStateOf []) (map state_written states) meant → meant ≡ states
  states_meant [] [] rising zip = refl
  states_meant [] (other ∷ others) rising zip = absurd zip
  states_meant (state ∷ states) [] rising zip = absurd zip
  states_meant (state ∷ states) (other ∷ others) rising zip =
      ap (λ (s : State). s ∷ others) (state_meant state other rising.0 zip.0) ∙ ap (λ (list : List State). state ∷ list) (states_meant states others rising.1 zip.1)

  abbrev automaton_with : Option Tool → Option (List ℕ) → ℕ → List (List ℕ) → List (List ℕ) → Option AccName → ℕ → AccTree → List (List ℕ) → List Header → List State → Description
  automaton_with tool name states starts propositions acc_name sets acceptance properties unknown defined = record { tool = tool; name = name; states = states; starts = starts; propositions = propositions; acc_name = acc_name; sets = sets; acceptance = acceptance; properties = properties; unknown = unknown; defined = defined }

  -- the whole automaton
  pub automaton_meant : WrittenFormulasMean → (a b : Description) → a.tool ≡ None → a.properties ≡ [] → a.unknown ≡ []
      → AllByRecursion HasRisingMarks a.defined → Means (written a) b → b ≡ a
  automaton_meant formula_means a b no_tool no_properties no_unknown rising means =
      let same_tool : b.tool ≡ a.tool = means.tool ∙ (ap (λ said. slice_get said 0) (tool_said a) ∙ sym no_tool) in
      let same_name : b.name ≡ a.name = means.name ∙ (ap (λ said. slice_get said 0) (name_said a) ∙ first_name a.name) in
      let same_states : b.states ≡ a.states = means.states ∙ ap (λ said. unwrap_or (slice_get said 0) (mentioned_count (written a))) (states_said a) in
      let same_starts : b.starts ≡ a.starts = means.starts ∙ starts_said a in
      let same_propositions : b.propositions ≡ a.propositions =
      means.propositions ∙ ap (λ said. unwrap_or (option_map (λ named. named.names) (slice_get said 0)) []) (propositions_said a) in
      let same_acc_name : b.acc_name ≡ a.acc_name = means.acc_name ∙ (ap (λ said. slice_get said 0) (acc_name_said a) ∙ first_acc_name a.acc_name) in
      let same_sets : b.sets ≡ a.sets = means.sets ∙ ap (λ said. unwrap_or (option_map (λ accepted. accepted.count) (slice_get said 0)) 0) (acceptance_said a) in
      let same_acceptance : b.acceptance ≡ a.acceptance =
      inside b.acceptance a.acceptance
      (sym means.acceptance ∙ (ap (λ said. option_and_then (λ accepted. acc_meant accepted.formula) (slice_get said 0)) (acceptance_said a) ∙ (formula_means a.acceptance).means)) in
      let same_properties : b.properties ≡ a.properties = means.properties ∙ (properties_said a ∙ sym no_properties) in
      let same_unknown : b.unknown ≡ a.unknown = means.unknown ∙ (unknown_said a ∙ sym no_unknown) in
      let same_defined : b.defined ≡ a.defined =
      states_meant a.defined b.defined rising
      (subst (λ (definitions : List Defined). AllZip (IsStateOf definitions) (map state_written a.defined) b.defined) (aliases_said a) means.defined) in
      ap (λ x. automaton_with x b.name b.states b.starts b.propositions b.acc_name b.sets b.acceptance b.properties b.unknown b.defined) same_tool
      ∙ (ap (λ x. automaton_with a.tool x b.states b.starts b.propositions b.acc_name b.sets b.acceptance b.properties b.unknown b.defined) same_name
      ∙ (ap (λ x. automaton_with a.tool a.name x b.starts b.propositions b.acc_name b.sets b.acceptance b.properties b.unknown b.defined) same_states
      ∙ (ap (λ x. automaton_with a.tool a.name a.states x b.propositions b.acc_name b.sets b.acceptance b.properties b.unknown b.defined) same_starts
      ∙ (ap (λ x. automaton_with a.tool a.name a.states a.starts x b.acc_name b.sets b.acceptance b.properties b.unknown b.defined) same_propositions
      ∙ (ap (λ x. automaton_with a.tool a.name a.states a.starts a.propositions x b.sets b.acceptance b.properties b.unknown b.defined) same_acc_name
      ∙ (ap (λ x. automaton_with a.tool a.name a.states a.starts a.propositions a.acc_name x b.acceptance b.properties b.unknown b.defined) same_sets
      ∙ (ap (λ x. automaton_with a.tool a.name a.states a.starts a.propositions a.acc_name a.sets x b.properties b.unknown b.defined) same_acceptance
      ∙ (ap (λ x. automaton_with a.tool a.name a.states a.starts a.propositions a.acc_name a.sets a.acceptance x b.unknown b.defined) same_properties
      ∙ (ap (λ x. automaton_with a.tool a.name a.states a.starts a.propositions a.acc_name a.sets a.acceptance a.properties x b.defined) same_unknown
      ∙ ap (λ x. automaton_with a.tool a.name a.states a.starts a.propositions a.acc_name a.sets a.acceptance a.properties a.unknown x) same_defined)))))))))

-- the marks of a trimmed automaton rise, since those of the automaton do
module _ (a : Description) (kept : List ℕ) where
  edges_rise : (as_written : Bool) (count : ℕ) (state : State) (index : ℕ) (edges : List Edge) → AllByRecursion (automaton.IsEdge a) edges
      → AllByRecursion (λ edge. IsStrictlyIncreasing edge.marks) (edges_kept kept as_written count state index edges)
  edges_rise as_written count state index [] are = tt
  edges_rise as_written count state index (edge ∷ edges) are = go (edge_stays kept edge) (edges_rise as_written count state (index + 1) edges are.1)
    where
      go : (b : Bool) → AllByRecursion (λ edge. IsStrictlyIncreasing edge.marks) (edges_kept kept as_written count state (index + 1) edges)
          → AllByRecursion (λ edge. IsStrictlyIncreasing edge.marks)
          (cond b (edge_kept kept as_written count state index edge ∷ edges_kept kept as_written count state (index + 1) edges) (edges_kept kept as_written count state (index + 1) edges))
      go true rest = (are.0.marks.rising, rest)
      go false rest = rest

  states_rise : (count : ℕ) (states : List State) → AllByRecursion (automaton.IsState a) states → AllByRecursion HasRisingMarks (states_kept kept count states)
  states_rise count [] are = tt
  states_rise count (state ∷ states) are = go (stays kept state.number) (states_rise count states are.1)
    where
      go : (b : Bool) → AllByRecursion HasRisingMarks (states_kept kept count states)
          → AllByRecursion HasRisingMarks
          (map (state_kept kept count) (cond b (state ∷ filter (λ (s : State). stays kept s.number) states) (filter (λ (s : State). stays kept s.number) states)))
      go true rest = (
        record {
          own = are.0.marks.rising;
          edges = edges_rise (keeps_labels kept state) count state 0 state.edges (recursion_from_All (automaton.IsEdge a) state.edges are.0.edges);
        },
        rest,
      )
      go false rest = rest

  pub trimmed_rises : (is : IsAutomaton a) → AllByRecursion HasRisingMarks (trimmed kept a).defined
  trimmed_rises is = states_rise (length a.propositions) a.defined (recursion_from_All (automaton.IsState a) a.defined is.states)
