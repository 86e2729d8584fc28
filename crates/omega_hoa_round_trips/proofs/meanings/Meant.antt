-- The automaton that a canonical text writes means the one that it was written of.
use Rattle.std.proofs.Common.{◌≡◌, ℕ, ◌≤◌, cond, nat_lt, Option, Some, None, option_map, List, [], ◌∷◌, map, ap, refl, sym, ◌∙◌, subst}
use Rattle.std.specs.Prelude.{IfSome, option_and_then, slice_get, unwrap_or}
use Rattle.std.specs.List.{AllByRecursion, AllZip, filter_map}
use Rattle.std.specs.List.Sorted.{IsStrictlyIncreasing}
use Rattle.std.proofs.lemmas.Bool.{le-ltb}
use Rattle.std.proofs.lemmas.List.Elements.{recursion_from_All}
use Rattle.omega_text.specs.declared.refusal.automaton.AutomatonFault.TheVariants.{Expansion, TooDeep}
use Rattle.omega_hoa_acceptance.specs.Meaning.{acc_meant}
use Rattle.omega_hoa_acceptance.specs.Reading.{IsAccOf}
use Rattle.omega_hoa_label_text.specs.Expanding.{Defined, fault_of_meaning}
use Rattle.omega_hoa_label.specs.Label.{LabelTree, label_size}
use Rattle.omega_hoa_expression.specs.Limits.{most_depth, most_size}
use Rattle.omega_hoa_acceptance.specs.Raw.{raw_acc_depth}
use Rattle.omega_hoa_label.specs.Raw.{RawLabelTree, raw_depth}
use Rattle.omega_hoa_label_text.specs.Reading.{IsOf}
use Rattle.omega_hoa_expression.specs.Symbols.{disjunctive}
use Rattle.omega_hoa_label.specs.Writing.{label_written}
use Rattle.omega_hoa_acceptance.specs.Writing.{acc_written}
use Rattle.omega_acc.specs.WritingLaws.{AreExpressions, WrittenFormulasAreShallowest, WrittenFormulasMean, WrittenLabelsAreShallowest, WrittenLabelsMean}
use Rattle.omega_hoa_syntax.specs.declared.raw_automaton.RawAutomaton.{RawAutomaton}
use Rattle.omega_hoa_syntax.specs.declared.raw_item.RawItem.{RawItem}
use Rattle.omega_hoa_syntax.specs.declared.raw_item.RawItem.TheVariants as item
use Rattle.omega_hoa_automaton.specs.Automaton.{Description, IsAutomaton}
use Rattle.omega_hoa_automaton.specs.Automaton as automaton
use Rattle.omega_hoa_automaton.specs.Faults.{definitions_of, has_deep_expression, mentioned_count}
use Rattle.omega_hoa_automaton.specs.Items.{acceptance_in, alias_in}
use Rattle.omega_hoa_automaton.specs.Laws.{MeaningsHaveNoFault}
use Rattle.omega_hoa_automaton.specs.Meaning.{AreMarksOf, IsEdgeOf, IsLabelOf, IsStateOf, Means, written_marks}
use Rattle.omega_hoa_automaton.specs.declared.edge.Edge.{Edge}
use Rattle.omega_hoa_automaton.specs.declared.state.State.{State}
use Rattle.omega_text.specs.declared.refusal.automaton.AutomatonFault.TheVariants as fault
use Rattle.omega_hoa_round_trips.specs.Written.{edge_written, marks_written, state_written, written_automaton}
use Rattle.omega_hoa_round_trips.proofs.meanings.Expressions.{formula-shallow, label-shallow}
use Rattle.omega_hoa_round_trips.proofs.meanings.Faultless.{IsFine, IsFineState, faultless}
use Rattle.omega_hoa_round_trips.proofs.meanings.Form.{HasForm, form-kept}
use Rattle.omega_hoa_round_trips.proofs.meanings.Said.{acc_name-said, acceptance-said, aliases-said, first-acc_name, first-name, first-tool, name-said, properties-said, propositions-said, starts-said, states-said, tool-said, unknown-said}
use Rattle.omega_hoa_round_trips.proofs.meanings.Tests.{all-zip, any-passes, zip-made}
use Rattle.omega_hoa_round_trips.proofs.values.Kept.{all-both, filtered}
use Rattle.omega_hoa_round_trips.proofs.values.Rows.{IsReadAutomaton, IsReadEdge, IsReadItem, IsReadLabel, IsReadState}
use Rattle.omega_hoa_round_trips.proofs.texts.Spelled.{or-left}

-- what is known of written expressions, and of what means something
pub record Meanings : Type 0 where
  pub label_means : WrittenLabelsMean
  pub formula_means : WrittenFormulasMean
  pub label_depths : WrittenLabelsAreShallowest
  pub formula_depths : WrittenFormulasAreShallowest
  pub no_fault : MeaningsHaveNoFault

-- ---- what was read

alias-read : (it : RawItem) → IsReadItem it → IfSome (alias_in it) (λ defined. IsOf disjunctive defined.body)
alias-read (item.Alias name definition) is = is
alias-read other is = tt

formula-read : (it : RawItem) → IsReadItem it → IfSome (acceptance_in it) (λ accepted. IsAccOf disjunctive accepted.formula)
formula-read (item.Acceptance count tree) is = is.1
formula-read other is = tt

expressions : (definitions : List Defined) → AllByRecursion (λ defined. IsOf disjunctive defined.body) definitions → AreExpressions definitions
expressions [] all = tt
expressions (defined ∷ definitions) all = (all.0, expressions definitions all.1)

-- the definitions of an automaton that was read
definitions-read : (raw : RawAutomaton) → IsReadAutomaton raw → AreExpressions (definitions_of raw)
definitions-read raw read =
    expressions (definitions_of raw) (filtered alias_in IsReadItem (λ defined. IsOf disjunctive defined.body) alias-read raw.items read.items)

-- its formula is not too deep as it is written
formula-fits : Meanings → (raw : RawAutomaton) (a : Description) → IsReadAutomaton raw → Means raw a → raw_acc_depth (acc_written a.acceptance) ≤ most_depth
unfolding has_deep_expression
formula-fits known raw a read means =
    formula-shallow known.formula_depths (filter_map acceptance_in raw.items) a.acceptance
    (filtered acceptance_in IsReadItem (λ accepted. IsAccOf disjunctive accepted.formula) formula-read raw.items read.items)
    means.acceptance
    (sym (any-passes acceptance_in (λ accepted. nat_lt most_depth (raw_acc_depth accepted.formula)) raw.items) ∙ or-left _ _ (known.no_fault raw a fault.TooDeep means))

-- its labels are not
fine-label : Meanings → (a : Description) (definitions : List Defined) → AreExpressions definitions → (raw : Option RawLabelTree) (label : Option LabelTree)
    → IsLabelOf definitions raw label → IfSome raw IsReadLabel → IfSome label (automaton.IsLabel a) → IfSome label (IsFine a)
fine-label known a definitions are None None of read is = tt
fine-label known a definitions are None (Some tree) of read is = absurd of
fine-label known a definitions are (Some raw) None of read is = absurd of
fine-label known a definitions are (Some raw) (Some tree) of read is =
    record { label = is; shallow = label-shallow known.label_depths definitions raw tree are read of }

-- so are those of its states
pub fine-states : Meanings → (raw : RawAutomaton) (a : Description) → IsReadAutomaton raw → Means raw a → IsAutomaton a → AllByRecursion (IsFineState a) a.defined
fine-states known raw a read means is =
    let are = definitions-read raw read in
    all-zip (IsStateOf (definitions_of raw)) IsReadState (automaton.IsState a) (IsFineState a)
    (λ one state of was here. record {
      label = fine-label known a (definitions_of raw) are one.label state.label of.label was.label here.label;
      edges = all-zip (IsEdgeOf (definitions_of raw)) IsReadEdge (automaton.IsEdge a) (λ edge. IfSome edge.label (IsFine a))
          (λ first edge from had there. fine-label known a (definitions_of raw) are first.label edge.label from.label had.label there.label)
          one.edges state.edges of.edges was.edges (recursion_from_All (automaton.IsEdge a) state.edges here.edges);
    })
    raw.states a.defined means.defined read.states (recursion_from_All (automaton.IsState a) a.defined is.states)

-- ---- what is written

marks-same : (marks : List ℕ) → written_marks (marks_written marks) ≡ marks
marks-same [] = refl
marks-same (first ∷ others) = refl

marks-of : (marks : List ℕ) → IsStrictlyIncreasing marks → AreMarksOf (written_marks (marks_written marks)) marks
marks-of marks rising =
    subst (λ read. AreMarksOf read marks) (sym (marks-same marks)) (record { rising = rising; same = λ mark. (λ has. has, λ has. has) })

label-of : Meanings → (a : Description) (it : Option LabelTree) → IfSome it (IsFine a) → IsLabelOf [] (option_map label_written it) it
label-of known a None is = tt
label-of known a (Some tree) is = record {
  sound = ap fault_of_meaning (known.label_means [] tree).means
      ∙ (ap (λ deep. cond deep (Some TooDeep) (cond (nat_lt most_size (label_size tree)) (Some Expansion) None)) (le-ltb most_depth (raw_depth (label_written tree)) is.shallow)
      ∙ ap (λ large. cond large (Some Expansion) None) (le-ltb most_size (label_size tree) is.label.small));
  tree_is = ap (option_map (λ meaning. meaning.tree)) (known.label_means [] tree).means;
}

edge-of : Meanings → (a : Description) (edge : Edge) → automaton.IsEdge a edge × IfSome edge.label (IsFine a) → IsEdgeOf [] (edge_written edge) edge
edge-of known a edge is = record { label = label-of known a edge.label is.1; targets = refl; marks = marks-of edge.marks is.0.marks.rising }

state-of : Meanings → (a : Description) (state : State) → automaton.IsState a state × IsFineState a state → IsStateOf [] (state_written state) state
state-of known a state is = record {
  label = label-of known a state.label is.1.label;
  number = refl;
  name = refl;
  marks = marks-of state.marks is.0.marks.rising;
  edges = zip-made (IsEdgeOf []) edge_written (λ edge. automaton.IsEdge a edge × IfSome edge.label (IsFine a)) (edge-of known a) state.edges
      (all-both (automaton.IsEdge a) (λ edge. IfSome edge.label (IsFine a)) state.edges (recursion_from_All (automaton.IsEdge a) state.edges is.0.edges) is.1.edges);
}

-- the automaton as it is written means the automaton, if this has the form that texts give one
pub form-means : Meanings → (a : Description) → IsAutomaton a → AllByRecursion (IsFineState a) a.defined → raw_acc_depth (acc_written a.acceptance) ≤ most_depth
    → HasForm a → Means (written_automaton a) a
form-means known a is fine shallow form =
    let states : AllZip (IsStateOf []) (map state_written a.defined) a.defined =
    zip-made (IsStateOf []) state_written (λ state. automaton.IsState a state × IsFineState a state) (state-of known a) a.defined
    (all-both (automaton.IsState a) (IsFineState a) a.defined (recursion_from_All (automaton.IsState a) a.defined is.states) fine) in
    record {
      faultless = faultless known.label_means known.formula_means a is fine shallow form;
      tool = sym (ap (λ said. slice_get said 0) (tool-said a) ∙ first-tool a.tool);
      name = sym (ap (λ said. slice_get said 0) (name-said a) ∙ first-name a.name);
      states = sym (ap (λ said. unwrap_or (slice_get said 0) (mentioned_count (written_automaton a))) (states-said a));
      starts = sym (starts-said a);
      propositions = sym (ap (λ said. unwrap_or (option_map (λ named. named.names) (slice_get said 0)) []) (propositions-said a));
      acc_name = sym (ap (λ said. slice_get said 0) (acc_name-said a) ∙ first-acc_name a.acc_name);
      sets = sym (ap (λ said. unwrap_or (option_map (λ accepted. accepted.count) (slice_get said 0)) 0) (acceptance-said a));
      acceptance = ap (λ said. option_and_then (λ accepted. acc_meant accepted.formula) (slice_get said 0)) (acceptance-said a) ∙ (known.formula_means a.acceptance).means;
      properties = sym (properties-said a);
      unknown = sym (unknown-said a);
      defined = subst (λ definitions. AllZip (IsStateOf definitions) (map state_written a.defined) a.defined) (sym (aliases-said a)) states;
    }

-- so does one that was read
pub written-means : Meanings → (raw : RawAutomaton) (a : Description) → IsReadAutomaton raw → Means raw a → IsAutomaton a → Means (written_automaton a) a
written-means known raw a read means is =
    form-means known a is (fine-states known raw a read means is) (formula-fits known raw a read means) (form-kept raw a means (λ one. known.no_fault raw a one means))
