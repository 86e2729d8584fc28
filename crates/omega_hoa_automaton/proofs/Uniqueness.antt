-- An automaton that is written means at most one automaton.
use Rattle.std.proofs.Common.{◌≡◌, ℕ, List, [], ◌∷◌, Option, Some, None, refl, ap, sym, ◌∙◌}
use Rattle.std.specs.List.{AllZip}
use Rattle.omega_hoa_acceptance.specs.Acceptance.{AccTree}
use Rattle.omega_hoa_label_text.specs.Expanding.{Defined}
use Rattle.omega_hoa_label.specs.Label.{LabelTree}
use Rattle.omega_hoa_label.specs.Raw.{RawLabelTree}
use Rattle.omega_hoa_acceptance.specs.declared.name.AccName.{AccName}
use Rattle.omega_hoa_syntax.specs.declared.raw_automaton.RawAutomaton.{RawAutomaton}
use Rattle.omega_hoa_syntax.specs.declared.raw_edge.RawEdge.{RawEdge}
use Rattle.omega_hoa_syntax.specs.declared.raw_state.RawState.{RawState}
use Rattle.omega_hoa_automaton.specs.Automaton.{Description}
use Rattle.omega_hoa_automaton.specs.Faults.{definitions_of}
use Rattle.omega_hoa_automaton.specs.Meaning.{AreMarksOf, IsEdgeOf, IsLabelOf, IsStateOf, Means}
use Rattle.omega_hoa_automaton.specs.declared.edge.Edge.{Edge}
use Rattle.omega_hoa_automaton.specs.declared.header.Header.{Header}
use Rattle.omega_hoa_automaton.specs.declared.state.State.{State}
use Rattle.omega_hoa_automaton.specs.declared.tool.Tool.{Tool}
use Rattle.omega_hoa_automaton.proofs.MarkLemmas.{rising_is_one}

-- marks that are written have one set
marks_one : (written a b : List ℕ) → AreMarksOf written a → AreMarksOf written b → a ≡ b
marks_one written a b one other =
    rising_is_one a b one.rising other.rising
    (λ m h. (other.same m).1 ((one.same m).0 h)) (λ m h. (one.same m).1 ((other.same m).0 h))

-- equal values that are there
inside : {X : Type 0} (x y : X) → Some x ≡ Some y → x ≡ y
inside x y e = cc

-- a label means at most one label
labels_one : (definitions : List Defined) (raw : Option RawLabelTree) (a b : Option LabelTree)
    → IsLabelOf definitions raw a → IsLabelOf definitions raw b → a ≡ b
labels_one definitions None None None one other = refl
labels_one definitions None None (Some y) one other = absurd other
labels_one definitions None (Some x) b one other = absurd one
labels_one definitions (Some raw) None b one other = absurd one
labels_one definitions (Some raw) (Some x) None one other = absurd other
labels_one definitions (Some raw) (Some x) (Some y) one other = sym one.tree_is ∙ other.tree_is

-- what is related one by one is one, if each item is
zip_one : {A B : Type 0} (R : A → B → Type 0) → ((x : A) (a b : B) → R x a → R x b → a ≡ b)
    → (xs : List A) (as_ bs : List B) → AllZip R xs as_ → AllZip R xs bs → as_ ≡ bs
zip_one R each [] [] [] one other = refl
zip_one R each [] [] (b ∷ bs) one other = absurd other
zip_one R each [] (a ∷ as_) bs one other = absurd one
zip_one R each (x ∷ xs) [] bs one other = absurd one
zip_one R each (x ∷ xs) (a ∷ as_) [] one other = absurd other
zip_one R each (x ∷ xs) (a ∷ as_) (b ∷ bs) one other =
    ap (λ y. y ∷ as_) (each x a b one.0 other.0) ∙ ap (λ ys. b ∷ ys) (zip_one R each xs as_ bs one.1 other.1)

-- an edge of these parts
abbrev edge_with : Option LabelTree → List ℕ → List ℕ → Edge
edge_with label targets marks = record { label = label; targets = targets; marks = marks }

-- an edge means at most one edge
edges_one : (definitions : List Defined) (raw : RawEdge) (a b : Edge) → IsEdgeOf definitions raw a → IsEdgeOf definitions raw b → a ≡ b
edges_one definitions raw a b one other =
    let same_label : a.label ≡ b.label = labels_one definitions raw.label a.label b.label one.label other.label in
    let same_targets : a.targets ≡ b.targets = one.targets ∙ sym other.targets in
    let same_marks : a.marks ≡ b.marks = marks_one _ a.marks b.marks one.marks other.marks in
    ap (λ x. edge_with x a.targets a.marks) same_label
    ∙ (ap (λ x. edge_with b.label x a.marks) same_targets
    ∙ (ap (λ x. edge_with b.label b.targets x) same_marks))

-- a state of these parts
abbrev state_with : Option LabelTree → ℕ → Option (List ℕ) → List ℕ → List Edge → State
state_with label number name marks edges = record { label = label; number = number; name = name; marks = marks; edges = edges }

-- a state means at most one state
states_one : (definitions : List Defined) (raw : RawState) (a b : State) → IsStateOf definitions raw a → IsStateOf definitions raw b → a ≡ b
states_one definitions raw a b one other =
    let same_label : a.label ≡ b.label = labels_one definitions raw.label a.label b.label one.label other.label in
    let same_number : a.number ≡ b.number = one.number ∙ sym other.number in
    let same_name : a.name ≡ b.name = one.name ∙ sym other.name in
    let same_marks : a.marks ≡ b.marks = marks_one _ a.marks b.marks one.marks other.marks in
    let same_edges : a.edges ≡ b.edges = zip_one (IsEdgeOf definitions) (edges_one definitions) raw.edges a.edges b.edges one.edges other.edges in
    ap (λ x. state_with x a.number a.name a.marks a.edges) same_label
    ∙ (ap (λ x. state_with b.label x a.name a.marks a.edges) same_number
    ∙ (ap (λ x. state_with b.label b.number x a.marks a.edges) same_name
    ∙ (ap (λ x. state_with b.label b.number b.name x a.edges) same_marks
    ∙ (ap (λ x. state_with b.label b.number b.name b.marks x) same_edges))))

-- an automaton of these parts
abbrev automaton_with : Option Tool → Option (List ℕ) → ℕ → List (List ℕ) → List (List ℕ) → Option AccName → ℕ → AccTree → List (List ℕ) → List Header → List State → Description
automaton_with tool name states starts propositions acc_name sets acceptance properties unknown defined = record { tool = tool; name = name; states = states; starts = starts; propositions = propositions; acc_name = acc_name; sets = sets; acceptance = acceptance; properties = properties; unknown = unknown; defined = defined }

-- an automaton that is written means at most one automaton
pub meanings_one : (raw : RawAutomaton) (a b : Description) → Means raw a → Means raw b → a ≡ b
meanings_one raw a b one other =
    let same_tool : a.tool ≡ b.tool = one.tool ∙ sym other.tool in
    let same_name : a.name ≡ b.name = one.name ∙ sym other.name in
    let same_states : a.states ≡ b.states = one.states ∙ sym other.states in
    let same_starts : a.starts ≡ b.starts = one.starts ∙ sym other.starts in
    let same_propositions : a.propositions ≡ b.propositions = one.propositions ∙ sym other.propositions in
    let same_acc_name : a.acc_name ≡ b.acc_name = one.acc_name ∙ sym other.acc_name in
    let same_sets : a.sets ≡ b.sets = one.sets ∙ sym other.sets in
    let same_acceptance : a.acceptance ≡ b.acceptance = inside a.acceptance b.acceptance (sym one.acceptance ∙ other.acceptance) in
    let same_properties : a.properties ≡ b.properties = one.properties ∙ sym other.properties in
    let same_unknown : a.unknown ≡ b.unknown = one.unknown ∙ sym other.unknown in
    let same_defined : a.defined ≡ b.defined = zip_one (IsStateOf (definitions_of raw)) (states_one (definitions_of raw)) raw.states a.defined b.defined one.defined other.defined in
    ap (λ x. automaton_with x a.name a.states a.starts a.propositions a.acc_name a.sets a.acceptance a.properties a.unknown a.defined) same_tool
    ∙ (ap (λ x. automaton_with b.tool x a.states a.starts a.propositions a.acc_name a.sets a.acceptance a.properties a.unknown a.defined) same_name
    ∙ (ap (λ x. automaton_with b.tool b.name x a.starts a.propositions a.acc_name a.sets a.acceptance a.properties a.unknown a.defined) same_states
    ∙ (ap (λ x. automaton_with b.tool b.name b.states x a.propositions a.acc_name a.sets a.acceptance a.properties a.unknown a.defined) same_starts
    ∙ (ap (λ x. automaton_with b.tool b.name b.states b.starts x a.acc_name a.sets a.acceptance a.properties a.unknown a.defined) same_propositions
    ∙ (ap (λ x. automaton_with b.tool b.name b.states b.starts b.propositions x a.sets a.acceptance a.properties a.unknown a.defined) same_acc_name
    ∙ (ap (λ x. automaton_with b.tool b.name b.states b.starts b.propositions b.acc_name x a.acceptance a.properties a.unknown a.defined) same_sets
    ∙ (ap (λ x. automaton_with b.tool b.name b.states b.starts b.propositions b.acc_name b.sets x a.properties a.unknown a.defined) same_acceptance
    ∙ (ap (λ x. automaton_with b.tool b.name b.states b.starts b.propositions b.acc_name b.sets b.acceptance x a.unknown a.defined) same_properties
    ∙ (ap (λ x. automaton_with b.tool b.name b.states b.starts b.propositions b.acc_name b.sets b.acceptance b.properties x a.defined) same_unknown
    ∙ (ap (λ x. automaton_with b.tool b.name b.states b.starts b.propositions b.acc_name b.sets b.acceptance b.properties b.unknown x) same_defined))))))))))
