-- What the items, states and edges of an automaton keep that was read: what their symbols say.
use Rattle.std.proofs.Common.{true, false, Some, None, List, [], ◌∷◌}
use Rattle.std.specs.Prelude.{IfSome}
use Rattle.std.specs.List.{AllByRecursion}
use Rattle.omega_text.specs.Forms.{IsWord}
use Rattle.omega_text.specs.hoa.Forms.{IsQuotable}
use Rattle.omega_hoa_acceptance.specs.Reading.{IsAccOf}
use Rattle.omega_hoa_label.specs.Raw.{RawLabelTree}
use Rattle.omega_hoa_label_text.specs.Reading.{IsOf}
use Rattle.omega_hoa_expression.specs.Symbols.{disjunctive}
use Rattle.omega_hoa_acceptance.specs.declared.name.Parameter.TheVariants as parameter
use Rattle.omega_hoa_syntax.specs.Grammar.{boolean_row, conj_row, each, edge_row, int_row, item_row, joined_row, label_row, optional_row, parameter_row, sig_row, automaton_symbols, state_row, string_row, value_row, word_row}
use Rattle.omega_hoa_syntax.specs.Symbols.{AutomatonSymbol}
use Rattle.omega_hoa_syntax.specs.declared.header_value.HeaderValue.TheVariants as value
use Rattle.omega_hoa_syntax.specs.declared.raw_automaton.RawAutomaton.{RawAutomaton}
use Rattle.omega_hoa_syntax.specs.declared.raw_edge.RawEdge.{RawEdge}
use Rattle.omega_hoa_syntax.specs.declared.raw_item.RawItem.{RawItem}
use Rattle.omega_hoa_syntax.specs.declared.raw_item.RawItem.TheVariants as item
use Rattle.omega_hoa_syntax.specs.declared.raw_state.RawState.{RawState}
use Rattle.omega_hoa_round_trips.specs.Writable.{IsWritableNumber, IsIdentifier, IsWritableName, IsWritableParameter, IsWritableValue}
use Rattle.omega_hoa_round_trips.proofs.values.Symbols.{IsSaid}

-- what the symbols say
abbrev pub AreSaid : List AutomatonSymbol → Type 0
AreSaid symbols = AllByRecursion IsSaid symbols

-- what an item keeps that was read
abbrev pub IsReadItem : RawItem → Type 0
IsReadItem (item.States count) = IsWritableNumber count
IsReadItem (item.Start states) = AllByRecursion IsWritableNumber states
IsReadItem (item.Propositions count names) = AllByRecursion IsQuotable names
IsReadItem (item.Alias name definition) = IsOf disjunctive definition
IsReadItem (item.Acceptance count tree) = IsWritableNumber count × IsAccOf disjunctive tree
IsReadItem (item.AccName name) = IsWritableName name
IsReadItem (item.Tool first second) = IsQuotable first × IfSome second IsQuotable
IsReadItem (item.Name bytes) = IsQuotable bytes
IsReadItem (item.Properties words) = AllByRecursion IsIdentifier words
IsReadItem (item.Unknown name values) = IsWord name × AllByRecursion IsWritableValue values

-- what a label keeps that was read
abbrev pub IsReadLabel : RawLabelTree → Type 0
IsReadLabel tree = IsOf disjunctive tree

-- what an edge keeps that was read
pub record IsReadEdge (edge : RawEdge) : Type 0 where
  pub label : IfSome edge.label IsReadLabel

-- what a state keeps that was read
pub record IsReadState (state : RawState) : Type 0 where
  pub label : IfSome state.label IsReadLabel
  pub name : IfSome state.name IsQuotable
  pub edges : AllByRecursion IsReadEdge state.edges

-- a row says this of its value, and the rest of the symbols what they say
abbrev Says : {X : Type 0} → (X → List AutomatonSymbol → List AutomatonSymbol) → (X → Type 0) → Type 0
Says {X} row Is = (it : X) (others : List AutomatonSymbol) → AreSaid (row it others) → Is it × AreSaid others

each-says : {X : Type 0} (row : X → List AutomatonSymbol → List AutomatonSymbol) (Is : X → Type 0) → Says row Is → Says (each row) (AllByRecursion Is)
each-says row Is says [] others are = (tt, are)
each-says row Is says (first ∷ more) others are =
    let here = says first (each row more others) are in
    let following = each-says row Is says more others here.1 in
    ((here.0, following.0), following.1)

optional-says : {X : Type 0} (row : X → List AutomatonSymbol → List AutomatonSymbol) (Is : X → Type 0) → Says row Is → Says (optional_row row) (λ it. IfSome it Is)
optional-says row Is says None others are = (tt, are)
optional-says row Is says (Some it) others are = says it others are

int-says : Says int_row IsWritableNumber
int-says it others are = are

string-says : Says string_row IsQuotable
string-says it others are = are

word-says : Says word_row IsIdentifier
word-says it others are = are

joined-says : Says joined_row IsWritableNumber
joined-says it others are = are.1

boolean-says : Says boolean_row (λ it. Unit {0})
boolean-says true others are = are
boolean-says false others are = are

parameter-says : Says parameter_row IsWritableParameter
parameter-says (parameter.Boolean truth) others are = boolean-says truth others are
parameter-says (parameter.Number number) others are = are
parameter-says (parameter.Word bytes) others are = are

value-says : Says value_row IsWritableValue
value-says (value.Boolean truth) others are = boolean-says truth others are
value-says (value.Number number) others are = are
value-says (value.Text bytes) others are = are
value-says (value.Word bytes) others are = are

conj-says : Says conj_row (AllByRecursion IsWritableNumber)
conj-says [] others are = (tt, are)
conj-says (first ∷ more) others are =
    let following = each-says joined_row IsWritableNumber joined-says more others are.1 in
    ((are.0, following.0), following.1)

label-says : Says label_row IsReadLabel
label-says tree others are = (are.1.0, are.1.1.1)

sig-says : Says sig_row (AllByRecursion IsWritableNumber)
sig-says marks others are =
    let inside = each-says int_row IsWritableNumber int-says marks _ are.1 in
    (inside.0, inside.1.1)

item-says : Says item_row IsReadItem
item-says (item.States count) others are = are.1
item-says (item.Start states) others are = conj-says states others are.1
item-says (item.Propositions count names) others are = each-says string_row IsQuotable string-says names others are.1.1
item-says (item.Alias name definition) others are = are.1.1
item-says (item.Acceptance count tree) others are = ((are.1.0, are.1.1.0), are.1.1.1)
item-says (item.AccName name) others are =
    let following = each-says parameter_row IsWritableParameter parameter-says name.parameters others are.1.1 in
    (record { name_is = are.1.0; parameters = following.0 }, following.1)
item-says (item.Tool first second) others are =
    let following = optional-says string_row IsQuotable string-says second others are.1.1 in
    ((are.1.0, following.0), following.1)
item-says (item.Name bytes) others are = are.1
item-says (item.Properties words) others are = each-says word_row IsIdentifier word-says words others are.1
item-says (item.Unknown name values) others are =
    let following = each-says value_row IsWritableValue value-says values others are.1 in
    ((are.0, following.0), following.1)

edge-says : Says edge_row IsReadEdge
edge-says edge others are =
    let guard = optional-says label_row IsReadLabel label-says edge.label _ are in
    let targets = conj-says edge.targets _ guard.1 in
    let marks = optional-says sig_row (AllByRecursion IsWritableNumber) sig-says edge.marks others targets.1 in
    (record { label = guard.0 }, marks.1)

state-says : Says state_row IsReadState
state-says state others are =
    let guard = optional-says label_row IsReadLabel label-says state.label _ are.1 in
    let called = optional-says string_row IsQuotable string-says state.name _ guard.1.1 in
    let marks = optional-says sig_row (AllByRecursion IsWritableNumber) sig-says state.marks _ called.1 in
    let edges = each-says edge_row IsReadEdge edge-says state.edges others marks.1 in
    (record { label = guard.0; name = called.0; edges = edges.0 }, edges.1)

-- what an automaton keeps that was read
pub record IsReadAutomaton (raw : RawAutomaton) : Type 0 where
  pub items : AllByRecursion IsReadItem raw.items
  pub states : AllByRecursion IsReadState raw.states

pub automaton-says : (raw : RawAutomaton) → AreSaid (automaton_symbols raw) → IsReadAutomaton raw
automaton-says raw are =
    let items = each-says item_row IsReadItem item-says raw.items _ are.1.1 in
    let states = each-says state_row IsReadState state-says raw.states _ items.1.1 in
    record { items = items.0; states = states.0 }
