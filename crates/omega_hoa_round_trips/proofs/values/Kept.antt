-- What an automaton keeps that is meant by one that was read: all that its canonical text needs.
use Rattle.std.proofs.Common.{ℕ, ◌<◌, ◌≤◌, Option, Some, None, List, [], ◌∷◌, ◌++◌, option_map, length, sym, subst, arith}
use Rattle.std.specs.Prelude.{IfSome, slice_get, unwrap_or}
use Rattle.std.specs.List.{AllByRecursion, AllZip, cons_option, filter_map, flat_map}
use Rattle.std.proofs.lemmas.List.Elements.{recursion_from_All}
use Rattle.omega_text.specs.hoa.Forms.{IsQuotable}
use Rattle.omega_hoa_acceptance.specs.Acceptance.{AccTree}
use Rattle.omega_hoa_acceptance.specs.Acceptance as acc
use Rattle.omega_hoa_label_text.specs.Expanding.{Defined}
use Rattle.omega_hoa_label.specs.Label.{LabelTree, conjunction, constant, disjunction, negation, proposition, propositions}
use Rattle.omega_hoa_label.specs.Writing.{NumbersFit}
use Rattle.omega_hoa_acceptance.specs.Writing.{SetsFit}
use Rattle.omega_hoa_syntax.specs.Grammar.{IsRawItem}
use Rattle.omega_hoa_syntax.specs.declared.raw_automaton.RawAutomaton.{RawAutomaton}
use Rattle.omega_hoa_syntax.specs.declared.raw_item.RawItem.{RawItem}
use Rattle.omega_hoa_syntax.specs.declared.raw_item.RawItem.TheVariants as item
use Rattle.omega_hoa_syntax.specs.declared.raw_state.RawState.{RawState}
use Rattle.omega_hoa_automaton.specs.Automaton.{Description, IsAutomaton, sets_of}
use Rattle.omega_hoa_automaton.specs.Automaton as automaton
use Rattle.omega_hoa_automaton.specs.Faults.{definitions_of, mentioned_count}
use Rattle.omega_hoa_automaton.specs.Items.{Accepted, Named, acc_name_in, acceptance_in, first_said, name_in, properties_in, propositions_in, start_in, states_in, tool_in, unknown_in}
use Rattle.omega_hoa_automaton.specs.Meaning.{IsStateOf, Means}
use Rattle.omega_hoa_automaton.specs.declared.edge.Edge.{Edge}
use Rattle.omega_hoa_automaton.specs.declared.state.State.{State}
use Rattle.omega_hoa_round_trips.specs.Writable.{AreJoined, IsWritableNumber, IsIdentifier, IsWritableAutomaton, IsWritableEdge, IsWritableHeader, IsWritableName, IsWritableState, IsWritableTool}
use Rattle.omega_hoa_round_trips.proofs.texts.Lists.{all-append, all-then}
use Rattle.omega_hoa_round_trips.proofs.values.Rows.{IsReadAutomaton, IsReadItem, IsReadState}

-- ---- lists

-- two facts of each value are one
pub all-both : {X : Type 0} (One Other : X → Type 0) (items : List X) → AllByRecursion One items → AllByRecursion Other items → AllByRecursion (λ it. One it × Other it) items
all-both One Other [] one other = tt
all-both One Other (it ∷ items) one other = ((one.0, other.0), all-both One Other items one.1 other.1)

-- what holds of two lists, one after the other, holds of each
pub all-first : {X : Type 0} (Is : X → Type 0) (first second : List X) → AllByRecursion Is (first ++ second) → AllByRecursion Is first
all-first Is [] second all = tt
all-first Is (it ∷ first) second all = (all.0, all-first Is first second all.1)

pub all-second : {X : Type 0} (Is : X → Type 0) (first second : List X) → AllByRecursion Is (first ++ second) → AllByRecursion Is second
all-second Is [] second all = all
all-second Is (it ∷ first) second all = all-second Is first second all.1

cons-kept : {X : Type 0} (Such : X → Type 0) (it : Option X) (others : List X) → IfSome it Such → AllByRecursion Such others → AllByRecursion Such (cons_option it others)
cons-kept Such None others is all = all
cons-kept Such (Some it) others is all = (is, all)

-- what items say is such if each item says such a thing
pub filtered : {X Y : Type 0} (says : X → Option Y) (Is : X → Type 0) (Such : Y → Type 0) → ((it : X) → Is it → IfSome (says it) Such)
    → (items : List X) → AllByRecursion Is items → AllByRecursion Such (filter_map says items)
filtered says Is Such then [] all = tt
filtered says Is Such then (it ∷ items) all =
    cons-kept Such (says it) (filter_map says items) (then it all.0) (filtered says Is Such then items all.1)

flattened : {X Y : Type 0} (says : X → List Y) (Is : X → Type 0) (Such : Y → Type 0) → ((it : X) → Is it → AllByRecursion Such (says it))
    → (items : List X) → AllByRecursion Is items → AllByRecursion Such (flat_map says items)
flattened says Is Such then [] all = tt
flattened says Is Such then (it ∷ items) all = all-append Such (says it) (flat_map says items) (then it all.0) (flattened says Is Such then items all.1)

first-kept : {X : Type 0} (Such : X → Type 0) (items : List X) → AllByRecursion Such items → IfSome (slice_get items 0) Such
first-kept Such [] all = tt
first-kept Such (it ∷ items) all = all.0

-- ---- items

-- what an item keeps that was read
abbrev pub IsKeptItem : RawItem → Type 0
IsKeptItem it = IsReadItem it × IsRawItem it

tool-kept : (it : RawItem) → IsKeptItem it → IfSome (tool_in it) IsWritableTool
tool-kept (item.Tool first second) is = record { name = is.0.0; version = is.0.1 }
tool-kept other is = tt

name-kept : (it : RawItem) → IsKeptItem it → IfSome (name_in it) IsQuotable
name-kept (item.Name bytes) is = is.0
name-kept other is = tt

states-kept : (it : RawItem) → IsKeptItem it → IfSome (states_in it) IsWritableNumber
states-kept (item.States count) is = is.0
states-kept other is = tt

start-kept : (it : RawItem) → IsKeptItem it → IfSome (start_in it) AreJoined
start-kept (item.Start states) is = record { listed = is.1; fit = is.0 }
start-kept other is = tt

propositions-kept : (it : RawItem) → IsKeptItem it → IfSome (propositions_in it) (λ named. AllByRecursion IsQuotable named.names)
propositions-kept (item.Propositions count names) is = is.0
propositions-kept other is = tt

acc_name-kept : (it : RawItem) → IsKeptItem it → IfSome (acc_name_in it) IsWritableName
acc_name-kept (item.AccName name) is = is.0
acc_name-kept other is = tt

acceptance-kept : (it : RawItem) → IsKeptItem it → IfSome (acceptance_in it) (λ accepted. IsWritableNumber accepted.count)
acceptance-kept (item.Acceptance count tree) is = is.0.0
acceptance-kept other is = tt

properties-kept : (it : RawItem) → IsKeptItem it → AllByRecursion IsIdentifier (properties_in it)
properties-kept (item.Properties words) is = is.0
properties-kept other is = tt

unknown-kept : (it : RawItem) → IsKeptItem it → IfSome (unknown_in it) IsWritableHeader
unknown-kept (item.Unknown name values) is = record { word = is.0.0; unknown = is.1; values = is.0.1 }
unknown-kept other is = tt

names-kept : (it : Option Named) → IfSome it (λ named. AllByRecursion IsQuotable named.names) → AllByRecursion IsQuotable (unwrap_or (option_map (λ named. named.names) it) [])
names-kept None is = tt
names-kept (Some named) is = is

count-kept : (it : Option Accepted) → IfSome it (λ accepted. IsWritableNumber accepted.count) → IsWritableNumber (unwrap_or (option_map (λ accepted. accepted.count) it) 0)
count-kept None is = omega arith
count-kept (Some accepted) is = is

mentioned-fits : (raw : RawAutomaton) → IsWritableNumber (mentioned_count raw)
unfolding mentioned_count
mentioned-fits raw = omega arith

stated-kept : (raw : RawAutomaton) (it : Option ℕ) → IfSome it IsWritableNumber → IsWritableNumber (unwrap_or it (mentioned_count raw))
stated-kept raw None is = mentioned-fits raw
stated-kept raw (Some count) is = is

-- ---- expressions

sets-fit : (count : ℕ) (tree : AccTree) → IsWritableNumber count → AllByRecursion (λ set. set < count) (sets_of tree) → SetsFit tree
sets-fit count (acc.constant value) fits all = tt
sets-fit count (acc.inf negated set) fits all = let below : set < count = all.0 in omega arith
sets-fit count (acc.fin negated set) fits all = let below : set < count = all.0 in omega arith
sets-fit count (acc.conjunction left right) fits all =
    (sets-fit count left fits (all-first (λ set. set < count) (sets_of left) (sets_of right) all), sets-fit count right fits (all-second (λ set. set < count) (sets_of left) (sets_of right) all))
sets-fit count (acc.disjunction left right) fits all =
    (sets-fit count left fits (all-first (λ set. set < count) (sets_of left) (sets_of right) all), sets-fit count right fits (all-second (λ set. set < count) (sets_of left) (sets_of right) all))

pub numbers-fit : (count : ℕ) (tree : LabelTree) → IsWritableNumber count → AllByRecursion (λ number. number < count) (propositions tree) → NumbersFit tree
numbers-fit count (constant value) fits all = tt
numbers-fit count (proposition number) fits all = let below : number < count = all.0 in omega arith
numbers-fit count (negation part) fits all = numbers-fit count part fits all
numbers-fit count (conjunction left right) fits all = (
  numbers-fit count left fits (all-first (λ number. number < count) (propositions left) (propositions right) all),
  numbers-fit count right fits (all-second (λ number. number < count) (propositions left) (propositions right) all),
)
numbers-fit count (disjunction left right) fits all = (
  numbers-fit count left fits (all-first (λ number. number < count) (propositions left) (propositions right) all),
  numbers-fit count right fits (all-second (λ number. number < count) (propositions left) (propositions right) all),
)

-- ---- states and edges

below-fit : (count : ℕ) (numbers : List ℕ) → IsWritableNumber count → automaton.AreBelow count numbers → AllByRecursion IsWritableNumber numbers
below-fit count numbers fits below =
    all-then (λ number. number < count) IsWritableNumber (λ number is. omega arith) numbers (recursion_from_All (λ number. number < count) numbers below)

module _ (a : Description) (states : IsWritableNumber a.states) (sets : IsWritableNumber a.sets) (count : IsWritableNumber (length a.propositions)) where
  label-kept : (it : Option LabelTree) → IfSome it (automaton.IsLabel a) → IfSome it NumbersFit
  label-kept None is = tt
  label-kept (Some tree) is = numbers-fit (length a.propositions) tree count (recursion_from_All (λ number. number < length a.propositions) (propositions tree) is.below)

  edge-kept : (edge : Edge) → automaton.IsEdge a edge → IsWritableEdge edge
  edge-kept edge is = record {
    label = label-kept edge.label is.label;
    targets = record { listed = is.targets.listed; fit = below-fit a.states edge.targets states is.targets.below };
    marks = below-fit a.sets edge.marks sets is.marks.below;
  }

  state-kept : (state : State) → IfSome state.name IsQuotable → automaton.IsState a state → IsWritableState state
  state-kept state named is = record {
    label = label-kept state.label is.label;
    number = let below : state.number < a.states = is.number in omega arith;
    name = named;
    marks = below-fit a.sets state.marks sets is.marks.below;
    edges = all-then (automaton.IsEdge a) IsWritableEdge edge-kept state.edges (recursion_from_All (automaton.IsEdge a) state.edges is.edges);
  }

  defined-kept : (definitions : List Defined) (raws : List RawState) (defined : List State) → AllZip (IsStateOf definitions) raws defined
      → AllByRecursion IsReadState raws → AllByRecursion (automaton.IsState a) defined → AllByRecursion IsWritableState defined
  defined-kept definitions [] [] zip read all = tt
  defined-kept definitions [] (state ∷ states) zip read all = absurd zip
  defined-kept definitions (raw ∷ raws) [] zip read all = absurd zip
  defined-kept definitions (raw ∷ raws) (state ∷ states) zip read all =
      (state-kept state (subst (λ it. IfSome it IsQuotable) (sym zip.0.name) read.0.name) all.0, defined-kept definitions raws states zip.1 read.1 all.1)

-- an automaton that is meant by one that was read can be written
pub means-writable : (raw : RawAutomaton) (a : Description) → IsReadAutomaton raw → AllByRecursion IsRawItem raw.items → Means raw a → IsAutomaton a → IsWritableAutomaton a
means-writable raw a read are means is =
    let items : AllByRecursion IsKeptItem raw.items = all-both IsReadItem IsRawItem raw.items read.items are in
    let states : IsWritableNumber a.states = subst IsWritableNumber (sym means.states)
    (stated-kept raw (first_said states_in raw.items) (first-kept IsWritableNumber _ (filtered states_in IsKeptItem IsWritableNumber states-kept raw.items items))) in
    let sets : IsWritableNumber a.sets = subst IsWritableNumber (sym means.sets)
    (count-kept (first_said acceptance_in raw.items)
    (first-kept (λ accepted. IsWritableNumber accepted.count) _ (filtered acceptance_in IsKeptItem (λ accepted. IsWritableNumber accepted.count) acceptance-kept raw.items items))) in
    let few : length a.propositions ≤ 1024 = is.few_propositions in
    let count : IsWritableNumber (length a.propositions) = omega arith in
    record {
      tool = subst (λ it. IfSome it IsWritableTool) (sym means.tool) (first-kept IsWritableTool _ (filtered tool_in IsKeptItem IsWritableTool tool-kept raw.items items));
      name = subst (λ it. IfSome it IsQuotable) (sym means.name) (first-kept IsQuotable _ (filtered name_in IsKeptItem IsQuotable name-kept raw.items items));
      states = states;
      starts = subst (AllByRecursion AreJoined) (sym means.starts) (filtered start_in IsKeptItem AreJoined start-kept raw.items items);
      count = count;
      propositions = subst (AllByRecursion IsQuotable) (sym means.propositions)
          (names-kept (first_said propositions_in raw.items)
          (first-kept (λ named. AllByRecursion IsQuotable named.names) _
          (filtered propositions_in IsKeptItem (λ named. AllByRecursion IsQuotable named.names) propositions-kept raw.items items)));
      acc_name = subst (λ it. IfSome it IsWritableName) (sym means.acc_name) (first-kept IsWritableName _ (filtered acc_name_in IsKeptItem IsWritableName acc_name-kept raw.items items));
      sets = sets;
      acceptance = sets-fit a.sets a.acceptance sets (recursion_from_All (λ set. set < a.sets) (sets_of a.acceptance) is.sets);
      properties = subst (AllByRecursion IsIdentifier) (sym means.properties) (flattened properties_in IsKeptItem IsIdentifier properties-kept raw.items items);
      unknown = subst (AllByRecursion IsWritableHeader) (sym means.unknown) (filtered unknown_in IsKeptItem IsWritableHeader unknown-kept raw.items items);
      defined = defined-kept a states sets count (definitions_of raw) raw.states a.defined means.defined read.states (recursion_from_All (automaton.IsState a) a.defined is.states);
    }
