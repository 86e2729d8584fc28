-- When each meaning fault of an automaton text applies, each by itself, and which one the text has (docs/formats.md,
-- meaning of an automaton text).
use Rattle.std.specs.Prelude.{◌≡◌, ℕ, ◌+◌, ◌^◌, Bool, false, true, not, ◌&&◌, ◌||◌, ◌==◌, nat_lt, nat_le, nat_eq}
use Rattle.std.specs.Prelude.{List, [], ◌∷◌, length, map, sum_by, count_by, find, max, min, Option, Some}
use Rattle.std.specs.Prelude.{None, is_some, is_none, option_map, option_and_then, unwrap_or, codes}
use Rattle.std.specs.List.{filter_map, list_all, list_any}
use Rattle.std.specs.Str.{bytes_eq}
use Rattle.omega_text.specs.Limits.{most_number}
use Rattle.omega_text.specs.declared.refusal.automaton.AutomatonFault.{AutomatonFault}
use Rattle.omega_text.specs.declared.refusal.automaton.AutomatonFault.TheVariants.{AcceptanceAtom, Alias}
use Rattle.omega_text.specs.declared.refusal.automaton.AutomatonFault.TheVariants.{Expansion, ImplicitCount}
use Rattle.omega_text.specs.declared.refusal.automaton.AutomatonFault.TheVariants.{MissingAcceptance}
use Rattle.omega_text.specs.declared.refusal.automaton.AutomatonFault.TheVariants.{MixedLabels, Proposition}
use Rattle.omega_text.specs.declared.refusal.automaton.AutomatonFault.TheVariants.{RepeatedHeader, SetRange}
use Rattle.omega_text.specs.declared.refusal.automaton.AutomatonFault.TheVariants.{StateRange, StateTwice}
use Rattle.omega_text.specs.declared.refusal.automaton.AutomatonFault.TheVariants.{TooDeep, UnknownHeader}
use Rattle.omega_text.specs.declared.refusal.automaton.AutomatonFault.TheVariants.{Version}
use Rattle.omega_hoa_acceptance.specs.Meaning.{acc_meant, acc_sets}
use Rattle.omega_hoa_label_text.specs.Expanding.{Defined, Entry, Meaning, entries_of, expansion}
use Rattle.omega_hoa_label.specs.Label.{label_size}
use Rattle.omega_hoa_expression.specs.Limits.{most_depth, most_size}
use Rattle.omega_hoa_acceptance.specs.Raw.{raw_acc_depth}
use Rattle.omega_hoa_label.specs.Raw.{RawLabelTree, raw_propositions}
use Rattle.omega_hoa_syntax.specs.declared.raw_automaton.RawAutomaton.{RawAutomaton}
use Rattle.omega_hoa_syntax.specs.declared.raw_edge.RawEdge.{RawEdge}
use Rattle.omega_hoa_syntax.specs.declared.raw_item.RawItem.{RawItem}
use Rattle.omega_hoa_syntax.specs.declared.raw_state.RawState.{RawState}
use Rattle.omega_hoa_automaton.specs.Automaton.{has_repeat}
use Rattle.omega_hoa_automaton.specs.Items.{Named, Accepted, acc_name_in, acceptance_in}
use Rattle.omega_hoa_automaton.specs.Items.{alias_in, first_said, name_in, propositions_in}
use Rattle.omega_hoa_automaton.specs.Items.{start_in, states_in, tool_in, unknown_in}
use Rattle.omega_hoa_automaton.specs.Limits.{most_propositions, most_total_size}

-- whether a value that may be there passes a test; none does not
abbrev pub passes : {X : Type 0} → (X → Bool) → Option X → Bool
passes test None = false
passes test (Some x) = test x

-- 20: whether the version is another than `v1`
unfoldable pub has_other_version : RawAutomaton → Bool
has_other_version raw = not (bytes_eq raw.version (codes "v1"))

-- whether two or more items say such a thing
abbrev pub stands_twice : {X : Type 0} → (RawItem → Option X) → List RawItem → Bool
stands_twice says items = nat_lt 1 (count_by (λ item. is_some (says item)) items)

-- 21: whether an item that may not repeat is there twice
unfoldable pub has_repeated_item : RawAutomaton → Bool
has_repeated_item raw = stands_twice states_in raw.items || stands_twice propositions_in raw.items
    || stands_twice acceptance_in raw.items || stands_twice acc_name_in raw.items
    || stands_twice tool_in raw.items || stands_twice name_in raw.items

-- 22: whether there is no acceptance
unfoldable pub lacks_acceptance : RawAutomaton → Bool
lacks_acceptance raw = not (list_any (λ item. is_some (acceptance_in item)) raw.items)

-- whether bytes begin with a letter from A to Z
abbrev pub begins_capital : List ℕ → Bool
begins_capital [] = false
begins_capital (byte ∷ rest) = nat_le 65 byte && nat_le byte 90

-- 23: whether a header that the format leaves open begins with a capital
unfoldable pub has_unknown_capital : RawAutomaton → Bool
has_unknown_capital raw =
    list_any (λ item. passes (λ header. begins_capital header.name) (unknown_in item)) raw.items

-- whether states that a start or an edge lists are out of range: not all below a count, or none at all,
-- which no text writes
abbrev pub are_out_of_range : ℕ → List ℕ → Bool
are_out_of_range count [] = true
are_out_of_range count (state ∷ states) = list_any (nat_le count) (state ∷ states)

-- whether a state of the body is out of range: it is not below a count,
-- or an edge of it lists states that are out of range
abbrev pub is_out_of_range : ℕ → RawState → Bool
is_out_of_range count state =
    nat_le count state.number || list_any (λ edge. are_out_of_range count edge.targets) state.edges

-- the greatest number that is given for an item of a list, or 0 for no items
abbrev pub greatest_of : {X : Type 0} → (X → ℕ) → List X → ℕ
greatest_of given [] = 0
greatest_of given (x ∷ xs) = max (given x) (greatest_of given xs)

-- the greatest of some numbers plus one, or 0 without numbers
abbrev pub count_above : List ℕ → ℕ
count_above numbers = greatest_of (λ number. number + 1) numbers

-- one more than the greatest state that an item mentions
abbrev pub item_bound : RawItem → ℕ
item_bound item = count_above (unwrap_or (start_in item) [])

-- one more than the greatest state that a state of the body mentions
abbrev pub state_bound : RawState → ℕ
state_bound state =
    max (state.number + 1) (greatest_of (λ edge. count_above edge.targets) state.edges)

-- the greatest mentioned state plus one, or 0 if no state is; at most the greatest number of a text, so that the state
-- 2147483647 is refused 24
unfoldable pub mentioned_count : RawAutomaton → ℕ
mentioned_count raw =
    min most_number (max (greatest_of item_bound raw.items) (greatest_of state_bound raw.states))

-- the count of states: that of `States:`, or by the states mentioned
abbrev pub state_count : RawAutomaton → ℕ
state_count raw = unwrap_or (first_said states_in raw.items) (mentioned_count raw)

-- 24: whether a state that is mentioned is not below the count of states, or a start or an edge lists none
unfoldable pub has_state_out_of_range : RawAutomaton → Bool
has_state_out_of_range raw =
    list_any (λ item. passes (are_out_of_range (state_count raw)) (start_in item)) raw.items
    || list_any (is_out_of_range (state_count raw)) raw.states

-- whether a state of the body or an edge of it has a mark that passes a test
abbrev pub is_marked : (ℕ → Bool) → RawState → Bool
is_marked test state = passes (list_any test) state.marks
    || list_any (λ edge. passes (list_any test) edge.marks) state.edges

-- the count of sets, or 0 if there is no acceptance
abbrev pub set_count : RawAutomaton → ℕ
set_count raw =
    unwrap_or (option_map (λ accepted. accepted.count) (first_said acceptance_in raw.items)) 0

-- whether an acceptance has a set that is not below a count
abbrev pub has_set_beyond : ℕ → Accepted → Bool
has_set_beyond count accepted = not (list_all (λ set. nat_lt set count) (acc_sets accepted.formula))

-- 25: whether a mark of a state or an edge, or a set of an acceptance, is not below the count of sets
unfoldable pub has_set_out_of_range : RawAutomaton → Bool
has_set_out_of_range raw =
    list_any (λ item. passes (has_set_beyond (set_count raw)) (acceptance_in item)) raw.items
    || list_any (is_marked (nat_le (set_count raw))) raw.states

-- whether a label of a state of the body or of an edge of it passes a test
abbrev pub is_labelled : (RawLabelTree → Bool) → RawState → Bool
is_labelled test state =
    passes test state.label || list_any (λ edge. passes test edge.label) state.edges

-- the count of propositions, or 0 if there is no `AP:`
abbrev pub proposition_count : RawAutomaton → ℕ
proposition_count raw =
    unwrap_or (option_map (λ named. named.count) (first_said propositions_in raw.items)) 0

-- the names of the propositions, or none if there is no `AP:`
abbrev pub names_of : RawAutomaton → List (List ℕ)
names_of raw =
    unwrap_or (option_map (λ named. named.names) (first_said propositions_in raw.items)) []

-- whether the names of propositions are not as many as stated, or too many, or alike
abbrev pub is_misnamed : Named → Bool
is_misnamed named = not (named.count == length named.names)
    || nat_lt most_propositions (length named.names) || has_repeat bytes_eq named.names

-- whether a label mentions a proposition that is not below a count
abbrev pub is_beyond : ℕ → RawLabelTree → Bool
is_beyond count label = not (list_all (λ number. nat_lt number count) (raw_propositions label))

-- 26: whether propositions are miscounted, alike or too many, or a label or an alias mentions one out of range
unfoldable pub has_wrong_proposition : RawAutomaton → Bool
has_wrong_proposition raw =
    list_any (λ item. passes is_misnamed (propositions_in item)) raw.items || list_any
    (λ item. passes (λ defined. is_beyond (proposition_count raw) defined.body) (alias_in item)) raw.items
    || list_any (is_labelled (is_beyond (proposition_count raw))) raw.states

-- the aliases with their definitions, in the order of their items
abbrev pub definitions_of : RawAutomaton → List Defined
definitions_of raw = filter_map alias_in raw.items

-- the aliases with what each means: its definition under those before it alone
abbrev pub entries : RawAutomaton → List Entry
entries raw = entries_of [] (definitions_of raw)

-- whether what some alias or some label means, its aliases replaced, passes a test
abbrev pub some_meaning : (Option Meaning → Bool) → RawAutomaton → Bool
some_meaning test raw =
    list_any (λ entry. test entry.meaning) (entries raw)
    || list_any (is_labelled (λ label. test (expansion (definitions_of raw) label))) raw.states

-- 27: whether two aliases have one name, or an alias is used that has no item before its use
unfoldable pub has_wrong_alias : RawAutomaton → Bool
has_wrong_alias raw = has_repeat bytes_eq (map (λ defined. defined.name) (definitions_of raw))
    || some_meaning is_none raw

-- 28: whether two states of the body have one number
unfoldable pub has_state_twice : RawAutomaton → Bool
has_state_twice raw = has_repeat nat_eq (map (λ state. state.number) raw.states)

-- whether an edge has a label
abbrev pub has_label : RawEdge → Bool
has_label edge = is_some edge.label

-- whether labels are both on a state and on an edge of it, or on some of its edges alone
abbrev pub is_mixed : RawState → Bool
is_mixed state = list_any has_label state.edges
    && (is_some state.label || list_any (λ edge. not (has_label edge)) state.edges)

-- 29: whether a state mixes labels
unfoldable pub has_mixed_labels : RawAutomaton → Bool
has_mixed_labels raw = list_any is_mixed raw.states

-- whether neither a state nor an edge of it has a label, and its edges are some, but not one for each valuation
abbrev pub is_miscounted : ℕ → RawState → Bool
is_miscounted count state =
    not (is_some state.label) && not (list_any has_label state.edges)
    && nat_lt 0 (length state.edges) && not (length state.edges == 2 ^ count)

-- 30: whether a state without labels has edges, but not one for each valuation of the propositions
unfoldable pub has_wrong_edge_count : RawAutomaton → Bool
has_wrong_edge_count raw = list_any (is_miscounted (proposition_count raw)) raw.states

-- 31: whether an acceptance has an atom that is neither `Fin` nor `Inf`
unfoldable pub has_wrong_atom : RawAutomaton → Bool
has_wrong_atom raw = list_any
    (λ item. passes (λ accepted. is_none (acc_meant accepted.formula)) (acceptance_in item)) raw.items

-- whether what a label means is too deep; what means nothing is not
abbrev pub is_deep : Option Meaning → Bool
is_deep meaning = passes (λ known. nat_lt most_depth known.depth) meaning

-- whether what a label means is too large; what means nothing is not
abbrev pub is_large : Option Meaning → Bool
is_large meaning = passes (λ known. nat_lt most_size (label_size known.tree)) meaning

-- 32: whether an acceptance, an alias or a label is over 256 deep, its aliases replaced
unfoldable pub has_deep_expression : RawAutomaton → Bool
has_deep_expression raw =
    list_any (λ item. passes (λ accepted. nat_lt most_depth (raw_acc_depth accepted.formula))
    (acceptance_in item)) raw.items || some_meaning is_deep raw

-- the tree nodes of what a label means, or 0 if it means nothing
abbrev pub size_of_meaning : Option Meaning → ℕ
size_of_meaning None = 0
size_of_meaning (Some meaning) = label_size meaning.tree

-- the tree nodes of a label with its aliases replaced, or 0 for no label
abbrev pub size_under : List Defined → Option RawLabelTree → ℕ
size_under definitions label = size_of_meaning (option_and_then (expansion definitions) label)

-- the tree nodes of the labels of a state of the body and of its edges, their aliases replaced
abbrev pub label_total : List Defined → RawState → ℕ
label_total definitions state = size_under definitions state.label
    + sum_by (λ edge. size_under definitions edge.label) state.edges

-- 33: whether an alias or a label, its aliases replaced, has over 65,536 tree nodes, or all labels together over
-- 16,777,216
unfoldable pub has_large_expression : RawAutomaton → Bool
has_large_expression raw =
    some_meaning is_large raw
    || nat_lt most_total_size (sum_by (label_total (definitions_of raw)) raw.states)

-- whether a fault applies
abbrev pub applies : RawAutomaton → AutomatonFault → Bool
applies raw Version = has_other_version raw
applies raw RepeatedHeader = has_repeated_item raw
applies raw MissingAcceptance = lacks_acceptance raw
applies raw UnknownHeader = has_unknown_capital raw
applies raw StateRange = has_state_out_of_range raw
applies raw SetRange = has_set_out_of_range raw
applies raw Proposition = has_wrong_proposition raw
applies raw Alias = has_wrong_alias raw
applies raw StateTwice = has_state_twice raw
applies raw MixedLabels = has_mixed_labels raw
applies raw ImplicitCount = has_wrong_edge_count raw
applies raw AcceptanceAtom = has_wrong_atom raw
applies raw TooDeep = has_deep_expression raw
applies raw Expansion = has_large_expression raw

-- the faults by their numbers
abbrev pub faults : List AutomatonFault
faults = Version ∷ RepeatedHeader ∷ MissingAcceptance ∷ UnknownHeader ∷ StateRange ∷ SetRange
    ∷ Proposition ∷ Alias ∷ StateTwice
    ∷ MixedLabels ∷ ImplicitCount ∷ AcceptanceAtom ∷ TooDeep ∷ Expansion ∷ []

-- the fault of an automaton text: the one with the least number that applies, or none
abbrev pub automaton_fault_of : RawAutomaton → Option AutomatonFault
automaton_fault_of raw = find (applies raw) faults

-- a fault applies: the automaton, as it is written, breaks a limit or a rule of automata
abbrev pub BreaksLimit : RawAutomaton → Type 0
BreaksLimit raw = (fault : AutomatonFault) × (automaton_fault_of raw ≡ Some fault)
