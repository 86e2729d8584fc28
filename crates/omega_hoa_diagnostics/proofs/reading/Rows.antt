-- What is read of the tokens of an automaton is what it says of aliases, row by row of the grammar.
use Rattle.std.proofs.Common.{◌≡◌, ℕ, Bool, true, false, append-nil, append_assoc, Option, Some, None, List, [], ◌∷◌, ◌++◌, cond, codes, fold, map, refl, ap, sym, ◌∙◌, subst}
use Rattle.std.specs.List.{AllByRecursion, cons_option, filter_map, flat_map}
use Rattle.std.specs.Str.{bytes_eq}
use Rattle.std.proofs.lemmas.Slice.Eq.{bytes_eq-Decides}
use Rattle.omega_hoa_acceptance.specs.Raw.{RawAccTree}
use Rattle.omega_hoa_acceptance.specs.declared.name.Parameter.{Parameter}
use Rattle.omega_hoa_acceptance.specs.declared.name.Parameter.TheVariants as parameter
use Rattle.omega_hoa_label_text.specs.Expanding.{Defined}
use Rattle.omega_hoa_label.specs.Raw.{RawLabelTree}
use Rattle.omega_hoa_syntax.specs.Grammar.{IsRawItem, ReadsAutomaton, automaton_symbols, boolean_row, conj_row, each, edge_row, header_named, int_row, item_row, joined_row, label_row, optional_row, parameter_row, sig_row, state_row, string_row, value_row, word_row}
use Rattle.omega_hoa_syntax.specs.Symbols.{AutomatonSymbol, IsNext, ReadsSymbols, Shows, Splits, Tokens, alias, formula, header, label, number, sign, text, word}
use Rattle.omega_hoa_syntax.specs.declared.header.name.HeaderKind.TheVariants as named
use Rattle.omega_hoa_syntax.specs.declared.header_value.HeaderValue.{HeaderValue}
use Rattle.omega_hoa_syntax.specs.declared.header_value.HeaderValue.TheVariants as value
use Rattle.omega_hoa_syntax.specs.declared.raw_automaton.RawAutomaton.{RawAutomaton}
use Rattle.omega_hoa_syntax.specs.declared.raw_edge.RawEdge.{RawEdge}
use Rattle.omega_hoa_syntax.specs.declared.raw_item.RawItem.{RawItem}
use Rattle.omega_hoa_syntax.specs.declared.raw_item.RawItem.TheVariants as item
use Rattle.omega_hoa_syntax.specs.declared.raw_state.RawState.{RawState}
use Rattle.omega_text.specs.Cut.{CutsAreOne, IsCut}
use Rattle.omega_text.specs.Lexeme.{Lexeme}
use Rattle.omega_text.specs.hoa.Format.{hoa_format}
use Rattle.omega_text.specs.declared.hoa.kind.HoaKind.{HoaKind}
use Rattle.omega_text.specs.declared.hoa.kind.HoaKind.TheVariants as kind
use Rattle.omega_hoa_automaton.specs.Items.{alias_in}
use Rattle.omega_hoa_diagnostics.specs.Aliases.{AliasMention, alias_mentions, defined, definition_mentions, label_aliases, state_mentions, used, uses_in}
use Rattle.omega_hoa_diagnostics.specs.AutomatonCauses.{WritesAutomaton}
use Rattle.omega_hoa_diagnostics.specs.private.AliasReading.{Reading, after_beginning, after_token, definition, name_next, nothing, other, part_of, run, said_at_end, step}
use Rattle.omega_hoa_diagnostics.proofs.Written.{tokens_read}
use Rattle.omega_hoa_diagnostics.proofs.reading.Uses.{IsQuiet, formula_run, label_run, uses-open, uses-said, with_uses}

-- what is read of the tokens of symbols leads from one reading to another
abbrev pub Runs : List AutomatonSymbol → Reading → Reading → Type 0
Runs symbols before after = (tokens rest : Tokens) → ReadsSymbols tokens symbols rest → run before tokens ≡ run after rest

-- one token, and then others
next_runs : (symbol : AutomatonSymbol) (others : List AutomatonSymbol) (before middle after : Reading)
    → ((lexeme : Lexeme HoaKind) → Shows symbol lexeme → step before lexeme ≡ middle) → Runs others middle after
    → (tokens rest : Tokens) → Splits (IsNext symbol tokens) (λ left. ReadsSymbols left others rest) → run before tokens ≡ run after rest
next_runs symbol others before middle after steps runs tokens rest splits =
    ap (run before) splits.front.next
    ∙ ap (λ next. run next splits.middle) (steps splits.front.lexeme splits.front.shows)
    ∙ runs splits.middle rest splits.back

-- single tokens

number_runs : (n : ℕ) (others : List AutomatonSymbol) (before after : Reading) → Runs others before after → Runs (number n ∷ others) before after
number_runs n others before after runs =
    next_runs (number n) others before before after (λ lexeme shows. ap (λ kind. after_token before kind lexeme.text) shows.0) runs

word_runs : (bytes : List ℕ) (others : List AutomatonSymbol) (before after : Reading) → Runs others before after → Runs (word bytes ∷ others) before after
word_runs bytes others before after runs =
    next_runs (word bytes) others before before after (λ lexeme shows. ap (λ kind. after_token before kind lexeme.text) shows.0) runs

text_runs : (bytes : List ℕ) (others : List AutomatonSymbol) (before after : Reading) → Runs others before after → Runs (text bytes ∷ others) before after
text_runs bytes others before after runs =
    next_runs (text bytes) others before before after (λ lexeme shows. ap (λ kind. after_token before kind lexeme.text) shows.0) runs

sign_runs : (kind : HoaKind) (others : List AutomatonSymbol) (before middle after : Reading)
    → ((bytes : List ℕ) → after_token before kind bytes ≡ middle) → Runs others middle after → Runs (sign kind ∷ others) before after
sign_runs kind others before middle after steps runs =
    next_runs (sign kind) others before middle after
    (λ lexeme shows. ap (λ of. after_token before of lexeme.text) shows ∙ steps lexeme.text) runs

header_runs : (bytes : List ℕ) (others : List AutomatonSymbol) (before after : Reading)
    → Runs others (after_beginning before (part_of bytes)) after → Runs (header bytes ∷ others) before after
header_runs bytes others before after runs =
    next_runs (header bytes) others before (after_beginning before (part_of bytes)) after
    (λ lexeme shows. ap (λ kind. after_token before kind lexeme.text) shows.0 ∙ ap (λ name. after_beginning before (part_of name)) shows.1) runs

-- what was read before and after the name of a definition
abbrev awaiting : List AliasMention → Reading
awaiting said = record { open_part = name_next; said = said }

abbrev defining : List AliasMention → List ℕ → Reading
defining said bytes = record { open_part = definition bytes; said = said }

-- the name of a definition
name_runs : (bytes : List ℕ) (others : List AutomatonSymbol) (said : List AliasMention) (after : Reading)
    → Runs others (defining said bytes) after → Runs (alias bytes ∷ others) (awaiting said) after
name_runs bytes others said after runs =
    next_runs (alias bytes) others (awaiting said) (defining said bytes) after
    (λ lexeme shows. ap (λ kind. after_token (awaiting said) kind lexeme.text) shows.0 ∙ ap (defining said) shows.1) runs

-- expressions

label_runs : (tree : RawLabelTree) (others : List AutomatonSymbol) (before after : Reading) → IsQuiet before.open_part
    → Runs others (with_uses before (label_aliases tree)) after → Runs (label tree ∷ others) before after
label_runs tree others before after quiet runs =
    λ tokens rest spells. label_run before tokens spells.middle tree quiet spells.front ∙ runs spells.middle rest spells.back

formula_runs : (tree : RawAccTree) (others : List AutomatonSymbol) (before after : Reading) → IsQuiet before.open_part
    → Runs others before after → Runs (formula tree ∷ others) before after
formula_runs tree others before after quiet runs =
    λ tokens rest spells. formula_run before tokens spells.middle tree quiet spells.front ∙ runs spells.middle rest spells.back

-- rows that say nothing of aliases

each_runs : {X : Type 0} (row : X → List AutomatonSymbol → List AutomatonSymbol) (xs : List X) (others : List AutomatonSymbol) (before after : Reading)
    → ((x : X) (more : List AutomatonSymbol) → Runs more before after → Runs (row x more) before after)
    → Runs others before after → Runs (each row xs others) before after
each_runs row [] others before after one runs = runs
each_runs row (x ∷ xs) others before after one runs = one x (each row xs others) (each_runs row xs others before after one runs)

boolean_runs : (is : Bool) (others : List AutomatonSymbol) (before after : Reading) → Runs others before after → Runs (boolean_row is others) before after
boolean_runs true others before after runs = sign_runs kind.True others before before after (λ bytes. refl) runs
boolean_runs false others before after runs = sign_runs kind.False others before before after (λ bytes. refl) runs

value_runs : (it : HeaderValue) (others : List AutomatonSymbol) (before after : Reading) → Runs others before after → Runs (value_row it others) before after
value_runs (value.Boolean is) others before after runs = boolean_runs is others before after runs
value_runs (value.Number n) others before after runs = number_runs n others before after runs
value_runs (value.Text bytes) others before after runs = text_runs bytes others before after runs
value_runs (value.Word bytes) others before after runs = word_runs bytes others before after runs

parameter_runs : (it : Parameter) (others : List AutomatonSymbol) (before after : Reading) → Runs others before after → Runs (parameter_row it others) before after
parameter_runs (parameter.Boolean is) others before after runs = boolean_runs is others before after runs
parameter_runs (parameter.Number n) others before after runs = number_runs n others before after runs
parameter_runs (parameter.Word bytes) others before after runs = word_runs bytes others before after runs

conj_runs : (states : List ℕ) (others : List AutomatonSymbol) (before after : Reading) → Runs others before after → Runs (conj_row states others) before after
conj_runs [] others before after runs = runs
conj_runs (first ∷ more) others before after runs =
    number_runs first (each joined_row more others) before after
    (each_runs joined_row more others before after
    (λ n rest then. sign_runs kind.And (number n ∷ rest) before before after (λ bytes. refl) (number_runs n rest before after then)) runs)

sig_runs : (marks : List ℕ) (others : List AutomatonSymbol) (before after : Reading) → Runs others before after → Runs (sig_row marks others) before after
sig_runs marks others before after runs =
    sign_runs kind.OpenBrace (each int_row marks (sign kind.CloseBrace ∷ others)) before before after (λ bytes. refl)
    (each_runs int_row marks (sign kind.CloseBrace ∷ others) before after (λ n rest then. number_runs n rest before after then)
    (sign_runs kind.CloseBrace others before before after (λ bytes. refl) runs))

optional_sig_runs : (marks : Option (List ℕ)) (others : List AutomatonSymbol) (before after : Reading) → Runs others before after → Runs (optional_row sig_row marks others) before after
optional_sig_runs None others before after runs = runs
optional_sig_runs (Some marks) others before after runs = sig_runs marks others before after runs

optional_string_runs : (bytes : Option (List ℕ)) (others : List AutomatonSymbol) (before after : Reading) → Runs others before after → Runs (optional_row string_row bytes others) before after
optional_string_runs None others before after runs = runs
optional_string_runs (Some bytes) others before after runs = text_runs bytes others before after runs

-- labels

-- the aliases of a label that may be there
abbrev pub aliases_of : Option RawLabelTree → List (List ℕ)
aliases_of None = []
aliases_of (Some tree) = label_aliases tree

optional_label_runs : (tree : Option RawLabelTree) (others : List AutomatonSymbol) (before after : Reading) → IsQuiet before.open_part
    → Runs others (with_uses before (aliases_of tree)) after → Runs (optional_row label_row tree others) before after
optional_label_runs None others before after quiet runs = runs
optional_label_runs (Some tree) others before after quiet runs =
    sign_runs kind.OpenBracket (label tree ∷ sign kind.CloseBracket ∷ others) before before after (λ bytes. refl)
    (label_runs tree (sign kind.CloseBracket ∷ others) before after quiet
    (sign_runs kind.CloseBracket others (with_uses before (label_aliases tree)) (with_uses before (label_aliases tree)) after (λ bytes. refl) runs))

-- what was read after an edge
abbrev after_edge : Reading → RawEdge → Reading
after_edge reading edge = with_uses reading (aliases_of edge.label)

edge_runs : (edge : RawEdge) (others : List AutomatonSymbol) (before after : Reading) → IsQuiet before.open_part
    → Runs others (after_edge before edge) after → Runs (edge_row edge others) before after
edge_runs edge others before after quiet runs =
    optional_label_runs edge.label (conj_row edge.targets (optional_row sig_row edge.marks others)) before after quiet
    (conj_runs edge.targets (optional_row sig_row edge.marks others) (after_edge before edge) after
    (optional_sig_runs edge.marks others (after_edge before edge) after runs))

edges_run : (edges : List RawEdge) (others : List AutomatonSymbol) (before after : Reading) → IsQuiet before.open_part
    → Runs others (fold after_edge before edges) after → Runs (each edge_row edges others) before after
edges_run [] others before after quiet runs = runs
edges_run (edge ∷ edges) others before after quiet runs =
    edge_runs edge (each edge_row edges others) before after quiet
    (edges_run edges others (after_edge before edge) after (subst IsQuiet (sym (uses-open before (aliases_of edge.label))) quiet) runs)

-- states

-- what was read after a state of the body
abbrev after_state : Reading → RawState → Reading
after_state reading state = fold after_edge (with_uses (after_beginning reading other) (aliases_of state.label)) state.edges

state_runs : (state : RawState) (others : List AutomatonSymbol) (before after : Reading)
    → Runs others (after_state before state) after → Runs (state_row state others) before after
state_runs state others before after runs =
    let begun = after_beginning before other in
    let labelled = with_uses begun (aliases_of state.label) in
    let edges = each edge_row state.edges others in
    let sets = optional_row sig_row state.marks edges in
    let names = optional_row string_row state.name sets in
    let quiet : IsQuiet labelled.open_part = subst IsQuiet (sym (uses-open begun (aliases_of state.label))) tt in
    header_runs (codes "State") (optional_row label_row state.label (number state.number ∷ names)) before after
    (optional_label_runs state.label (number state.number ∷ names) begun after tt
    (number_runs state.number names labelled after
    (optional_string_runs state.name sets labelled after
    (optional_sig_runs state.marks edges labelled after
    (edges_run state.edges others labelled after quiet runs)))))

states_run : (states : List RawState) (others : List AutomatonSymbol) (before after : Reading)
    → Runs others (fold after_state before states) after → Runs (each state_row states others) before after
states_run [] others before after runs = runs
states_run (state ∷ states) others before after runs =
    state_runs state (each state_row states others) before after (states_run states others (after_state before state) after runs)

-- items

-- what was read after an item
abbrev after_item : Reading → RawItem → Reading
after_item reading (item.Alias name body) =
    with_uses (defining (reading.said ++ said_at_end reading.open_part) name) (label_aliases body)
after_item reading it = after_beginning reading other

-- the header of an alias is known
alias_is_known : (name : List ℕ) → bytes_eq name (codes "Alias") ≡ true → header_named name ≡ named.Unknown → ⊥
alias_is_known name same unknown =
    let e : named.Alias ≡ named.Unknown = subst (λ bytes. header_named bytes ≡ named.Unknown) ((bytes_eq-Decides name (codes "Alias")).0 same) unknown in cc

-- an unknown header opens no definition
unknown_part : (name : List ℕ) → header_named name ≡ named.Unknown → part_of name ≡ other
unknown_part name unknown =
    elim (bytes_eq name (codes "Alias")) as (λ b. bytes_eq name (codes "Alias") ≡ b → cond b name_next other ≡ other) [
      | true ↦ λ e. absurd (alias_is_known name e unknown)
      | false ↦ λ e. refl
    ] refl

item_runs : (it : RawItem) (others : List AutomatonSymbol) (before after : Reading) → IsRawItem it
    → Runs others (after_item before it) after → Runs (item_row it others) before after
item_runs (item.States count) others before after valid runs =
    header_runs (codes "States") (number count ∷ others) before after (number_runs count others (after_beginning before other) after runs)
item_runs (item.Start states) others before after valid runs =
    header_runs (codes "Start") (conj_row states others) before after (conj_runs states others (after_beginning before other) after runs)
item_runs (item.Propositions count names) others before after valid runs =
    header_runs (codes "AP") (number count ∷ each string_row names others) before after
    (number_runs count (each string_row names others) (after_beginning before other) after
    (each_runs string_row names others (after_beginning before other) after (λ bytes rest then. text_runs bytes rest (after_beginning before other) after then) runs))
item_runs (item.Alias name body) others before after valid runs =
    header_runs (codes "Alias") (alias name ∷ label body ∷ others) before after
    (name_runs name (label body ∷ others) (before.said ++ said_at_end before.open_part) after
    (label_runs body others (defining (before.said ++ said_at_end before.open_part) name) after tt runs))
item_runs (item.Acceptance count tree) others before after valid runs =
    header_runs (codes "Acceptance") (number count ∷ formula tree ∷ others) before after
    (number_runs count (formula tree ∷ others) (after_beginning before other) after
    (formula_runs tree others (after_beginning before other) after tt runs))
item_runs (item.AccName name) others before after valid runs =
    header_runs (codes "acc-name") (word name.name ∷ each parameter_row name.parameters others) before after
    (word_runs name.name (each parameter_row name.parameters others) (after_beginning before other) after
    (each_runs parameter_row name.parameters others (after_beginning before other) after (λ it rest then. parameter_runs it rest (after_beginning before other) after then) runs))
item_runs (item.Tool first second) others before after valid runs =
    header_runs (codes "tool") (text first ∷ optional_row string_row second others) before after
    (text_runs first (optional_row string_row second others) (after_beginning before other) after
    (optional_string_runs second others (after_beginning before other) after runs))
item_runs (item.Name bytes) others before after valid runs =
    header_runs (codes "name") (text bytes ∷ others) before after (text_runs bytes others (after_beginning before other) after runs)
item_runs (item.Properties words) others before after valid runs =
    header_runs (codes "properties") (each word_row words others) before after
    (each_runs word_row words others (after_beginning before other) after (λ bytes rest then. word_runs bytes rest (after_beginning before other) after then) runs)
item_runs (item.Unknown name values) others before after valid runs =
    let same : after_beginning before (part_of name) ≡ after_beginning before other = ap (after_beginning before) (unknown_part name valid) in
    header_runs name (each value_row values others) before after
    (subst (λ begun. Runs (each value_row values others) begun after) (sym same)
    (each_runs value_row values others (after_beginning before other) after (λ it rest then. value_runs it rest (after_beginning before other) after then) runs))

items_run : (items : List RawItem) (others : List AutomatonSymbol) (before after : Reading) → AllByRecursion IsRawItem items
    → Runs others (fold after_item before items) after → Runs (each item_row items others) before after
items_run [] others before after valid runs = runs
items_run (it ∷ items) others before after valid runs =
    item_runs it (each item_row items others) before after valid.0 (items_run items others (after_item before it) after valid.1 runs)

-- what was read at the end of an automaton
abbrev at_end : RawAutomaton → Reading
at_end raw = fold after_state (after_beginning (fold after_item (after_beginning nothing other) raw.items) other) raw.states

automaton_runs : (raw : RawAutomaton) → AllByRecursion IsRawItem raw.items → Runs (automaton_symbols raw) nothing (at_end raw)
automaton_runs raw valid =
    let states = each state_row raw.states (sign kind.End ∷ []) in
    let begun = after_beginning nothing other in
    let gathered = fold after_item begun raw.items in
    let body = after_beginning gathered other in
    header_runs (codes "HOA") (word raw.version ∷ each item_row raw.items (sign kind.Body ∷ states)) nothing (at_end raw)
    (word_runs raw.version (each item_row raw.items (sign kind.Body ∷ states)) begun (at_end raw)
    (items_run raw.items (sign kind.Body ∷ states) begun (at_end raw) valid
    (sign_runs kind.Body states gathered body (at_end raw) (λ bytes. refl)
    (states_run raw.states (sign kind.End ∷ []) body (at_end raw)
    (sign_runs kind.End [] (at_end raw) (at_end raw) (at_end raw) (λ bytes. refl) (λ tokens rest e. ap (run (at_end raw)) e))))))

-- what is said

uses_of : (tree : Option RawLabelTree) → map used (aliases_of tree) ≡ uses_in tree
uses_of None = refl
uses_of (Some tree) = refl

edges_said : (reading : Reading) (edges : List RawEdge)
    → (fold after_edge reading edges).said ≡ reading.said ++ flat_map (λ (edge : RawEdge). uses_in edge.label) edges
edges_said reading [] = sym (append-nil reading.said)
edges_said reading (edge ∷ edges) =
    edges_said (after_edge reading edge) edges
    ∙ ap (λ said. said ++ flat_map (λ (edge : RawEdge). uses_in edge.label) edges)
    (uses-said reading (aliases_of edge.label) ∙ ap (λ uses. reading.said ++ uses) (uses_of edge.label))
    ∙ append_assoc reading.said (uses_in edge.label) (flat_map (λ (edge : RawEdge). uses_in edge.label) edges)

edges_open : (reading : Reading) (edges : List RawEdge) → (fold after_edge reading edges).open_part ≡ reading.open_part
edges_open reading [] = refl
edges_open reading (edge ∷ edges) = edges_open (after_edge reading edge) edges ∙ uses-open reading (aliases_of edge.label)

state_open : (reading : Reading) (state : RawState) → (after_state reading state).open_part ≡ other
state_open reading state =
    edges_open (with_uses (after_beginning reading other) (aliases_of state.label)) state.edges
    ∙ uses-open (after_beginning reading other) (aliases_of state.label)

state_said : (reading : Reading) (state : RawState) → reading.open_part ≡ other
    → (after_state reading state).said ≡ reading.said ++ state_mentions state
state_said reading state closed =
    let begun = after_beginning reading other in
    let edges = flat_map (λ (edge : RawEdge). uses_in edge.label) state.edges in
    let still : begun.said ≡ reading.said = ap (λ part. reading.said ++ said_at_end part) closed ∙ append-nil reading.said in
    edges_said (with_uses begun (aliases_of state.label)) state.edges
    ∙ ap (λ said. said ++ edges)
    (uses-said begun (aliases_of state.label) ∙ ap (λ said. said ++ map used (aliases_of state.label)) still
    ∙ ap (λ uses. reading.said ++ uses) (uses_of state.label))
    ∙ append_assoc reading.said (uses_in state.label) edges

states_said : (reading : Reading) (states : List RawState) → reading.open_part ≡ other
    → (fold after_state reading states).said ≡ reading.said ++ flat_map state_mentions states
states_said reading [] closed = sym (append-nil reading.said)
states_said reading (state ∷ states) closed =
    states_said (after_state reading state) states (state_open reading state)
    ∙ ap (λ said. said ++ flat_map state_mentions states) (state_said reading state closed)
    ∙ append_assoc reading.said (state_mentions state) (flat_map state_mentions states)

-- what is said once the open part ends
abbrev closed : Reading → List AliasMention
closed reading = reading.said ++ said_at_end reading.open_part

-- what an item says of the alias that it may define
abbrev mentions_of : Option Defined → List AliasMention
mentions_of None = []
mentions_of (Some given) = definition_mentions given

item_said : (reading : Reading) (it : RawItem) → closed (after_item reading it) ≡ closed reading ++ mentions_of (alias_in it)
item_said reading (item.States count) = refl
item_said reading (item.Start states) = refl
item_said reading (item.Propositions count names) = refl
item_said reading (item.Alias name body) =
    let begun = defining (closed reading) name in
    ap (λ said. said ++ said_at_end (with_uses begun (label_aliases body)).open_part) (uses-said begun (label_aliases body))
    ∙ ap (λ part. (closed reading ++ map used (label_aliases body)) ++ said_at_end part) (uses-open begun (label_aliases body))
    ∙ append_assoc (closed reading) (map used (label_aliases body)) (defined name ∷ [])
item_said reading (item.Acceptance count tree) = refl
item_said reading (item.AccName name) = refl
item_said reading (item.Tool first second) = refl
item_said reading (item.Name bytes) = refl
item_said reading (item.Properties words) = refl
item_said reading (item.Unknown name values) = refl

mentions_more : (first : Option Defined) (rest : List Defined)
    → flat_map definition_mentions (cons_option first rest) ≡ mentions_of first ++ flat_map definition_mentions rest
mentions_more None rest = refl
mentions_more (Some given) rest = refl

items_said : (reading : Reading) (items : List RawItem)
    → closed (fold after_item reading items) ≡ closed reading ++ flat_map definition_mentions (filter_map alias_in items)
items_said reading [] = sym (append-nil (closed reading))
items_said reading (it ∷ items) =
    let more = flat_map definition_mentions (filter_map alias_in items) in
    items_said (after_item reading it) items
    ∙ ap (λ said. said ++ more) (item_said reading it)
    ∙ append_assoc (closed reading) (mentions_of (alias_in it)) more
    ∙ ap (λ mentions. closed reading ++ mentions) (sym (mentions_more (alias_in it) (filter_map alias_in items)))

-- what is said at the end of an automaton is what it says of aliases
end_said : (raw : RawAutomaton) → (at_end raw).said ≡ alias_mentions raw
end_said raw =
    let begun = after_beginning nothing other in
    states_said (after_beginning (fold after_item begun raw.items) other) raw.states refl
    ∙ ap (λ said. said ++ flat_map state_mentions raw.states) (items_said begun raw.items)

-- what is read of the tokens of an automaton is what it says of aliases
read_is_said : (raw : RawAutomaton) (tokens : Tokens) (reading : Reading) → ReadsAutomaton tokens raw []
    → reading ≡ run nothing tokens → reading.said ≡ alias_mentions raw
read_is_said raw tokens reading reads read =
    ap (λ (r : Reading). r.said) (read ∙ automaton_runs raw reads.items tokens [] reads.spells) ∙ end_said raw

-- the same of the tokens of a text
pub text_is_said : (source : List ℕ) (tokens : Tokens) (start reading : Reading) → CutsAreOne hoa_format → IsCut hoa_format source tokens
    → start ≡ nothing → reading ≡ run start tokens → (raw : RawAutomaton) → WritesAutomaton source raw → reading.said ≡ alias_mentions raw
text_is_said source tokens start reading one cut begun read raw writes =
    read_is_said raw tokens reading (tokens_read source tokens raw one cut writes) (read ∙ ap (λ first. run first tokens) begun)
