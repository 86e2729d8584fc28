-- The grammar of automata as a spelling: each definition gives the symbols of a row of the table in docs/formats.md,
-- and then others (HOA v1).
use Rattle.std.specs.Prelude.{◌≡◌, ℕ, ◌<◌, Bool, true, false, Option, Some, None}
use Rattle.std.specs.Prelude.{List, [], ◌∷◌, ◌++◌, codes, if◌then◌else◌, length}
use Rattle.std.specs.List.{AllByRecursion}
use Rattle.std.specs.Str.{bytes_eq}
use Rattle.omega_hoa_label.specs.Raw.{RawLabelTree}
use Rattle.omega_hoa_acceptance.specs.declared.name.Parameter.{Parameter}
use Rattle.omega_hoa_acceptance.specs.declared.name.Parameter.TheVariants as parameter
use Rattle.omega_text.specs.declared.hoa.kind.HoaKind.TheVariants as kind
use Rattle.omega_hoa_syntax.specs.Symbols.{ReadsSymbols, AutomatonSymbol, Tokens, alias}
use Rattle.omega_hoa_syntax.specs.Symbols.{formula, header, label, number, sign, text, word}
use Rattle.omega_hoa_syntax.specs.declared.header.name.HeaderKind.{HeaderKind}
use Rattle.omega_hoa_syntax.specs.declared.header.name.HeaderKind.TheVariants as named
use Rattle.omega_hoa_syntax.specs.declared.header_value.HeaderValue.{HeaderValue}
use Rattle.omega_hoa_syntax.specs.declared.header_value.HeaderValue.TheVariants as value
use Rattle.omega_hoa_syntax.specs.declared.raw_automaton.RawAutomaton.{RawAutomaton}
use Rattle.omega_hoa_syntax.specs.declared.raw_edge.RawEdge.{RawEdge}
use Rattle.omega_hoa_syntax.specs.declared.raw_item.RawItem.{RawItem}
use Rattle.omega_hoa_syntax.specs.declared.raw_item.RawItem.TheVariants as item
use Rattle.omega_hoa_syntax.specs.declared.raw_state.RawState.{RawState}

-- the symbols of each of a list, and then others
abbrev pub each : {X : Type 0} → (X → List AutomatonSymbol → List AutomatonSymbol) → List X
    → List AutomatonSymbol → List AutomatonSymbol
each row [] others = others
each row (first ∷ more) others = row first (each row more others)

-- the symbols of what is there or not, and then others
abbrev pub optional_row : {X : Type 0} → (X → List AutomatonSymbol → List AutomatonSymbol)
    → Option X → List AutomatonSymbol → List AutomatonSymbol
optional_row row None others = others
optional_row row (Some it) others = row it others

-- INT
abbrev pub int_row : ℕ → List AutomatonSymbol → List AutomatonSymbol
int_row n others = number n ∷ others

-- STRING
abbrev pub string_row : List ℕ → List AutomatonSymbol → List AutomatonSymbol
string_row bytes others = text bytes ∷ others

-- IDENTIFIER
abbrev pub word_row : List ℕ → List AutomatonSymbol → List AutomatonSymbol
word_row bytes others = word bytes ∷ others

-- BOOLEAN
abbrev pub boolean_row : Bool → List AutomatonSymbol → List AutomatonSymbol
boolean_row true others = sign kind.True ∷ others
boolean_row false others = sign kind.False ∷ others

-- BOOLEAN, INT, STRING or IDENTIFIER
abbrev pub value_row : HeaderValue → List AutomatonSymbol → List AutomatonSymbol
value_row (value.Boolean is) others = boolean_row is others
value_row (value.Number n) others = number n ∷ others
value_row (value.Text bytes) others = text bytes ∷ others
value_row (value.Word bytes) others = word bytes ∷ others

-- BOOLEAN, INT or IDENTIFIER
abbrev pub parameter_row : Parameter → List AutomatonSymbol → List AutomatonSymbol
parameter_row (parameter.Boolean is) others = boolean_row is others
parameter_row (parameter.Number n) others = number n ∷ others
parameter_row (parameter.Word bytes) others = word bytes ∷ others

-- `&` INT
abbrev pub joined_row : ℕ → List AutomatonSymbol → List AutomatonSymbol
joined_row n others = sign kind.And ∷ number n ∷ others

-- conj: INT (`&` INT)*
abbrev pub conj_row : List ℕ → List AutomatonSymbol → List AutomatonSymbol
conj_row [] others = others
conj_row (first ∷ more) others = number first ∷ each joined_row more others

-- label: `[` label-expr `]`
abbrev pub label_row : RawLabelTree → List AutomatonSymbol → List AutomatonSymbol
label_row tree others = sign kind.OpenBracket ∷ label tree ∷ sign kind.CloseBracket ∷ others

-- sig: `{` INT* `}`
abbrev pub sig_row : List ℕ → List AutomatonSymbol → List AutomatonSymbol
sig_row marks others = sign kind.OpenBrace ∷ each int_row marks (sign kind.CloseBrace ∷ others)

-- the name of an item's header
abbrev pub item_name : RawItem → List ℕ
item_name (item.States count) = codes "States"
item_name (item.Start states) = codes "Start"
item_name (item.Propositions count names) = codes "AP"
item_name (item.Alias name definition) = codes "Alias"
item_name (item.Acceptance count tree) = codes "Acceptance"
item_name (item.AccName name) = codes "acc-name"
item_name (item.Tool first second) = codes "tool"
item_name (item.Name bytes) = codes "name"
item_name (item.Properties words) = codes "properties"
item_name (item.Unknown name values) = name

-- what follows an item's header
abbrev pub content_row : RawItem → List AutomatonSymbol → List AutomatonSymbol
content_row (item.States count) others = number count ∷ others
content_row (item.Start states) others = conj_row states others
content_row (item.Propositions count names) others = number count ∷ each string_row names others
content_row (item.Alias name definition) others = alias name ∷ label definition ∷ others
content_row (item.Acceptance count tree) others = number count ∷ formula tree ∷ others
content_row (item.AccName name) others = word name.name ∷ each parameter_row name.parameters others
content_row (item.Tool first second) others = text first ∷ optional_row string_row second others
content_row (item.Name bytes) others = text bytes ∷ others
content_row (item.Properties words) others = each word_row words others
content_row (item.Unknown name values) others = each value_row values others

-- item: a HEADERNAME and what follows it
abbrev pub item_row : RawItem → List AutomatonSymbol → List AutomatonSymbol
item_row it others = header (item_name it) ∷ content_row it others

-- edge: label? conj sig?
abbrev pub edge_row : RawEdge → List AutomatonSymbol → List AutomatonSymbol
edge_row edge others = optional_row label_row edge.label
    (conj_row edge.targets (optional_row sig_row edge.marks others))

-- state: `State:` label? INT STRING? sig? edge*
abbrev pub state_row : RawState → List AutomatonSymbol → List AutomatonSymbol
state_row state others = header (codes "State")
    ∷ optional_row label_row state.label (number state.number ∷ optional_row string_row state.name
    (optional_row sig_row state.marks (each edge_row state.edges others)))

-- automaton: `HOA:` IDENTIFIER item* `--BODY--` state* `--END--`
abbrev pub automaton_symbols : RawAutomaton → List AutomatonSymbol
automaton_symbols raw = header (codes "HOA") ∷ word raw.version
    ∷ each item_row raw.items (sign kind.Body ∷ each state_row raw.states (sign kind.End ∷ []))

-- the header with this name
abbrev pub header_named : List ℕ → HeaderKind
header_named bytes =
    if bytes_eq bytes (codes "HOA") then named.Format
    else (if bytes_eq bytes (codes "State") then named.State
    else (if bytes_eq bytes (codes "States") then named.States
    else (if bytes_eq bytes (codes "Start") then named.Start
    else (if bytes_eq bytes (codes "AP") then named.Propositions
    else (if bytes_eq bytes (codes "Alias") then named.Alias
    else (if bytes_eq bytes (codes "Acceptance") then named.Acceptance
    else (if bytes_eq bytes (codes "acc-name") then named.AccName
    else (if bytes_eq bytes (codes "tool") then named.Tool
    else (if bytes_eq bytes (codes "name") then named.Name
    else (if bytes_eq bytes (codes "properties") then named.Properties else named.Unknown))))))))))

-- a conj can be written: it has a number
abbrev pub IsConj : List ℕ → Type 0
IsConj states = 0 < length states

-- an item can be written: a conj has a number, and an unknown header is not a known one
abbrev pub IsRawItem : RawItem → Type 0
IsRawItem (item.Start states) = IsConj states
IsRawItem (item.Unknown name values) = header_named name ≡ named.Unknown
IsRawItem other = Unit {0}

-- an edge can be written: its conj has a number
abbrev pub IsRawEdge : RawEdge → Type 0
IsRawEdge edge = IsConj edge.targets

-- a state can be written
abbrev pub IsRawState : RawState → Type 0
IsRawState state = AllByRecursion IsRawEdge state.edges

-- the tokens are the automaton's, and then the rest
pub record ReadsAutomaton (tokens : Tokens) (raw : RawAutomaton) (rest : Tokens) : Type 0 where
  pub items : AllByRecursion IsRawItem raw.items
  pub states : AllByRecursion IsRawState raw.states
  pub spells : ReadsSymbols tokens (automaton_symbols raw) rest

-- the tokens are no other automaton's, and leave no other rest
abbrev pub ReadsNoOther : Tokens → RawAutomaton → Tokens → Type 0
ReadsNoOther tokens raw rest = (other : RawAutomaton) (left : Tokens)
    → ReadsAutomaton tokens other left → (raw ≡ other) × (rest ≡ left)

-- no front of the tokens is an automaton's
abbrev pub ReadsNoAutomaton : Tokens → Type 0
ReadsNoAutomaton tokens = (raw : RawAutomaton) (rest : Tokens) → ReadsAutomaton tokens raw rest → ⊥

-- an automaton begins with the tokens: they and some more are one
abbrev pub BeginsAutomaton : Tokens → Type 0
BeginsAutomaton tokens =
    (more : Tokens) × (raw : RawAutomaton) × ReadsAutomaton (tokens ++ more) raw []
