-- That the symbols of a value are the same whatever follows them: a law of `Part`, which its impls take from `specs`
-- alone.
use Rattle.std.specs.Prelude.{◌≡◌, ℕ, true, false, List, [], ◌∷◌, ◌++◌, Option, Some, None, codes, refl}
use Rattle.std.proofs.Common.{append_assoc, ap, sym, ◌∙◌}
use Rattle.omega_hoa_acceptance.specs.declared.name.Parameter.{Parameter}
use Rattle.omega_hoa_acceptance.specs.declared.name.Parameter.TheVariants as parameter
use Rattle.omega_hoa_syntax.specs.Grammar.{conj_row, content_row, each, edge_row, int_row, item_name}
use Rattle.omega_hoa_syntax.specs.Grammar.{item_row, joined_row, label_row, optional_row, parameter_row}
use Rattle.omega_hoa_syntax.specs.Grammar.{sig_row, state_row, string_row, value_row, word_row}
use Rattle.omega_hoa_syntax.specs.Symbols.{AutomatonSymbol, header, number, sign, text, word}
use Rattle.omega_hoa_syntax.specs.declared.header_value.HeaderValue.{HeaderValue}
use Rattle.omega_hoa_syntax.specs.declared.header_value.HeaderValue.TheVariants as value
use Rattle.omega_hoa_syntax.specs.declared.raw_edge.RawEdge.{RawEdge}
use Rattle.omega_hoa_syntax.specs.declared.raw_item.RawItem.{RawItem}
use Rattle.omega_hoa_syntax.specs.declared.raw_item.RawItem.TheVariants as item
use Rattle.omega_hoa_syntax.specs.declared.raw_state.RawState.{RawState}
use Rattle.omega_text.specs.declared.hoa.kind.HoaKind.TheVariants as kind

-- what follows comes after the symbols, and changes none of them
abbrev pub Joins : (List AutomatonSymbol → List AutomatonSymbol) → Type 0
Joins symbols = (others : List AutomatonSymbol) → symbols others ≡ symbols [] ++ others

pub joins_then : (first second : List AutomatonSymbol → List AutomatonSymbol) → Joins first
    → Joins second → Joins (λ others. first (second others))
joins_then first second one two others = one (second others)
    ∙ (ap (λ more. first [] ++ more) (two others) ∙ (sym (append_assoc (first []) (second []) others)
    ∙ ap (λ front. front ++ others) (sym (one (second [])))))

pub each_joins : {X : Type 0} (row : X → List AutomatonSymbol → List AutomatonSymbol)
    → ((it : X) → Joins (row it)) → (values : List X) → Joins (each row values)
each_joins row joins [] others = refl
each_joins row joins (first ∷ more) others =
    joins_then (row first) (each row more) (joins first) (each_joins row joins more) others

pub optional_joins : {X : Type 0} (row : X → List AutomatonSymbol → List AutomatonSymbol)
    → ((it : X) → Joins (row it)) → (it : Option X) → Joins (optional_row row it)
optional_joins row joins None others = refl
optional_joins row joins (Some it) others = joins it others

pub parameter_joins : (it : Parameter) → Joins (parameter_row it)
parameter_joins (parameter.Boolean true) others = refl
parameter_joins (parameter.Boolean false) others = refl
parameter_joins (parameter.Number n) others = refl
parameter_joins (parameter.Word bytes) others = refl

pub value_joins : (it : HeaderValue) → Joins (value_row it)
value_joins (value.Boolean true) others = refl
value_joins (value.Boolean false) others = refl
value_joins (value.Number n) others = refl
value_joins (value.Text bytes) others = refl
value_joins (value.Word bytes) others = refl

pub conj_joins : (states : List ℕ) → Joins (conj_row states)
conj_joins [] others = refl
conj_joins (first ∷ more) others =
    ap (λ symbols. number first ∷ symbols) (each_joins joined_row (λ it others. refl) more others)

pub sig_joins : (marks : List ℕ) → Joins (sig_row marks)
sig_joins marks others = ap (λ symbols. sign kind.OpenBrace ∷ symbols)
    (joins_then (each int_row marks) (λ others. sign kind.CloseBrace ∷ others)
    (each_joins int_row (λ it others. refl) marks) (λ others. refl) others)

pub edge_joins : (edge : RawEdge) → Joins (edge_row edge)
edge_joins edge = joins_then (optional_row label_row edge.label)
    (λ others. conj_row edge.targets (optional_row sig_row edge.marks others))
    (optional_joins label_row (λ it others. refl) edge.label)
    (joins_then (conj_row edge.targets) (optional_row sig_row edge.marks) (conj_joins edge.targets)
    (optional_joins sig_row sig_joins edge.marks))

-- what follows the number of a state
numbered_joins : (state : RawState) → Joins (λ others. number state.number ∷ optional_row string_row
    state.name (optional_row sig_row state.marks (each edge_row state.edges others)))
numbered_joins state others =
    ap (λ symbols. number state.number ∷ symbols) (joins_then (optional_row string_row state.name)
    (λ others. optional_row sig_row state.marks (each edge_row state.edges others))
    (optional_joins string_row (λ it others. refl) state.name)
    (joins_then (optional_row sig_row state.marks) (each edge_row state.edges)
    (optional_joins sig_row sig_joins state.marks) (each_joins edge_row edge_joins state.edges)) others)

pub state_joins : (state : RawState) → Joins (state_row state)
state_joins state others = ap (λ symbols. header (codes "State") ∷ symbols)
    (joins_then (optional_row label_row state.label) (λ others. number state.number ∷ optional_row
    string_row state.name (optional_row sig_row state.marks (each edge_row state.edges others)))
    (optional_joins label_row (λ it others. refl) state.label) (numbered_joins state) others)

content_joins : (it : RawItem) → Joins (content_row it)
content_joins (item.States count) others = refl
content_joins (item.Start states) others = conj_joins states others
content_joins (item.Propositions count names) others =
    ap (λ symbols. number count ∷ symbols) (each_joins string_row (λ it others. refl) names others)
content_joins (item.Alias name definition) others = refl
content_joins (item.Acceptance count tree) others = refl
content_joins (item.AccName name) others = ap (λ symbols. word name.name ∷ symbols)
    (each_joins parameter_row parameter_joins name.parameters others)
content_joins (item.Tool first second) others = ap (λ symbols. text first ∷ symbols)
    (optional_joins string_row (λ it others. refl) second others)
content_joins (item.Name bytes) others = refl
content_joins (item.Properties words) others = each_joins word_row (λ it others. refl) words others
content_joins (item.Unknown name values) others = each_joins value_row value_joins values others

pub item_joins : (it : RawItem) → Joins (item_row it)
item_joins it others = ap (λ symbols. header (item_name it) ∷ symbols) (content_joins it others)
