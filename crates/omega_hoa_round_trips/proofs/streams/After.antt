-- The symbols of an automaton before others are its symbols, and then the others.
use Rattle.std.proofs.Common.{◌≡◌, true, false, Some, None, List, [], ◌∷◌, ◌++◌, codes, refl, ap, ◌∙◌}
use Rattle.omega_text.specs.declared.hoa.kind.HoaKind.TheVariants as kind
use Rattle.omega_hoa_acceptance.specs.declared.name.Parameter.TheVariants as parameter
use Rattle.omega_hoa_syntax.specs.Grammar.{conj_row, content_row, each, edge_row, int_row, item_name, item_row, joined_row, label_row, optional_row, parameter_row, sig_row, automaton_symbols, state_row, string_row, value_row, word_row}
use Rattle.omega_hoa_syntax.specs.Symbols.{AutomatonSymbol, header, number, sign, text, word}
use Rattle.omega_hoa_syntax.specs.declared.header_value.HeaderValue.TheVariants as value
use Rattle.omega_hoa_syntax.specs.declared.raw_automaton.RawAutomaton.{RawAutomaton}
use Rattle.omega_hoa_syntax.specs.declared.raw_item.RawItem.TheVariants as item

-- a row ends where others begin
abbrev EndsAfter : {X : Type 0} → (X → List AutomatonSymbol → List AutomatonSymbol) → Type 0
EndsAfter {X} row = (it : X) (first others : List AutomatonSymbol) → row it (first ++ others) ≡ row it first ++ others

each_after : {X : Type 0} (row : X → List AutomatonSymbol → List AutomatonSymbol) → EndsAfter row → EndsAfter (each row)
each_after row following [] first others = refl
each_after row following (it ∷ more) first others = ap (row it) (each_after row following more first others) ∙ following it (each row more first) others

optional_after : {X : Type 0} (row : X → List AutomatonSymbol → List AutomatonSymbol) → EndsAfter row → EndsAfter (optional_row row)
optional_after row following None first others = refl
optional_after row following (Some it) first others = following it first others

int_after : EndsAfter int_row
int_after n first others = refl

string_after : EndsAfter string_row
string_after bytes first others = refl

word_after : EndsAfter word_row
word_after bytes first others = refl

value_after : EndsAfter value_row
value_after (value.Boolean true) first others = refl
value_after (value.Boolean false) first others = refl
value_after (value.Number n) first others = refl
value_after (value.Text bytes) first others = refl
value_after (value.Word bytes) first others = refl

parameter_after : EndsAfter parameter_row
parameter_after (parameter.Boolean true) first others = refl
parameter_after (parameter.Boolean false) first others = refl
parameter_after (parameter.Number n) first others = refl
parameter_after (parameter.Word bytes) first others = refl

joined_after : EndsAfter joined_row
joined_after n first others = refl

conj_after : EndsAfter conj_row
conj_after [] first others = refl
conj_after (it ∷ more) first others = ap (λ all. number it ∷ all) (each_after joined_row joined_after more first others)

label_after : EndsAfter label_row
label_after tree first others = refl

sig_after : EndsAfter sig_row
sig_after marks first others = ap (λ all. sign kind.OpenBrace ∷ all) (each_after int_row int_after marks (sign kind.CloseBrace ∷ first) others)

content_after : EndsAfter content_row
content_after (item.States count) first others = refl
content_after (item.Start states) first others = conj_after states first others
content_after (item.Propositions count names) first others = ap (λ all. number count ∷ all) (each_after string_row string_after names first others)
content_after (item.Alias name definition) first others = refl
content_after (item.Acceptance count tree) first others = refl
content_after (item.AccName name) first others = ap (λ all. word name.name ∷ all) (each_after parameter_row parameter_after name.parameters first others)
content_after (item.Tool name version) first others = ap (λ all. text name ∷ all) (optional_after string_row string_after version first others)
content_after (item.Name bytes) first others = refl
content_after (item.Properties words) first others = each_after word_row word_after words first others
content_after (item.Unknown name values) first others = each_after value_row value_after values first others

item_after : EndsAfter item_row
item_after it first others = ap (λ all. header (item_name it) ∷ all) (content_after it first others)

edge_after : EndsAfter edge_row
edge_after edge first others =
    let marks = optional_row sig_row edge.marks first in
    ap (λ all. optional_row label_row edge.label (conj_row edge.targets all)) (optional_after sig_row sig_after edge.marks first others)
    ∙ ap (λ all. optional_row label_row edge.label all) (conj_after edge.targets marks others)
    ∙ optional_after label_row label_after edge.label (conj_row edge.targets marks) others

state_after : EndsAfter state_row
state_after state first others =
    let edges = each edge_row state.edges first in
    let marks = optional_row sig_row state.marks edges in
    let name = optional_row string_row state.name marks in
    let called : List AutomatonSymbol → List AutomatonSymbol = λ all. header (codes "State") ∷ optional_row label_row state.label (number state.number ∷ all) in
    ap (λ all. called (optional_row string_row state.name (optional_row sig_row state.marks all))) (each_after edge_row edge_after state.edges first others)
    ∙ ap (λ all. called (optional_row string_row state.name all)) (optional_after sig_row sig_after state.marks edges others)
    ∙ ap called (optional_after string_row string_after state.name marks others)
    ∙ ap (λ all. header (codes "State") ∷ all) (optional_after label_row label_after state.label (number state.number ∷ name) others)

-- the symbols of an automaton, and then others
abbrev pub spelled_before : RawAutomaton → List AutomatonSymbol → List AutomatonSymbol
spelled_before raw others = header (codes "HOA") ∷ word raw.version ∷ each item_row raw.items (sign kind.Body ∷ each state_row raw.states (sign kind.End ∷ others))

-- they are its symbols, and the others after them
pub spelled_after : (raw : RawAutomaton) (others : List AutomatonSymbol) → spelled_before raw others ≡ automaton_symbols raw ++ others
spelled_after raw others =
    let states = each state_row raw.states (sign kind.End ∷ []) in
    let opened : List AutomatonSymbol → List AutomatonSymbol = λ all. header (codes "HOA") ∷ word raw.version ∷ all in
    ap (λ all. opened (each item_row raw.items (sign kind.Body ∷ all))) (each_after state_row state_after raw.states (sign kind.End ∷ []) others)
    ∙ ap opened (each_after item_row item_after raw.items (sign kind.Body ∷ states) others)
