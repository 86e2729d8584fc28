-- A text has no state with more edges than bytes: each token is a byte at least, and each edge a token.
use Rattle.std.proofs.Common.{◌≡◌, ℕ, suc, ◌+◌, ◌<◌, ◌≤◌, Some, None, true, false, List, [], ◌∷◌, ◌++◌, length, length-append, length-drop, drop, ap, ◌∙◌, arith}
use Rattle.std.specs.List.{AllByRecursion, AllZip}
use Rattle.omega_text.specs.Cut.{Cuts}
use Rattle.omega_text.specs.Lexeme.{Lexeme}
use Rattle.omega_text.specs.Limits.{most_text}
use Rattle.omega_text.specs.declared.hoa.kind.HoaKind.{HoaKind}
use Rattle.omega_text.specs.declared.hoa.kind.HoaKind.TheVariants as kind
use Rattle.omega_text.specs.hoa.Cut.{Follows}
use Rattle.omega_text.specs.hoa.Format.{hoa_format}
use Rattle.omega_text.proofs.hoa_texts.Numbers.{spelled_form}
use Rattle.omega_text.proofs.hoa_texts.Unique.{form_size}
use Rattle.omega_hoa_acceptance.specs.declared.name.Parameter.TheVariants as parameter
use Rattle.omega_hoa_syntax.specs.Grammar.{IsConj, IsRawEdge, IsRawState, automaton_symbols, conj_row, content_row, each, edge_row, int_row, item_row, joined_row, label_row, optional_row, parameter_row, sig_row, state_row, string_row, value_row, word_row}
use Rattle.omega_hoa_syntax.specs.Symbols.{AutomatonSymbol, ReadsSymbols, Tokens, alias, formula, header, label, number, sign, text, word}
use Rattle.omega_hoa_syntax.specs.declared.header_value.HeaderValue.TheVariants as value
use Rattle.omega_hoa_syntax.specs.declared.raw_automaton.RawAutomaton.{RawAutomaton}
use Rattle.omega_hoa_syntax.specs.declared.raw_edge.RawEdge.{RawEdge}
use Rattle.omega_hoa_syntax.specs.declared.raw_item.RawItem.TheVariants as item
use Rattle.omega_hoa_syntax.specs.declared.raw_state.RawState.{RawState}
use Rattle.omega_hoa_label_text.specs.Expanding.{Defined}
use Rattle.omega_hoa_automaton.specs.Automaton.{Description}
use Rattle.omega_hoa_automaton.specs.Faults.{definitions_of}
use Rattle.omega_hoa_automaton.specs.Meaning.{IsEdgeOf, IsStateOf}
use Rattle.omega_hoa_automaton.specs.declared.edge.Edge.{Edge}
use Rattle.omega_hoa_automaton.specs.declared.state.State.{State}
use Rattle.omega_hoa.specs.Alone.{IsAutomatonText}

-- ---- tokens and bytes

-- a token ends further on than the place that it follows, within the text
token_further : (source : List ℕ) (from : ℕ) (lexeme : Lexeme HoaKind) → from ≤ length source → Follows source from lexeme
    → (from < lexeme.span.end) × (lexeme.span.end ≤ length source)
token_further source from lexeme within follows =
    let some : 0 < length lexeme.text = form_size lexeme.kind lexeme.text (spelled_form lexeme.kind lexeme.value lexeme.text follows.spells) in
    let long : length (drop from source) ≡ length follows.gap + (length lexeme.text + length follows.rest) =
    ap length follows.split ∙ length-append follows.gap (lexeme.text ++ follows.rest)
    ∙ ap (λ (n : ℕ). length follows.gap + n) (length-append lexeme.text follows.rest) in
    let left = length-drop from source in
    (omega (arith, follows.start, follows.end, some), omega (arith, follows.start, follows.end, long, left, within))

-- no more tokens than bytes
tokens_few : (source : List ℕ) (from to : ℕ) (tokens : Tokens) → from ≤ length source → Cuts hoa_format source from tokens to → length tokens + from ≤ length source
tokens_few source from to [] within cuts = omega (arith, within)
tokens_few source from to (lexeme ∷ tokens) within cuts =
    let further = token_further source from lexeme within cuts.0 in
    let rest = tokens_few source lexeme.span.end to tokens further.1 cuts.1 in
    omega (arith, further.0, rest)

-- ---- symbols and tokens

-- the symbols that are one token each
abbrev singles : List AutomatonSymbol → ℕ
singles [] = 0
singles (label tree ∷ others) = singles others
singles (formula tree ∷ others) = singles others
singles (symbol ∷ others) = suc (singles others)

-- no more of them than tokens
singles_few : (symbols : List AutomatonSymbol) (tokens rest : Tokens) → ReadsSymbols tokens symbols rest → singles symbols ≤ length tokens
singles_few [] tokens rest spells = omega arith
singles_few (label tree ∷ others) tokens rest spells =
    let long : length tokens ≡ length spells.front.front + length spells.middle = ap length spells.front.split ∙ length-append spells.front.front spells.middle in
    omega (arith, singles_few others spells.middle rest spells.back, long)
singles_few (formula tree ∷ others) tokens rest spells =
    let long : length tokens ≡ length spells.front.front + length spells.middle = ap length spells.front.split ∙ length-append spells.front.front spells.middle in
    omega (arith, singles_few others spells.middle rest spells.back, long)
singles_few (number n ∷ others) tokens rest spells = omega (arith, singles_few others spells.middle rest spells.back, ap length spells.front.next)
singles_few (word bytes ∷ others) tokens rest spells = omega (arith, singles_few others spells.middle rest spells.back, ap length spells.front.next)
singles_few (header bytes ∷ others) tokens rest spells = omega (arith, singles_few others spells.middle rest spells.back, ap length spells.front.next)
singles_few (alias bytes ∷ others) tokens rest spells = omega (arith, singles_few others spells.middle rest spells.back, ap length spells.front.next)
singles_few (text bytes ∷ others) tokens rest spells = omega (arith, singles_few others spells.middle rest spells.back, ap length spells.front.next)
singles_few (sign sort ∷ others) tokens rest spells = omega (arith, singles_few others spells.middle rest spells.back, ap length spells.front.next)

-- a row has no fewer of them than what stands after it
abbrev Grows : {X : Type 0} → (X → List AutomatonSymbol → List AutomatonSymbol) → Type 0
Grows {X} row = (it : X) (others : List AutomatonSymbol) → singles others ≤ singles (row it others)

each_grows : {X : Type 0} (row : X → List AutomatonSymbol → List AutomatonSymbol) → Grows row → Grows (each row)
each_grows row grows [] others = omega arith
each_grows row grows (it ∷ more) others = omega (arith, grows it (each row more others), each_grows row grows more others)

optional_grows : {X : Type 0} (row : X → List AutomatonSymbol → List AutomatonSymbol) → Grows row → Grows (optional_row row)
optional_grows row grows None others = omega arith
optional_grows row grows (Some it) others = grows it others

int_grows : Grows int_row
int_grows it others = omega arith

string_grows : Grows string_row
string_grows it others = omega arith

word_grows : Grows word_row
word_grows it others = omega arith

joined_grows : Grows joined_row
joined_grows it others = omega arith

label_grows : Grows label_row
label_grows tree others = omega arith

value_grows : Grows value_row
value_grows (value.Boolean true) others = omega arith
value_grows (value.Boolean false) others = omega arith
value_grows (value.Number n) others = omega arith
value_grows (value.Text bytes) others = omega arith
value_grows (value.Word bytes) others = omega arith

parameter_grows : Grows parameter_row
parameter_grows (parameter.Boolean true) others = omega arith
parameter_grows (parameter.Boolean false) others = omega arith
parameter_grows (parameter.Number n) others = omega arith
parameter_grows (parameter.Word bytes) others = omega arith

sig_grows : Grows sig_row
sig_grows marks others = omega (arith, each_grows int_row int_grows marks (sign kind.CloseBrace ∷ others))

conj_grows : Grows conj_row
conj_grows [] others = omega arith
conj_grows (first ∷ more) others = omega (arith, each_grows joined_row joined_grows more others)

content_grows : Grows content_row
content_grows (item.States count) others = omega arith
content_grows (item.Start states) others = conj_grows states others
content_grows (item.Propositions count names) others = omega (arith, each_grows string_row string_grows names others)
content_grows (item.Alias name definition) others = omega arith
content_grows (item.Acceptance count tree) others = omega arith
content_grows (item.AccName name) others = omega (arith, each_grows parameter_row parameter_grows name.parameters others)
content_grows (item.Tool first second) others = omega (arith, optional_grows string_row string_grows second others)
content_grows (item.Name bytes) others = omega arith
content_grows (item.Properties words) others = each_grows word_row word_grows words others
content_grows (item.Unknown name values) others = each_grows value_row value_grows values others

item_grows : Grows item_row
item_grows it others = omega (arith, content_grows it others)

-- ---- edges

-- an edge has one more
conj_more : (states : List ℕ) (others : List AutomatonSymbol) → IsConj states → singles others < singles (conj_row states others)
conj_more [] others is = absurd (omega (arith, is))
conj_more (first ∷ more) others is = omega (arith, each_grows joined_row joined_grows more others)

edge_more : (edge : RawEdge) (others : List AutomatonSymbol) → IsRawEdge edge → singles others < singles (edge_row edge others)
edge_more edge others is =
    let marks : List AutomatonSymbol = optional_row sig_row edge.marks others in
    omega (arith, optional_grows sig_row sig_grows edge.marks others, conj_more edge.targets marks is, optional_grows label_row label_grows edge.label (conj_row edge.targets marks))

-- a state has its edges more
edges_more : (edges : List RawEdge) (others : List AutomatonSymbol) → AllByRecursion IsRawEdge edges → length edges + singles others ≤ singles (each edge_row edges others)
edges_more [] others all = omega arith
edges_more (edge ∷ edges) others all = omega (arith, edge_more edge (each edge_row edges others) all.0, edges_more edges others all.1)

state_more : (state : RawState) (others : List AutomatonSymbol) → IsRawState state → length state.edges + singles others ≤ singles (state_row state others)
state_more state others is =
    let edges : List AutomatonSymbol = each edge_row state.edges others in
    let marks : List AutomatonSymbol = optional_row sig_row state.marks edges in
    let called : List AutomatonSymbol = optional_row string_row state.name marks in
    omega (
      arith,
      edges_more state.edges others is,
      optional_grows sig_row sig_grows state.marks edges,
      optional_grows string_row string_grows state.name marks,
      optional_grows label_row label_grows state.label (number state.number ∷ called),
    )

-- no state has more edges than there are symbols
states_few : (states : List RawState) (others : List AutomatonSymbol) (most : ℕ) → AllByRecursion IsRawState states → singles (each state_row states others) ≤ most
    → AllByRecursion (λ state. length state.edges ≤ most) states
states_few [] others most all few = tt
states_few (state ∷ states) others most all few =
    let more = state_more state (each state_row states others) all.0 in
    (omega (arith, more, few), states_few states others most all.1 (omega (arith, more, few)))

-- ---- texts

edges_long : (definitions : List Defined) (raws : List RawEdge) (edges : List Edge) → AllZip (IsEdgeOf definitions) raws edges → length raws ≡ length edges
edges_long definitions [] [] zip = omega arith
edges_long definitions [] (edge ∷ edges) zip = absurd zip
edges_long definitions (raw ∷ raws) [] zip = absurd zip
edges_long definitions (raw ∷ raws) (edge ∷ edges) zip = ap suc (edges_long definitions raws edges zip.1)

states_as_written : (definitions : List Defined) (most : ℕ) (raws : List RawState) (states : List State) → AllZip (IsStateOf definitions) raws states
    → AllByRecursion (λ state. length state.edges ≤ most) raws → AllByRecursion (λ state. length state.edges ≤ most) states
states_as_written definitions most [] [] zip all = tt
states_as_written definitions most [] (state ∷ states) zip all = absurd zip
states_as_written definitions most (raw ∷ raws) [] zip all = absurd zip
states_as_written definitions most (raw ∷ raws) (state ∷ states) zip all =
    (omega (arith, all.0, edges_long definitions raw.edges state.edges zip.0.edges), states_as_written definitions most raws states zip.1 all.1)

-- no state of the automaton of a text has more edges than a text has bytes
pub edges_few : (source : List ℕ) (a : Description) → IsAutomatonText source a → AllByRecursion (λ state. length state.edges ≤ most_text) a.defined
edges_few source a is =
    let raw : RawAutomaton = is.value.raw in
    let tokens = tokens_few source 0 is.cut.end is.lexemes (omega arith) is.cut.cuts in
    let symbols = singles_few (automaton_symbols raw) is.lexemes [] is.value.written.spells in
    let body : List AutomatonSymbol = each state_row raw.states (sign kind.End ∷ []) in
    let items = each_grows item_row item_grows raw.items (sign kind.Body ∷ body) in
    let few : singles body ≤ most_text = omega (arith, tokens, symbols, items, is.short) in
    states_as_written (definitions_of raw) most_text raw.states a.defined is.value.means.defined
    (states_few raw.states (sign kind.End ∷ []) most_text is.value.written.states few)
