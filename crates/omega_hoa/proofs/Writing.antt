-- An automaton that is written ends with the first token that ends a segment.
use Rattle.std.proofs.Common.{◌≡◌, true, false, Some, None, List, [], ◌∷◌, ◌++◌, refl, sym, ap, subst, ◌∙◌, append_assoc}
use Rattle.omega_text.specs.Lexeme.{Lexeme}
use Rattle.omega_text.specs.declared.hoa.kind.HoaKind.{HoaKind}
use Rattle.omega_text.specs.declared.hoa.kind.HoaKind.TheVariants as kind
use Rattle.omega_hoa_acceptance.specs.declared.name.Parameter.TheVariants as parameter
use Rattle.omega_hoa_syntax.specs.Grammar.{ReadsAutomaton, conj_row, content_row, each, edge_row, int_row, item_row, joined_row, label_row, optional_row, parameter_row, sig_row, automaton_symbols, state_row, string_row, value_row, word_row}
use Rattle.omega_hoa_syntax.specs.Symbols.{ReadsSymbols, AutomatonSymbol, alias, formula, header, label, number, sign, text, word}
use Rattle.omega_hoa_syntax.specs.declared.header_value.HeaderValue.TheVariants as value
use Rattle.omega_hoa_syntax.specs.declared.raw_automaton.RawAutomaton.{RawAutomaton}
use Rattle.omega_hoa_syntax.specs.declared.raw_item.RawItem.TheVariants as item
use Rattle.omega_hoa.specs.Segment.{IsRawOf}
use Rattle.omega_hoa.specs.Stream.{IsOpen, IsSegment, NoneEnds, is_end}
use Rattle.omega_hoa.proofs.Unended.{MarksNone, stands_before}

-- some tokens that end no segment, then `--END--`, and then the rest
pub record EndsBefore (tokens rest : List (Lexeme HoaKind)) : Type 0 where
  pub front : List (Lexeme HoaKind)
  pub last : Lexeme HoaKind
  pub split : tokens ≡ front ++ last ∷ rest
  pub ends : last.kind ≡ kind.End
  pub unended : NoneEnds front

-- whatever the symbols spell ends with `--END--`
abbrev EndSpelled : List AutomatonSymbol → Type 0
EndSpelled symbols = (tokens rest : List (Lexeme HoaKind)) → ReadsSymbols tokens symbols rest → EndsBefore tokens rest

-- tokens of which none ends a segment, and others such
none_ends : (front back : List (Lexeme HoaKind)) → NoneEnds front → NoneEnds back → NoneEnds (front ++ back)
none_ends [] back none more = more
none_ends (lexeme ∷ front) back none more = (none.0, none_ends front back none.1 more)

-- a symbol in front that is no mark of an end changes nothing
following : (symbol : AutomatonSymbol) (symbols : List AutomatonSymbol) → MarksNone symbol → EndSpelled symbols → EndSpelled (symbol ∷ symbols)
following symbol symbols none automaton_symbols tokens rest spells =
    let first = stands_before symbol tokens spells.middle none spells.front in
    let then = automaton_symbols spells.middle rest spells.back in
    record {
      front = first.0 ++ then.front;
      last = then.last;
      split = first.1 ∙ ap (λ all. first.0 ++ all) then.split ∙ sym (append_assoc first.0 then.front (then.last ∷ rest));
      ends = then.ends;
      unended = none_ends first.0 then.front first.2 then.unended;
    }

-- nor does a row
abbrev KeepsEnd : {X : Type 0} → (X → List AutomatonSymbol → List AutomatonSymbol) → Type 0
KeepsEnd {X} row = (it : X) (others : List AutomatonSymbol) → EndSpelled others → EndSpelled (row it others)

each_keeps : {X : Type 0} (row : X → List AutomatonSymbol → List AutomatonSymbol) → KeepsEnd row → KeepsEnd (each row)
each_keeps row keeps [] others automaton_symbols = automaton_symbols
each_keeps row keeps (first ∷ more) others automaton_symbols = keeps first (each row more others) (each_keeps row keeps more others automaton_symbols)

optional_keeps : {X : Type 0} (row : X → List AutomatonSymbol → List AutomatonSymbol) → KeepsEnd row → KeepsEnd (optional_row row)
optional_keeps row keeps None others automaton_symbols = automaton_symbols
optional_keeps row keeps (Some it) others automaton_symbols = keeps it others automaton_symbols

int_keeps : KeepsEnd int_row
int_keeps n others automaton_symbols = following (number n) others tt automaton_symbols

string_keeps : KeepsEnd string_row
string_keeps bytes others automaton_symbols = following (text bytes) others tt automaton_symbols

word_keeps : KeepsEnd word_row
word_keeps bytes others automaton_symbols = following (word bytes) others tt automaton_symbols

value_keeps : KeepsEnd value_row
value_keeps (value.Boolean true) others automaton_symbols = following (sign kind.True) others refl automaton_symbols
value_keeps (value.Boolean false) others automaton_symbols = following (sign kind.False) others refl automaton_symbols
value_keeps (value.Number n) others automaton_symbols = following (number n) others tt automaton_symbols
value_keeps (value.Text bytes) others automaton_symbols = following (text bytes) others tt automaton_symbols
value_keeps (value.Word bytes) others automaton_symbols = following (word bytes) others tt automaton_symbols

parameter_keeps : KeepsEnd parameter_row
parameter_keeps (parameter.Boolean true) others automaton_symbols = following (sign kind.True) others refl automaton_symbols
parameter_keeps (parameter.Boolean false) others automaton_symbols = following (sign kind.False) others refl automaton_symbols
parameter_keeps (parameter.Number n) others automaton_symbols = following (number n) others tt automaton_symbols
parameter_keeps (parameter.Word bytes) others automaton_symbols = following (word bytes) others tt automaton_symbols

joined_keeps : KeepsEnd joined_row
joined_keeps n others automaton_symbols = following (sign kind.And) (number n ∷ others) refl (following (number n) others tt automaton_symbols)

conj_keeps : KeepsEnd conj_row
conj_keeps [] others automaton_symbols = automaton_symbols
conj_keeps (first ∷ more) others automaton_symbols = following (number first) (each joined_row more others) tt (each_keeps joined_row joined_keeps more others automaton_symbols)

label_keeps : KeepsEnd label_row
label_keeps tree others automaton_symbols =
    following (sign kind.OpenBracket) (label tree ∷ sign kind.CloseBracket ∷ others) refl
    (following (label tree) (sign kind.CloseBracket ∷ others) tt (following (sign kind.CloseBracket) others refl automaton_symbols))

sig_keeps : KeepsEnd sig_row
sig_keeps marks others automaton_symbols =
    following (sign kind.OpenBrace) (each int_row marks (sign kind.CloseBrace ∷ others)) refl
    (each_keeps int_row int_keeps marks (sign kind.CloseBrace ∷ others) (following (sign kind.CloseBrace) others refl automaton_symbols))

content_keeps : KeepsEnd content_row
content_keeps (item.States count) others automaton_symbols = following (number count) others tt automaton_symbols
content_keeps (item.Start states) others automaton_symbols = conj_keeps states others automaton_symbols
content_keeps (item.Propositions count names) others automaton_symbols = following (number count) (each string_row names others) tt (each_keeps string_row string_keeps names others automaton_symbols)
content_keeps (item.Alias name definition) others automaton_symbols = following (alias name) (label definition ∷ others) tt (following (label definition) others tt automaton_symbols)
content_keeps (item.Acceptance count tree) others automaton_symbols = following (number count) (formula tree ∷ others) tt (following (formula tree) others tt automaton_symbols)
content_keeps (item.AccName name) others automaton_symbols = following (word name.name) (each parameter_row name.parameters others) tt (each_keeps parameter_row parameter_keeps name.parameters others automaton_symbols)
content_keeps (item.Tool first second) others automaton_symbols = following (text first) (optional_row string_row second others) tt (optional_keeps string_row string_keeps second others automaton_symbols)
content_keeps (item.Name bytes) others automaton_symbols = following (text bytes) others tt automaton_symbols
content_keeps (item.Properties words) others automaton_symbols = each_keeps word_row word_keeps words others automaton_symbols
content_keeps (item.Unknown name values) others automaton_symbols = each_keeps value_row value_keeps values others automaton_symbols

item_keeps : KeepsEnd item_row
item_keeps it others automaton_symbols = following (header _) (content_row it others) tt (content_keeps it others automaton_symbols)

edge_keeps : KeepsEnd edge_row
edge_keeps edge others automaton_symbols =
    optional_keeps label_row label_keeps edge.label (conj_row edge.targets (optional_row sig_row edge.marks others))
    (conj_keeps edge.targets (optional_row sig_row edge.marks others) (optional_keeps sig_row sig_keeps edge.marks others automaton_symbols))

state_keeps : KeepsEnd state_row
state_keeps state others automaton_symbols =
    let edges = each edge_row state.edges others in
    let marks = optional_row sig_row state.marks edges in
    let name = optional_row string_row state.name marks in
    following (header _) (optional_row label_row state.label (number state.number ∷ name)) tt
    (optional_keeps label_row label_keeps state.label (number state.number ∷ name)
    (following (number state.number) name tt
    (optional_keeps string_row string_keeps state.name marks
    (optional_keeps sig_row sig_keeps state.marks edges
    (each_keeps edge_row edge_keeps state.edges others automaton_symbols)))))

end_alone : EndSpelled (sign kind.End ∷ [])
end_alone tokens rest spells = record {
  front = [];
  last = spells.front.lexeme;
  split = spells.front.next ∙ ap (λ all. spells.front.lexeme ∷ all) spells.back;
  ends = spells.front.shows;
  unended = tt;
}

-- after `HOA:` an automaton that is written ends with `--END--`
pub written_ends : (raw : RawAutomaton) → EndSpelled (word raw.version ∷ each item_row raw.items (sign kind.Body ∷ each state_row raw.states (sign kind.End ∷ [])))
written_ends raw =
    let states = each state_row raw.states (sign kind.End ∷ []) in
    let items = each item_row raw.items (sign kind.Body ∷ states) in
    following (word raw.version) items tt
    (each_keeps item_row item_keeps raw.items (sign kind.Body ∷ states)
    (following (sign kind.Body) states refl
    (each_keeps state_row state_keeps raw.states (sign kind.End ∷ []) end_alone)))

-- so does the whole
pub whole_ends : (raw : RawAutomaton) → EndSpelled (automaton_symbols raw)
whole_ends raw =
    let states = each state_row raw.states (sign kind.End ∷ []) in
    following (header _) (word raw.version ∷ each item_row raw.items (sign kind.Body ∷ states)) tt (written_ends raw)

-- the only token that ends a segment is the last
only_end : (inside front rest : List (Lexeme HoaKind)) (last end : Lexeme HoaKind) → NoneEnds inside → inside ++ last ∷ [] ≡ front ++ end ∷ rest → end.kind ≡ kind.End → rest ≡ []
only_end [] [] rest last end none is ends = cc
only_end [] (first ∷ []) rest last end none is ends = cc
only_end [] (first ∷ second ∷ front) rest last end none is ends = cc
only_end (one ∷ inside) [] rest last end none is ends =
    let same : one ≡ end = cc in
    let no : false ≡ true = sym none.0 ∙ ap (λ lexeme. is_end lexeme.kind) same ∙ ap is_end ends in
    cc
only_end (one ∷ inside) (first ∷ front) rest last end none is ends =
    let others : inside ++ last ∷ [] ≡ front ++ end ∷ rest = cc in
    only_end inside front rest last end none.1 others ends

-- none of the tokens of a segment before its last ends one
open_unended : (lexemes : List (Lexeme HoaKind)) → IsOpen lexemes → NoneEnds lexemes
open_unended lexemes begun = subst NoneEnds (sym begun.split) (ap is_end begun.opens.kind, begun.unended)

-- so an automaton that the tokens of a segment begin with is all of them
pub nothing_left : (lexemes rest : List (Lexeme HoaKind)) (raw : RawAutomaton) (mark : HoaKind) → IsSegment mark lexemes → ReadsAutomaton lexemes raw rest → IsRawOf lexemes raw
nothing_left lexemes rest raw mark segment reads =
    let end = whole_ends raw lexemes rest reads.spells in
    subst (ReadsAutomaton lexemes raw)
    (only_end segment.inside end.front rest segment.last end.last (open_unended segment.inside segment.before) (sym segment.split ∙ end.split) end.ends) reads
