-- With which tokens rows begin: what was read stands before what is still to come, whatever that is.
use Rattle.std.proofs.Common.{◌≡◌, ℕ, ◌-◌, true, List, [], ◌∷◌, ◌++◌, Option, Some, None, length, map, take, codes, ap, append-nil, append_assoc, refl, sym, ◌∙◌, subst, arith}
use Rattle.std.proofs.lemmas.List.{append_cancel_right, length-append, take-append-le, take_all}
use Rattle.std.specs.List.{AllByRecursion}
use Rattle.omega_hoa_expression.proofs.ClosingLemmas.{plain}
use Rattle.omega_hoa_expression.specs.Symbols.{EndsThere, IsNoOperator, expression_symbol_of}
use Rattle.omega_hoa_acceptance.specs.Raw.{RawAccTree}
use Rattle.omega_hoa_acceptance.specs.Raw as acc
use Rattle.omega_hoa_acceptance.specs.Reading.{BeginsAcc, ReadsAcc}
use Rattle.omega_hoa_acceptance.specs.declared.name.Parameter.TheVariants as parameter
use Rattle.omega_hoa_label.specs.Raw.{RawLabelTree}
use Rattle.omega_hoa_label.specs.Raw as guard
use Rattle.omega_hoa_label_text.specs.Reading.{BeginsLabel, Reads}
use Rattle.omega_hoa_syntax.proofs.SpellingLemmas.{next_is}
use Rattle.omega_hoa_syntax.specs.First.{FirstIs}
use Rattle.omega_hoa_syntax.specs.Grammar.{BeginsAutomaton, IsConj, IsRawEdge, IsRawItem, IsRawState, conj_row, each, edge_row, int_row, item_row, label_row, optional_row, parameter_row, sig_row, state_row, string_row, value_row, word_row}
use Rattle.omega_hoa_syntax.specs.Symbols.{AutomatonSymbol, IsNext, ReadsSymbols, Splits, Tokens, alias, formula, header, label, number, sign, text, without_last, word}
use Rattle.omega_hoa_syntax.specs.private.steps.Joining.{Joins}
use Rattle.omega_hoa_syntax.specs.private.steps.Reading.{IsAny, IsBegun, NextIs, Spells, symbol_row}
use Rattle.omega_hoa_syntax.specs.private.steps.Rows.{expression_row, formula_row}
use Rattle.omega_hoa_syntax.specs.declared.raw_automaton.RawAutomaton.{RawAutomaton}
use Rattle.omega_hoa_syntax.specs.declared.raw_edge.RawEdge.{RawEdge}
use Rattle.omega_hoa_syntax.specs.declared.header_value.HeaderValue.TheVariants as value
use Rattle.omega_text.specs.Lexeme.{Lexeme}
use Rattle.omega_text.specs.declared.hoa.kind.HoaKind.{HoaKind}
use Rattle.omega_text.specs.declared.hoa.kind.HoaKind.TheVariants as kind

-- the row of an automaton
abbrev pub row_of : RawAutomaton → List AutomatonSymbol → List AutomatonSymbol
row_of raw others = header (codes "HOA") ∷ word raw.version ∷ each item_row raw.items (sign kind.Body ∷ each state_row raw.states (sign kind.End ∷ others))

-- the first token is no operator, if what follows is not one or stands in its place
ends_before : (front rest left : Tokens) → EndsThere (front ++ rest) → (EndsThere rest → EndsThere left) → EndsThere (front ++ left)
ends_before [] rest left ends follows = follows ends
ends_before (lexeme ∷ front) rest left ends follows = ends

ends_joined : (front left : Tokens) → EndsThere front → EndsThere left → EndsThere (front ++ left)
ends_joined [] left ends last = last
ends_joined (lexeme ∷ front) left ends last = ends

-- the front of tokens spells symbols whatever follows it, if that is no operator unless what followed it was one
pub record Fronts (symbols : List AutomatonSymbol) (tokens rest : Tokens) : Type 0 where
  pub front : Tokens
  pub split : tokens ≡ front ++ rest
  pub spells : (left : Tokens) → (EndsThere rest → EndsThere left) → ReadsSymbols (front ++ left) symbols left

-- the same of a front that begins with a token
record TokenFronts (symbol : AutomatonSymbol) (others : List AutomatonSymbol) (tokens rest : Tokens) : Type 0 where
  pub front : Tokens
  pub split : tokens ≡ front ++ rest
  pub spells : (left : Tokens) → (EndsThere rest → EndsThere left) → Splits (λ middle. IsNext symbol (front ++ left) middle) (λ middle. ReadsSymbols middle others left)

token_fronted : (symbol : AutomatonSymbol) (others : List AutomatonSymbol) (tokens middle rest : Tokens) → IsNext symbol tokens middle → Fronts others middle rest → TokenFronts symbol others tokens rest
token_fronted symbol others tokens middle rest next back = record {
  front = next.lexeme ∷ back.front;
  split = next.next ∙ ap (λ more. next.lexeme ∷ more) back.split;
  spells = λ left follows. record {
    middle = back.front ++ left;
    front = record { lexeme = next.lexeme; next = refl; shows = next.shows };
    back = back.spells left follows;
  };
}

fronted : (symbols : List AutomatonSymbol) (tokens rest : Tokens) → ReadsSymbols tokens symbols rest → Fronts symbols tokens rest
fronted [] tokens rest spells = record { front = []; split = spells; spells = λ left follows. refl }
fronted (number n ∷ others) tokens rest spells =
    let f = token_fronted (number n) others tokens spells.middle rest spells.front (fronted others spells.middle rest spells.back) in record { front = f.front; split = f.split; spells = f.spells }
fronted (word bytes ∷ others) tokens rest spells =
    let f = token_fronted (word bytes) others tokens spells.middle rest spells.front (fronted others spells.middle rest spells.back) in record { front = f.front; split = f.split; spells = f.spells }
fronted (header bytes ∷ others) tokens rest spells =
    let f = token_fronted (header bytes) others tokens spells.middle rest spells.front (fronted others spells.middle rest spells.back) in record { front = f.front; split = f.split; spells = f.spells }
fronted (alias bytes ∷ others) tokens rest spells =
    let f = token_fronted (alias bytes) others tokens spells.middle rest spells.front (fronted others spells.middle rest spells.back) in record { front = f.front; split = f.split; spells = f.spells }
fronted (text bytes ∷ others) tokens rest spells =
    let f = token_fronted (text bytes) others tokens spells.middle rest spells.front (fronted others spells.middle rest spells.back) in record { front = f.front; split = f.split; spells = f.spells }
fronted (sign sort ∷ others) tokens rest spells =
    let f = token_fronted (sign sort) others tokens spells.middle rest spells.front (fronted others spells.middle rest spells.back) in record { front = f.front; split = f.split; spells = f.spells }
fronted (label tree ∷ others) tokens rest spells =
    let reads : Reads tokens tree spells.middle = spells.front in
    let back = fronted others spells.middle rest spells.back in
    record {
      front = reads.front ++ back.front;
      split = reads.split ∙ (ap (λ more. reads.front ++ more) back.split ∙ sym (append_assoc reads.front back.front rest));
      spells = λ left follows. record {
        middle = back.front ++ left;
        front = record { front = reads.front; split = append_assoc reads.front back.front left; spells = reads.spells; is = reads.is; ends = ends_before back.front rest left (subst EndsThere back.split reads.ends) follows };
        back = back.spells left follows;
      };
    }
fronted (formula tree ∷ others) tokens rest spells =
    let reads : ReadsAcc tokens tree spells.middle = spells.front in
    let back = fronted others spells.middle rest spells.back in
    record {
      front = reads.front ++ back.front;
      split = reads.split ∙ (ap (λ more. reads.front ++ more) back.split ∙ sym (append_assoc reads.front back.front rest));
      spells = λ left follows. record {
        middle = back.front ++ left;
        front = record { front = reads.front; split = append_assoc reads.front back.front left; spells = reads.spells; is = reads.is; ends = ends_before back.front rest left (subst EndsThere back.split reads.ends) follows };
        back = back.spells left follows;
      };
    }

-- symbols and then others
reads_append : (symbols others : List AutomatonSymbol) (tokens middle rest : Tokens) → ReadsSymbols tokens symbols middle → ReadsSymbols middle others rest → ReadsSymbols tokens (symbols ++ others) rest
reads_append [] others tokens middle rest first second = subst (λ here. ReadsSymbols here others rest) (sym first) second
reads_append (symbol ∷ symbols) others tokens middle rest first second =
    record { middle = first.middle; front = first.front; back = reads_append symbols others first.middle middle rest first.back second }

-- what was read before some tokens is read before others as well
pub spelled : (symbols : List AutomatonSymbol → List AutomatonSymbol) (old new front : Tokens) → Joins symbols → old ≡ front ++ new
    → ((others : List AutomatonSymbol) (rest : Tokens) → ReadsSymbols new others rest → ReadsSymbols old (symbols others) rest)
    → (left : Tokens) (others : List AutomatonSymbol) (rest : Tokens) → (EndsThere new → EndsThere left) → ReadsSymbols left others rest → ReadsSymbols (front ++ left) (symbols others) rest
spelled symbols old new front joins split gives left others rest follows spells =
    let found = fronted (symbols []) old new (gives [] new refl) in
    let same : found.front ≡ front = append_cancel_right found.front front new (sym found.split ∙ split) in
    let here : ReadsSymbols (front ++ left) (symbols []) left = subst (λ part. ReadsSymbols (part ++ left) (symbols []) left) same (found.spells left follows) in
    subst (λ all. ReadsSymbols (front ++ left) all rest) (sym (joins others)) (reads_append (symbols []) others (front ++ left) left rest here spells)

-- a token is read before any others
pub token_spelled : (symbol : AutomatonSymbol) (old new front : Tokens) → old ≡ front ++ new → Splits (λ middle. IsNext symbol old middle) (λ middle. middle ≡ new)
    → (left : Tokens) → IsNext symbol (front ++ left) left
token_spelled symbol old new front split next left =
    let one : next.front.lexeme ∷ [] ≡ front = append_cancel_right (next.front.lexeme ∷ []) front new (ap (λ more. next.front.lexeme ∷ more) (sym next.back) ∙ (sym next.front.next ∙ split)) in
    subst (λ part. IsNext symbol (part ++ left) left) one (record { lexeme = next.front.lexeme; next = refl; shows = next.front.shows })

-- the first symbol, if there is one, is a token and no operator
abbrev pub IsApart : List AutomatonSymbol → Type 0
IsApart [] = Unit {0}
IsApart (symbol ∷ others) = FirstIs IsNoOperator (symbol ∷ others)

ends_of_next : (tokens : Tokens) → NextIs IsNoOperator tokens → EndsThere tokens
ends_of_next [] is = absurd is
ends_of_next (lexeme ∷ rest) is = is

apart : (symbols : List AutomatonSymbol) (tokens : Tokens) → IsApart symbols → ReadsSymbols tokens symbols [] → EndsThere tokens
apart [] tokens is spells = subst EndsThere (sym spells) tt
apart (symbol ∷ others) tokens is spells = ends_of_next tokens (next_is IsNoOperator (symbol ∷ others) tokens [] is spells)

-- tokens that spell symbols are those symbols' alone
pub spelled_alone : (symbols : List AutomatonSymbol → List AutomatonSymbol) (tokens : Tokens) → Spells symbols tokens → ReadsSymbols tokens (symbols []) []
spelled_alone symbols tokens spells = subst (λ here. ReadsSymbols here (symbols []) []) (append-nil tokens) (spells [] [] [] tt refl)

pub regrouped : (front before more left : Tokens) → front ++ ((before ++ more) ++ left) ≡ ((front ++ before) ++ more) ++ left
regrouped front before more left =
    sym (append_assoc front (before ++ more) left) ∙ ap (λ part. part ++ left) (sym (append_assoc front before more))

-- a row begins after what was read before it
pub begun_after : {X : Type 0} {Is : X → Type 0} {row : X → List AutomatonSymbol → List AutomatonSymbol} (symbols : List AutomatonSymbol → List AutomatonSymbol) (old new front before : Tokens)
    → Joins symbols → old ≡ front ++ new → ((others : List AutomatonSymbol) (rest : Tokens) → ReadsSymbols new others rest → ReadsSymbols old (symbols others) rest)
    → ((it : X) → Is it → IsApart (row it [])) → IsBegun Is row before → IsBegun Is (λ it others. symbols (row it others)) (front ++ before)
begun_after {X} {Is} {row} symbols old new front before joins split gives is_apart begun = record {
  more = begun.more;
  it = begun.it;
  is = begun.is;
  spells = λ left others rest ends spells.
      subst (λ here. ReadsSymbols here (symbols (row begun.it others)) rest) (regrouped front before begun.more left)
      (spelled symbols old new front joins split gives ((before ++ begun.more) ++ left) (row begun.it others) rest
      (λ e. ends_joined (before ++ begun.more) left (apart (row begun.it []) (before ++ begun.more) (is_apart begun.it begun.is) (spelled_alone (row begun.it) (before ++ begun.more) begun.spells)) ends)
      (begun.spells left others rest ends spells));
}

-- a row begins after a token that was read before it
pub begun_after_token : {X : Type 0} {Is : X → Type 0} {row : X → List AutomatonSymbol → List AutomatonSymbol} (symbol : AutomatonSymbol) (old new front before : Tokens)
    → ((tokens : Tokens) (others : List AutomatonSymbol) (rest : Tokens) → Splits (λ middle. IsNext symbol tokens middle) (λ middle. ReadsSymbols middle others rest) → ReadsSymbols tokens (symbol ∷ others) rest)
    → old ≡ front ++ new → Splits (λ middle. IsNext symbol old middle) (λ middle. middle ≡ new) → IsBegun Is row before → IsBegun Is (λ it others. symbol ∷ row it others) (front ++ before)
begun_after_token {X} {Is} {row} symbol old new front before makes split next begun = record {
  more = begun.more;
  it = begun.it;
  is = begun.is;
  spells = λ left others rest ends spells.
      subst (λ here. ReadsSymbols here (symbol ∷ row begun.it others) rest) (regrouped front before begun.more left)
      (makes (front ++ ((before ++ begun.more) ++ left)) (row begun.it others) rest (record {
        middle = (before ++ begun.more) ++ left;
        front = token_spelled symbol old new front split next ((before ++ begun.more) ++ left);
        back = begun.spells left others rest ends spells;
      }));
}

-- what comes after a row completes it
pub completed : {X : Type 0} {Is : X → Type 0} {row : X → List AutomatonSymbol → List AutomatonSymbol} (ending : List AutomatonSymbol → List AutomatonSymbol) (short before : Tokens)
    → EndsThere short → Spells ending short → IsBegun Is row before → IsBegun Is (λ it others. row it (ending others)) before
completed {X} {Is} {row} ending short before apart_from completes begun = record {
  more = begun.more ++ short;
  it = begun.it;
  is = begun.is;
  spells = λ left others rest ends spells.
      subst (λ here. ReadsSymbols here (row begun.it (ending others)) rest)
      (sym (append_assoc (before ++ begun.more) short left) ∙ ap (λ part. part ++ left) (append_assoc before begun.more short))
      (begun.spells (short ++ left) (ending others) rest (ends_joined short left apart_from ends) (completes left others rest ends spells));
}

-- the shortest rows
pub sign_first : (sort : HoaKind) (left : Tokens) (others : List AutomatonSymbol) (rest : Tokens) → ReadsSymbols left others rest → ReadsSymbols (plain sort ∷ left) (sign sort ∷ others) rest
sign_first sort left others rest spells = record { middle = left; front = record { lexeme = plain sort; next = refl; shows = refl }; back = spells }

pub number_first : (left : Tokens) (others : List AutomatonSymbol) (rest : Tokens) → ReadsSymbols left others rest → ReadsSymbols (plain kind.Int ∷ left) (number 0 ∷ others) rest
number_first left others rest spells = record { middle = left; front = record { lexeme = plain kind.Int; next = refl; shows = (refl, refl) }; back = spells }

pub word_first : (left : Tokens) (others : List AutomatonSymbol) (rest : Tokens) → ReadsSymbols left others rest → ReadsSymbols (plain kind.Identifier ∷ left) (word [] ∷ others) rest
word_first left others rest spells = record { middle = left; front = record { lexeme = plain kind.Identifier; next = refl; shows = (refl, refl) }; back = spells }

pub text_first : (left : Tokens) (others : List AutomatonSymbol) (rest : Tokens) → ReadsSymbols left others rest → ReadsSymbols (plain kind.String ∷ left) (text [] ∷ others) rest
text_first left others rest spells = record { middle = left; front = record { lexeme = plain kind.String; next = refl; shows = (refl, refl) }; back = spells }

pub alias_first : (left : Tokens) (others : List AutomatonSymbol) (rest : Tokens) → ReadsSymbols left others rest → ReadsSymbols (plain kind.AliasName ∷ left) (alias [] ∷ others) rest
alias_first left others rest spells = record { middle = left; front = record { lexeme = plain kind.AliasName; next = refl; shows = (refl, refl) }; back = spells }

-- a header of this name
abbrev pub headed : List ℕ → Lexeme HoaKind
headed name = record { kind = kind.HeaderName; text = name ++ 58 ∷ []; value = 0; span = record { start = 0; end = 0 } }

headed_name : (name : List ℕ) → without_last (name ++ 58 ∷ []) ≡ name
headed_name name =
    let count : length (name ++ 58 ∷ []) - 1 ≡ length name = omega (arith, length-append name (58 ∷ [])) in
    ap (λ n. take n (name ++ 58 ∷ [])) count ∙ (take-append-le (length name) name (58 ∷ []) (omega arith) ∙ take_all (length name) name (omega arith))

pub header_first : (name : List ℕ) (left : Tokens) (others : List AutomatonSymbol) (rest : Tokens) → ReadsSymbols left others rest → ReadsSymbols (headed name ∷ left) (header name ∷ others) rest
header_first name left others rest spells = record { middle = left; front = record { lexeme = headed name; next = refl; shows = (refl, headed_name name) }; back = spells }

pub label_first : (left : Tokens) (others : List AutomatonSymbol) (rest : Tokens) → EndsThere left → ReadsSymbols left others rest → ReadsSymbols (plain kind.True ∷ left) (label (guard.constant true) ∷ others) rest
label_first left others rest ends spells = record {
  middle = left;
  front = record { front = plain kind.True ∷ []; split = refl; spells = refl; is = tt; ends = ends };
  back = spells;
}

pub formula_first : (left : Tokens) (others : List AutomatonSymbol) (rest : Tokens) → EndsThere left → ReadsSymbols left others rest → ReadsSymbols (plain kind.True ∷ left) (formula (acc.constant true) ∷ others) rest
formula_first left others rest ends spells = record {
  middle = left;
  front = record { front = plain kind.True ∷ []; split = refl; spells = refl; is = tt; ends = ends };
  back = spells;
}

-- what some label begins with, its row begins with
pub label_begun : (before : Tokens) → BeginsLabel before → IsBegun IsAny expression_row before
label_begun before begun = record {
  more = begun.0;
  it = begun.1;
  is = tt;
  spells = λ left others rest ends spells. record {
    middle = left;
    front = record {
      front = before ++ begun.0;
      split = refl;
      spells = ap (map expression_symbol_of) (begun.2.split ∙ append-nil begun.2.front) ∙ begun.2.spells;
      is = begun.2.is;
      ends = ends;
    };
    back = spells;
  };
}

-- and so with a formula
pub formula_begun : (before : Tokens) → BeginsAcc before → IsBegun IsAny formula_row before
formula_begun before begun = record {
  more = begun.0;
  it = begun.1;
  is = tt;
  spells = λ left others rest ends spells. record {
    middle = left;
    front = record {
      front = before ++ begun.0;
      split = refl;
      spells = ap (map expression_symbol_of) (begun.2.split ∙ append-nil begun.2.front) ∙ begun.2.spells;
      is = begun.2.is;
      ends = ends;
    };
    back = spells;
  };
}

-- rows that begin with no operator
pub numbers_apart : (marks : List ℕ) (others : List AutomatonSymbol) → IsApart others → IsApart (each int_row marks others)
numbers_apart [] others is = is
numbers_apart (first ∷ more) others is = tt

pub conj_apart : (states : List ℕ) (others : List AutomatonSymbol) → IsConj states → IsApart (conj_row states others)
conj_apart [] others valid = absurd (omega arith)
conj_apart (first ∷ more) others valid = tt

pub marks_apart : (marks : Option (List ℕ)) (others : List AutomatonSymbol) → IsApart others → IsApart (optional_row sig_row marks others)
marks_apart None others is = is
marks_apart (Some sets) others is = tt

pub name_apart : (name : Option (List ℕ)) (others : List AutomatonSymbol) → IsApart others → IsApart (optional_row string_row name others)
name_apart None others is = is
name_apart (Some bytes) others is = tt

edge_apart : (label : Option RawLabelTree) (targets : List ℕ) (others : List AutomatonSymbol) → IsConj targets → IsApart (optional_row label_row label (conj_row targets others))
edge_apart None targets others valid = conj_apart targets others valid
edge_apart (Some tree) targets others valid = tt

pub edges_apart : (edges : List RawEdge) → AllByRecursion IsRawEdge edges → IsApart (each edge_row edges [])
edges_apart [] are = tt
edges_apart (edge ∷ more) are = edge_apart edge.label edge.targets (optional_row sig_row edge.marks (each edge_row more [])) are.0

-- an automaton begins with what its row begins with
pub automaton_begun : (tokens more : Tokens) (raw : RawAutomaton) → AllByRecursion IsRawItem raw.items → AllByRecursion IsRawState raw.states → Spells (λ others. row_of raw others) (tokens ++ more) → BeginsAutomaton tokens
automaton_begun tokens more raw items states spells = (more, raw, record { items = items; states = states; spells = spelled_alone (row_of raw) (tokens ++ more) spells })

-- what single tokens begin with
pub int_begun : IsBegun IsAny int_row []
int_begun = record { more = plain kind.Int ∷ []; it = 0; is = tt; spells = λ left others rest ends spells. number_first left others rest spells }

pub word_begun : IsBegun IsAny word_row []
word_begun = record { more = plain kind.Identifier ∷ []; it = []; is = tt; spells = λ left others rest ends spells. word_first left others rest spells }

pub string_begun : IsBegun IsAny string_row []
string_begun = record { more = plain kind.String ∷ []; it = []; is = tt; spells = λ left others rest ends spells. text_first left others rest spells }

pub parameter_begun : IsBegun IsAny parameter_row []
parameter_begun = record { more = plain kind.Int ∷ []; it = parameter.Number 0; is = tt; spells = λ left others rest ends spells. number_first left others rest spells }

pub value_begun : IsBegun IsAny value_row []
value_begun = record { more = plain kind.Int ∷ []; it = value.Number 0; is = tt; spells = λ left others rest ends spells. number_first left others rest spells }

pub sign_begun : (sort : HoaKind) → IsBegun IsAny (symbol_row (sign sort)) []
sign_begun sort = record { more = plain sort ∷ []; it = tt; is = tt; spells = λ left others rest ends spells. sign_first sort left others rest spells }

pub header_begun : (name : List ℕ) → IsBegun IsAny (symbol_row (header name)) []
header_begun name = record { more = headed name ∷ []; it = tt; is = tt; spells = λ left others rest ends spells. header_first name left others rest spells }

-- the token of an alias name that is passed
pub alias_next : (old new : Tokens) (lexeme : Lexeme HoaKind) (name : List ℕ) → old ≡ lexeme ∷ new → lexeme.kind ≡ kind.AliasName → name ≡ lexeme.text → Splits (λ middle. IsNext (alias name) old middle) (λ middle. middle ≡ new)
alias_next old new lexeme name next sort called = record { middle = new; front = record { lexeme = lexeme; next = next; shows = (sort, sym called) }; back = refl }
