-- An automaton is written by the same tokens wherever they are.
use Rattle.std.proofs.Common.{◌≡◌, ℕ, List, [], ◌∷◌, ◌++◌, map, refl, sym, ap, subst, ◌∙◌}
use Rattle.omega_text.specs.Lexeme.{Lexeme}
use Rattle.omega_text.specs.declared.hoa.kind.HoaKind.{HoaKind}
use Rattle.omega_hoa_acceptance.specs.Reading.{ReadsAcc}
use Rattle.omega_hoa_acceptance.specs.Raw.{RawAccTree}
use Rattle.omega_hoa_label.specs.Raw.{RawLabelTree}
use Rattle.omega_hoa_label_text.specs.Reading.{Reads}
use Rattle.omega_hoa_expression.specs.Symbols.{EndsThere, seen_as, expression_symbol_of}
use Rattle.omega_hoa_syntax.specs.Grammar.{automaton_symbols}
use Rattle.omega_hoa_syntax.specs.Symbols.{ReadsSymbol, IsNext, Shows, ReadsSymbols, AutomatonSymbol, alias, formula, header, label, number, sign, text, without_last, word}
use Rattle.omega_text.specs.Forms.{between_quotes}
use Rattle.omega_hoa_syntax.specs.declared.raw_automaton.RawAutomaton.{RawAutomaton}
use Rattle.omega_hoa_automaton.specs.Automaton.{Description}
use Rattle.omega_hoa.specs.Segment.{IsAutomatonOf, IsNoRaw, IsRawOf}
use Rattle.omega_hoa.proofs.Cutting.{moved}

-- a token is the other but for its place
pub record IsLike (one other : Lexeme HoaKind) : Type 0 where
  pub kind : one.kind ≡ other.kind
  pub value : one.value ≡ other.value
  pub bytes : one.text ≡ other.text

-- the tokens are the others but for their places
abbrev pub AreLike : List (Lexeme HoaKind) → List (Lexeme HoaKind) → Type 0
AreLike [] [] = Unit {0}
AreLike [] (other ∷ others) = ⊥
AreLike (one ∷ ones) [] = ⊥
AreLike (one ∷ ones) (other ∷ others) = IsLike one other × AreLike ones others

-- tokens that are counted from another place
pub same_moved : (base : ℕ) (lexemes : List (Lexeme HoaKind)) → AreLike (map (moved base) lexemes) lexemes
same_moved base [] = tt
same_moved base (lexeme ∷ lexemes) = (record { kind = refl; value = refl; bytes = refl }, same_moved base lexemes)

-- the others are the tokens but for their places
same_flipped : (ones others : List (Lexeme HoaKind)) → AreLike ones others → AreLike others ones
same_flipped [] [] same = tt
same_flipped [] (other ∷ others) same = absurd same
same_flipped (one ∷ ones) [] same = absurd same
same_flipped (one ∷ ones) (other ∷ others) same = (record { kind = sym same.0.kind; value = sym same.0.value; bytes = sym same.0.bytes }, same_flipped ones others same.1)

-- the others are parted as the tokens are
record IsParted (front rest others : List (Lexeme HoaKind)) : Type 0 where
  first : List (Lexeme HoaKind)
  second : List (Lexeme HoaKind)
  split : others ≡ first ++ second
  like : AreLike front first
  then_like : AreLike rest second

parted : (front rest others : List (Lexeme HoaKind)) → AreLike (front ++ rest) others → IsParted front rest others
parted [] rest others same = record { first = []; second = others; split = refl; like = tt; then_like = same }
parted (one ∷ front) rest [] same = absurd same
parted (one ∷ front) rest (other ∷ others) same =
    let parts = parted front rest others same.1 in
    record { first = other ∷ parts.first; second = parts.second; split = ap (λ all. other ∷ all) parts.split; like = (same.0, parts.like); then_like = parts.then_like }

-- their symbols are the same
seen_same : (ones others : List (Lexeme HoaKind)) → AreLike ones others → map expression_symbol_of ones ≡ map expression_symbol_of others
seen_same [] [] same = refl
seen_same [] (other ∷ others) same = absurd same
seen_same (one ∷ ones) [] same = absurd same
seen_same (one ∷ ones) (other ∷ others) same =
    ap (λ kind. seen_as kind one.value one.text ∷ map expression_symbol_of ones) same.0.kind
    ∙ ap (λ value. seen_as other.kind value one.text ∷ map expression_symbol_of ones) same.0.value
    ∙ ap (λ bytes. seen_as other.kind other.value bytes ∷ map expression_symbol_of ones) same.0.bytes
    ∙ ap (λ symbols. expression_symbol_of other ∷ symbols) (seen_same ones others same.1)

-- an expression ends before both or before none
ends_same : (ones others : List (Lexeme HoaKind)) → AreLike ones others → EndsThere ones → EndsThere others
ends_same [] [] same ends = tt
ends_same [] (other ∷ others) same ends = absurd same
ends_same (one ∷ ones) [] same ends = absurd same
ends_same (one ∷ ones) (other ∷ others) same ends = subst (λ kind. EndsThere (record other { kind = kind } ∷ others)) same.0.kind ends

-- a token shows the symbols that the other shows
shows_same : (symbol : AutomatonSymbol) (one other : Lexeme HoaKind) → IsLike one other → Shows symbol one → Shows symbol other
shows_same (number n) one other like shows = (sym like.kind ∙ shows.0, sym like.value ∙ shows.1)
shows_same (word bytes) one other like shows = (sym like.kind ∙ shows.0, sym like.bytes ∙ shows.1)
shows_same (header bytes) one other like shows = (sym like.kind ∙ shows.0, ap without_last (sym like.bytes) ∙ shows.1)
shows_same (alias bytes) one other like shows = (sym like.kind ∙ shows.0, sym like.bytes ∙ shows.1)
shows_same (text bytes) one other like shows = (sym like.kind ∙ shows.0, ap between_quotes (sym like.bytes) ∙ shows.1)
shows_same (sign kind) one other like shows = sym like.kind ∙ shows
shows_same (label tree) one other like shows = shows
shows_same (formula tree) one other like shows = shows

-- the others are the symbol's too, and what is left of them is what is left but for its places
record BeginsLike (symbol : AutomatonSymbol) (others middle : List (Lexeme HoaKind)) : Type 0 where
  left : List (Lexeme HoaKind)
  like : AreLike middle left
  begins : ReadsSymbol symbol others left

next_same : (symbol : AutomatonSymbol) (ones others middle : List (Lexeme HoaKind)) → AreLike ones others → IsNext symbol ones middle
    → (left : List (Lexeme HoaKind)) × AreLike middle left × IsNext symbol others left
next_same symbol ones [] middle same next = absurd (subst (λ all. AreLike all []) next.next same)
next_same symbol ones (other ∷ others) middle same next =
    let both = subst (λ all. AreLike all (other ∷ others)) next.next same in
    (others, both.1, record { lexeme = other; next = refl; shows = shows_same symbol next.lexeme other both.0 next.shows })

label_same : (tree : RawLabelTree) (ones others middle : List (Lexeme HoaKind)) → AreLike ones others → Reads ones tree middle
    → (left : List (Lexeme HoaKind)) × AreLike middle left × Reads others tree left
label_same tree ones others middle same reads =
    let parts = parted reads.front middle others (subst (λ all. AreLike all others) reads.split same) in (
      parts.second,
      parts.then_like,
      record {
        front = parts.first;
        split = parts.split;
        spells = sym (seen_same reads.front parts.first parts.like) ∙ reads.spells;
        is = reads.is;
        ends = ends_same middle parts.second parts.then_like reads.ends;
      },
    )

formula_same : (tree : RawAccTree) (ones others middle : List (Lexeme HoaKind)) → AreLike ones others → ReadsAcc ones tree middle
    → (left : List (Lexeme HoaKind)) × AreLike middle left × ReadsAcc others tree left
formula_same tree ones others middle same reads =
    let parts = parted reads.front middle others (subst (λ all. AreLike all others) reads.split same) in (
      parts.second,
      parts.then_like,
      record {
        front = parts.first;
        split = parts.split;
        spells = sym (seen_same reads.front parts.first parts.like) ∙ reads.spells;
        is = reads.is;
        ends = ends_same middle parts.second parts.then_like reads.ends;
      },
    )

begins_same : (symbol : AutomatonSymbol) (ones others middle : List (Lexeme HoaKind)) → AreLike ones others → ReadsSymbol symbol ones middle
    → (left : List (Lexeme HoaKind)) × AreLike middle left × ReadsSymbol symbol others left
begins_same (label tree) ones others middle same begins = label_same tree ones others middle same begins
begins_same (formula tree) ones others middle same begins = formula_same tree ones others middle same begins
begins_same symbol ones others middle same begins = next_same symbol ones others middle same begins

-- the others are those of the symbols too
spells_same : (symbols : List AutomatonSymbol) (ones others rest : List (Lexeme HoaKind)) → AreLike ones others → ReadsSymbols ones symbols rest
    → (left : List (Lexeme HoaKind)) × AreLike rest left × ReadsSymbols others symbols left
spells_same [] ones others rest same spells = (others, subst (λ all. AreLike all others) spells same, refl)
spells_same (symbol ∷ symbols) ones others rest same spells =
    let first = begins_same symbol ones others spells.middle same spells.front in
    let then = spells_same symbols spells.middle first.0 rest first.1 spells.back in
    (then.0, then.1, record { middle = first.0; front = first.2; back = then.2 })

-- nothing is like nothing alone
like_nothing : (left : List (Lexeme HoaKind)) → AreLike [] left → left ≡ []
like_nothing [] same = refl
like_nothing (other ∷ left) same = absurd same

-- they are those of the same automaton as it is written
pub raw_same : (ones others : List (Lexeme HoaKind)) (raw : RawAutomaton) → AreLike ones others → IsRawOf ones raw → IsRawOf others raw
raw_same ones others raw same written =
    let spells = spells_same (automaton_symbols raw) ones others [] same written.spells in
    record {
      items = written.items;
      states = written.states;
      spells = subst (ReadsSymbols others (automaton_symbols raw)) (like_nothing spells.0 spells.1) spells.2;
    }

-- or of none
pub none_same : (ones others : List (Lexeme HoaKind)) → AreLike ones others → IsNoRaw ones → IsNoRaw others
none_same ones others same none = λ raw written. none raw (raw_same others ones raw (same_flipped ones others same) written)

-- they are those of the same automaton
pub automaton_same : (ones others : List (Lexeme HoaKind)) (automaton : Description) → AreLike ones others → IsAutomatonOf ones automaton → IsAutomatonOf others automaton
automaton_same ones others automaton same is = record { raw = is.raw; written = raw_same ones others is.raw same is.written; means = is.means }
