-- Words, what follows `cycle` and what follows `{`: with which tokens they begin, and how they go on.
use Rattle.std.proofs.Common.{◌≡◌, ◌≢◌, ℕ, suc, ◌+◌, ◌<◌, arith, List, [], ◌∷◌, ◌++◌, length, map, ap, append-nil, append_assoc, refl, sym, ◌∙◌, subst}
use Rattle.std.proofs.lemmas.List.{map-append}
use Rattle.std.specs.List.{AllByRecursion}
use Rattle.omega_hoa_expression.specs.Passing.{IsMissing, NextIsNot}
use Rattle.omega_hoa_expression.specs.Symbols.{EndsThere, ExpressionSymbol, disjunctive, expression_symbol_of, sign}
use Rattle.omega_hoa_expression.specs.Unread.{AgreeThroughNext, IsFirstUnread, IsUnread}
use Rattle.omega_hoa_expression.proofs.ClosingLemmas.{plain}
use Rattle.omega_hoa_label.specs.Raw.{RawLabelTree, constant}
use Rattle.omega_hoa_label_text.specs.Reading.{BeginsLabel, IsOf, LabelsAreOne, Reads, ReadsNoLabel, label_symbols}
use Rattle.omega_text.specs.Lexeme.{Lexeme}
use Rattle.omega_text.specs.declared.hoa.kind.HoaKind.{HoaKind}
use Rattle.omega_text.specs.declared.hoa.kind.HoaKind.TheVariants as kind
use Rattle.omega_lang_word_text.specs.Grammar.{BeginsWord, ReadsNoWord, ReadsWord, cycle_symbols, other_symbols, stem_symbols, word_symbols}
use Rattle.omega_lang_word_text.specs.private.Parts.{BeginsPart, ReadsBraced, ReadsCycle, ReadsNo, ReadsOthers}
use Rattle.omega_lang_word_text.proofs.Following.{Tokens}
use Rattle.omega_lang_word_text.proofs.Splitting.{begins_with, ends_at_mark, label_begins, marked, splits}

-- a list and an item, and others before what follows, regrouped
pub regroup : {A : Type 0} (left : List A) (item : A) (others more : List A) → ((left ++ item ∷ []) ++ others) ++ more ≡ left ++ (item ∷ (others ++ more))
regroup left item others more = append_assoc (left ++ item ∷ []) others more ∙ append_assoc left (item ∷ []) (others ++ more)

-- the symbols of two lists of tokens
joined : (front rest : Tokens) (first second : List ExpressionSymbol) → map expression_symbol_of front ≡ first → map expression_symbol_of rest ≡ second
    → map expression_symbol_of (front ++ rest) ≡ first ++ second
joined front rest first second front_is rest_is = map-append expression_symbol_of front rest ∙ (λ i. front_is i ++ rest_is i)

-- `}`
closing : Tokens
closing = plain kind.CloseBrace ∷ []

-- what is read of a letter alone
abbrev pub IsLetter : Tokens → RawLabelTree → Type 0
IsLetter front letter = (map expression_symbol_of front ≡ label_symbols letter) × IsOf disjunctive letter

-- a letter, with what goes on with no operator
reads_letter : (tokens front rest : Tokens) (letter : RawLabelTree) → tokens ≡ front ++ rest → IsLetter front letter → EndsThere rest → Reads tokens letter rest
reads_letter tokens front rest letter split is ends = record { front = front; split = split; spells = is.0; is = is.1; ends = ends }

-- the letter that is read of tokens begins each word of them
module _ (one : LabelsAreOne) where
  -- a letter of a cycle, and what follows it
  pub cycle_first : (tokens rest : Tokens) (letter : RawLabelTree) (around : List RawLabelTree) → Reads tokens letter rest → ReadsCycle tokens around
      → (others : List RawLabelTree) × (around ≡ letter ∷ others) × ReadsOthers rest others
  cycle_first tokens rest letter [] reads is = absurd (let l = is.longer in omega arith)
  cycle_first tokens rest letter (first ∷ others) reads is =
      let parts = splits tokens (label_symbols first) (other_symbols others ++ sign kind.CloseBrace ∷ [])
      (is.spells ∙ append_assoc (label_symbols first) (other_symbols others) (sign kind.CloseBrace ∷ [])) in
      let ends = others_end parts.rest others parts.rest_is in
      let same = one tokens letter first rest parts.rest reads (reads_letter tokens parts.front parts.rest first parts.split (parts.front_is, is.is.0) ends) in (
        others,
        ap (λ (l : RawLabelTree). l ∷ others) (sym same.0),
        record { spells = ap (map expression_symbol_of) same.1 ∙ parts.rest_is; is = is.is.1 },
      )
    where
      others_end : (rest : Tokens) (others : List RawLabelTree) → map expression_symbol_of rest ≡ other_symbols others ++ sign kind.CloseBrace ∷ [] → EndsThere rest
      others_end rest [] is = ends_at_mark rest kind.CloseBrace [] tt is
      others_end rest (first ∷ others) is = ends_at_mark rest kind.End _ tt is

  -- a letter of a stem, and what follows it
  pub word_first : (tokens rest : Tokens) (letter : RawLabelTree) (stem around : List RawLabelTree) → Reads tokens letter rest → ReadsWord tokens stem around
      → (more : List RawLabelTree) × (following : Tokens) × (semicolon : Lexeme HoaKind) × (stem ≡ letter ∷ more) × (rest ≡ semicolon ∷ following)
      × (semicolon.kind ≡ kind.End) × ReadsWord following more around
  word_first tokens rest letter [] around reads is =
      absurd (label_begins letter kind.Body (map expression_symbol_of rest) (sign kind.OpenBrace ∷ (cycle_symbols around ++ sign kind.CloseBrace ∷ [])) tt
      (sym (joined reads.front rest (label_symbols letter) (map expression_symbol_of rest) reads.spells refl) ∙ (ap (map expression_symbol_of) (sym reads.split) ∙ is.spells)))
  word_first tokens rest letter (first ∷ more) around reads is =
      let parts = splits tokens (label_symbols first) (sign kind.End ∷ word_symbols more around)
      (is.spells ∙ regroup (label_symbols first) (sign kind.End) (stem_symbols more) (sign kind.Body ∷ sign kind.OpenBrace ∷ (cycle_symbols around ++ sign kind.CloseBrace ∷ []))) in
      let ends = ends_at_mark parts.rest kind.End (word_symbols more around) tt parts.rest_is in
      let same = one tokens letter first rest parts.rest reads (reads_letter tokens parts.front parts.rest first parts.split (parts.front_is, is.stem_is.0) ends) in
      let next = begins_with parts.rest kind.End (word_symbols more around) parts.rest_is in (
        more,
        next.rest,
        next.first,
        ap (λ (l : RawLabelTree). l ∷ more) (sym same.0),
        same.1 ∙ next.split,
        next.is,
        record { spells = next.rest_is; stem_is = is.stem_is.1; cycle_is = is.cycle_is; longer = is.longer },
      )

-- a letter, `;` and a word are a word
pub word_after : (front : Tokens) (semicolon : Lexeme HoaKind) (rest : Tokens) (letter : RawLabelTree) (stem around : List RawLabelTree) → IsLetter front letter
    → semicolon.kind ≡ kind.End → ReadsWord rest stem around → ReadsWord (front ++ semicolon ∷ rest) (letter ∷ stem) around
word_after front semicolon rest letter stem around is sort word = record {
  spells = joined front (semicolon ∷ rest) (label_symbols letter) (sign kind.End ∷ word_symbols stem around) is.0
      (λ i. marked semicolon kind.End tt sort i ∷ word.spells i)
      ∙ sym (regroup (label_symbols letter) (sign kind.End) (stem_symbols stem) (sign kind.Body ∷ sign kind.OpenBrace ∷ (cycle_symbols around ++ sign kind.CloseBrace ∷ [])));
  stem_is = (is.1, word.stem_is);
  cycle_is = word.cycle_is;
  longer = word.longer;
}

-- a letter and what follows it are those of a cycle
pub cycle_after : (front rest : Tokens) (letter : RawLabelTree) (others : List RawLabelTree) → IsLetter front letter → ReadsOthers rest others → ReadsCycle (front ++ rest) (letter ∷ others)
cycle_after front rest letter others is reads = record {
  spells = joined front rest (label_symbols letter) (other_symbols others ++ sign kind.CloseBrace ∷ []) is.0 reads.spells
      ∙ sym (append_assoc (label_symbols letter) (other_symbols others) (sign kind.CloseBrace ∷ []));
  is = (is.1, reads.is);
  longer = omega arith;
}

-- `;` and the letters of a cycle are further letters
pub others_after : (semicolon : Lexeme HoaKind) (rest : Tokens) (around : List RawLabelTree) → semicolon.kind ≡ kind.End → ReadsCycle rest around → ReadsOthers (semicolon ∷ rest) around
others_after semicolon rest [] sort reads = absurd (let l = reads.longer in omega arith)
others_after semicolon rest (first ∷ others) sort reads = record {
  spells = λ i. marked semicolon kind.End tt sort i ∷ reads.spells i;
  is = reads.is;
}

-- and the other way round
pub others_first : (semicolon : Lexeme HoaKind) (rest : Tokens) (others : List RawLabelTree) → semicolon.kind ≡ kind.End → ReadsOthers (semicolon ∷ rest) others → ReadsCycle rest others
others_first semicolon rest [] sort reads =
    absurd (let e : expression_symbol_of semicolon ∷ map expression_symbol_of rest ≡ sign kind.CloseBrace ∷ [] = reads.spells in
    let m : expression_symbol_of semicolon ≡ sign kind.End = marked semicolon kind.End tt sort in cc)
others_first semicolon rest (first ∷ others) sort reads =
    let e : expression_symbol_of semicolon ∷ map expression_symbol_of rest ≡ sign kind.End ∷ ((label_symbols first ++ other_symbols others) ++ sign kind.CloseBrace ∷ []) = reads.spells in
    record { spells = cc; is = reads.is; longer = omega arith }

-- `{` and a cycle
pub braced_after : (brace : Lexeme HoaKind) (rest : Tokens) (around : List RawLabelTree) → brace.kind ≡ kind.OpenBrace → ReadsCycle rest around → ReadsBraced (brace ∷ rest) around
braced_after brace rest around sort reads = record {
  spells = λ i. marked brace kind.OpenBrace tt sort i ∷ reads.spells i;
  is = reads.is;
  longer = reads.longer;
}

pub braced_first : (brace : Lexeme HoaKind) (rest : Tokens) (around : List RawLabelTree) → ReadsBraced (brace ∷ rest) around → ReadsCycle rest around
braced_first brace rest around reads =
    let e : expression_symbol_of brace ∷ map expression_symbol_of rest ≡ sign kind.OpenBrace ∷ (cycle_symbols around ++ sign kind.CloseBrace ∷ []) = reads.spells in
    record { spells = cc; is = reads.is; longer = reads.longer }

-- `cycle` and what follows it are a word with no stem
pub word_with : (word : Lexeme HoaKind) (rest : Tokens) (around : List RawLabelTree) → word.kind ≡ kind.Body → ReadsBraced rest around → ReadsWord (word ∷ rest) [] around
word_with word rest around sort reads = record {
  spells = λ i. marked word kind.Body tt sort i ∷ reads.spells i;
  stem_is = tt;
  cycle_is = reads.is;
  longer = reads.longer;
}

pub word_only : (word : Lexeme HoaKind) (rest : Tokens) (stem around : List RawLabelTree) → word.kind ≡ kind.Body → ReadsWord (word ∷ rest) stem around → ReadsBraced rest around
word_only word rest [] around sort reads =
    let e : expression_symbol_of word ∷ map expression_symbol_of rest ≡ sign kind.Body ∷ (sign kind.OpenBrace ∷ (cycle_symbols around ++ sign kind.CloseBrace ∷ [])) = reads.spells in
    record { spells = cc; is = reads.cycle_is; longer = reads.longer }
word_only word rest (first ∷ stem) around sort reads =
    absurd (label_begins first kind.Body (sign kind.End ∷ word_symbols stem around) (map expression_symbol_of rest) tt
    (sym (regroup (label_symbols first) (sign kind.End) (stem_symbols stem) (sign kind.Body ∷ sign kind.OpenBrace ∷ (cycle_symbols around ++ sign kind.CloseBrace ∷ [])))
    ∙ (sym reads.spells ∙ (λ i. marked word kind.Body tt sort i ∷ map expression_symbol_of rest))))
