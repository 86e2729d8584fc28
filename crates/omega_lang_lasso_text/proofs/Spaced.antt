-- The written form of a lasso with more white space says that lasso.
use Rattle.std.proofs.Common.{◌≡◌, ℕ, ◌≤◌, true, false, List, [], ◌∷◌, ◌++◌, refl, ap, sym, ◌∙◌, subst, append_assoc, append-nil, arith, codes, map}
use Rattle.std.specs.Prelude.{decimal, slice_index}
use Rattle.std.specs.List.{AllPass}
use Rattle.std.proofs.lemmas.Bool.Decides.{nat_tests}
use Rattle.std.proofs.lemmas.List.{length-map}
use Rattle.std.proofs.lemmas.List.Elements.{All-append, All-head, All-nil, All-tail}
use Rattle.omega_text.specs.Bytes.{is_digit, is_white, is_word_byte}
use Rattle.omega_text.specs.Forms.{IsWord}
use Rattle.omega_text.specs.Limits.{most_number}
use Rattle.omega_text.specs.pg.Laws.{EndsAreGaps, NumbersAreLongest, WordsAreLongest}
use Rattle.omega_lang_lasso_text.specs.Grammar.{lasso_symbols}
use Rattle.omega_lang_lasso_text.specs.Laws.{AreSpaced, SpacedLassosAreRead, numbers_in}
use Rattle.omega_lang_lasso_text.specs.Symbols.{LassoSymbol, cycle, number, stem, symbol}
use Rattle.omega_lang_lasso_text.specs.Tokens.{Spells}
use Rattle.omega_lang_lasso_text.specs.Written.{spaced_numbers, spaced_text}
use Rattle.omega_lang_lasso_text.specs.declared.kind.LassoKind.{LassoKind}
use Rattle.omega_lang_lasso_text.specs.declared.kind.LassoKind.TheVariants.{Cycle, Number, Stem}
use Rattle.omega_lang_lasso_text.proofs.Written.{IsWritten, cycle_is_word, one_white, stem_is_word, token_written}

-- a number, and what follows it
abbrev Item : Type 0
Item = ℕ × List ℕ

abbrev IsWhite : ℕ → Type 0
IsWhite byte = is_white byte ≡ true

-- what is written, also after white space
abbrev IsSpaced : List ℕ → List LassoSymbol → Type 0
IsSpaced text symbols = (gap : List ℕ) → AllPass is_white gap → IsWritten (gap ++ text) symbols

-- no digit is white
white_no_digit : (byte : ℕ) → is_white byte ≡ true → is_digit byte ≡ false
white_no_digit byte white = grind (arith, nat_tests)

-- white space begins with no digit, nor does what follows it
ends_number : (gap rest : List ℕ) → AllPass is_white gap → is_digit (slice_index rest 0) ≡ false → is_digit (slice_index (gap ++ rest) 0) ≡ false
ends_number [] rest white none = none
ends_number (byte ∷ gap) rest white none = white_no_digit byte (All-head IsWhite byte gap white)

-- numbers before a line feed begin with white space
begins_spaced : (items : List Item) (rest : List ℕ) → is_digit (slice_index (spaced_numbers items ++ 10 ∷ rest) 0) ≡ false
begins_spaced [] rest = refl
begins_spaced (item ∷ items) rest = refl

ends_word : (items : List Item) (rest : List ℕ) → is_word_byte (slice_index (spaced_numbers items ++ 10 ∷ rest) 0) ≡ false
ends_word [] rest = refl
ends_word (item ∷ items) rest = refl

module _ (gaps : EndsAreGaps) (numerals : NumbersAreLongest) (words : WordsAreLongest) where
  -- a line feed at the end of a text
  end_spaced : IsSpaced (10 ∷ []) []
  end_spaced gap white source from within e = record {
    lexemes = [];
    end = from;
    cuts = refl;
    spelled = refl;
    gap = gaps source from within (subst (AllPass is_white) (sym e) (All-append IsWhite gap (10 ∷ []) white (one_white 10 refl)));
  }

  -- a line feed before more
  feed_spaced : (rest : List ℕ) (symbols : List LassoSymbol) → IsSpaced rest symbols → IsSpaced (10 ∷ rest) symbols
  feed_spaced rest symbols then gap white =
      subst (λ (text : List ℕ). IsWritten text symbols) (append_assoc gap (10 ∷ []) rest)
      (then (gap ++ 10 ∷ []) (All-append IsWhite gap (10 ∷ []) white (one_white 10 refl)))

  -- numbers with white space, and then a line feed
  numbers_spaced : (items : List Item) (rest : List ℕ) (symbols : List LassoSymbol) → AreSpaced items → IsSpaced (10 ∷ rest) symbols
      → IsSpaced (spaced_numbers items ++ 10 ∷ rest) (map number (numbers_in items) ++ symbols)
  numbers_spaced [] rest symbols small then gap white = then gap white
  numbers_spaced (item ∷ items) rest symbols small then gap white =
      let following = spaced_numbers items ++ 10 ∷ rest in
      let fits = All-head (λ (i : Item). (i.0 ≤ most_number) × AllPass is_white i.1) item items small in
      let others = All-tail (λ (i : Item). (i.0 ≤ most_number) × AllPass is_white i.1) item items small in
      let more = map number (numbers_in items) ++ symbols in
      let inner : (codes " " ++ (decimal item.0 ++ item.1)) ++ (spaced_numbers items ++ 10 ∷ rest) ≡ codes " " ++ (decimal item.0 ++ (item.1 ++ following)) =
      append_assoc (codes " ") (decimal item.0 ++ item.1) following ∙ ap (λ (list : List ℕ). codes " " ++ list) (append_assoc (decimal item.0) item.1 following) in
      let outer : spaced_numbers (item ∷ items) ++ 10 ∷ rest ≡ (codes " " ++ (decimal item.0 ++ item.1)) ++ following =
      append_assoc (codes " " ++ (decimal item.0 ++ item.1)) (spaced_numbers items) (10 ∷ rest) in
      subst (λ (text : List ℕ). IsWritten text (number item.0 ∷ more))
      (append_assoc gap (32 ∷ []) (decimal item.0 ++ (item.1 ++ following)) ∙ ap (λ (list : List ℕ). gap ++ list) (sym (outer ∙ inner)))
      (token_written gaps numerals words (gap ++ 32 ∷ []) (decimal item.0) (item.1 ++ following) Number item.0 more
      (All-append IsWhite gap (32 ∷ []) white (one_white 32 refl)) (fits.0, refl)
      (numerals item.0 (item.1 ++ following) (ends_number item.1 following fits.1 (begins_spaced items rest)))
      (numbers_spaced items rest symbols others then item.1 fits.1))

  -- a word, numbers with white space and a line feed
  line_spaced : (word : List ℕ) (items : List Item) (rest : List ℕ) (kind : LassoKind) (symbols : List LassoSymbol) → IsWord word → Spells kind 0 word
      → AreSpaced items → IsSpaced (10 ∷ rest) symbols
      → IsSpaced (word ++ (spaced_numbers items ++ 10 ∷ rest)) (symbol kind 0 ∷ (map number (numbers_in items) ++ symbols))
  line_spaced word items rest kind symbols is_word spells small then gap white =
      token_written gaps numerals words gap word (spaced_numbers items ++ 10 ∷ rest) kind 0 (map number (numbers_in items) ++ symbols) white spells
      (words word (spaced_numbers items ++ 10 ∷ rest) is_word (ends_word items rest))
      (numbers_spaced items rest symbols small then [] (All-nil IsWhite))

  -- both lines
  lasso_spaced : (before around : List Item) → AreSpaced before → AreSpaced around
      → IsSpaced (codes "stem" ++ (spaced_numbers before ++ (codes "\ncycle" ++ (spaced_numbers around ++ codes "\n"))))
      (lasso_symbols (numbers_in before) (numbers_in around))
  lasso_spaced before around small few gap white =
      let last = line_spaced (codes "cycle") around [] Cycle [] cycle_is_word (refl, refl) few end_spaced in
      let whole = line_spaced (codes "stem") before (codes "cycle" ++ (spaced_numbers around ++ 10 ∷ [])) Stem
      (cycle ∷ (map number (numbers_in around) ++ [])) stem_is_word (refl, refl) small
      (feed_spaced (codes "cycle" ++ (spaced_numbers around ++ 10 ∷ [])) (cycle ∷ (map number (numbers_in around) ++ [])) last) gap white in
      subst (λ (list : List LassoSymbol). IsWritten (gap ++ (codes "stem" ++ (spaced_numbers before ++ (codes "\ncycle" ++ (spaced_numbers around ++ codes "\n")))))
      (stem ∷ (map number (numbers_in before) ++ cycle ∷ list))) (append-nil (map number (numbers_in around))) whole

pub spaced_read : EndsAreGaps → NumbersAreLongest → WordsAreLongest → SpacedLassosAreRead
spaced_read gaps numerals words front before around white small few longer short =
    let cut = lasso_spaced gaps numerals words before around small few front white (spaced_text front before around) 0 (omega arith) refl in
    record {
      short = short;
      writes = record {
        lexemes = cut.lexemes;
        cut = record { end = cut.end; cuts = cut.cuts; rest = cut.gap };
        text = record { spelled = cut.spelled; longer = omega (arith, longer, length-map around (λ (item : Item). item.0)) };
      };
    }
