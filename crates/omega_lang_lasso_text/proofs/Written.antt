-- The written form of a lasso says that lasso.
use Rattle.std.proofs.Common.{◌≡◌, ℕ, ◌+◌, ◌-◌, ◌<◌, ◌≤◌, true, false, List, [], ◌∷◌, ◌++◌, length, get_or, take, drop, refl, ap, sym, ◌∙◌, subst, append_assoc, append-nil, arith, All, codes, map, length-append, length-drop}
use Rattle.std.specs.Prelude.{decimal, slice_index}
use Rattle.std.specs.List.{AllPass}
use Rattle.std.proofs.Math.Seq.{drop-append_seam}
use Rattle.std.proofs.lemmas.List.{drop-drop, drop_at, get_or-drop, get_or_append_left, take_at}
use Rattle.std.proofs.lemmas.List.Elements.{All-cons, All-from_recursion, All-head, All-nil, All-tail}
use Rattle.omega_text.specs.Bytes.{is_digit, is_white, is_word_byte}
use Rattle.omega_text.specs.Cut.{Cuts}
use Rattle.omega_text.specs.Forms.{IsWord}
use Rattle.omega_text.specs.Lexeme.{Lexeme, lexeme_at}
use Rattle.omega_text.specs.Limits.{most_number}
use Rattle.omega_text.specs.pg.Cut.{IsGap}
use Rattle.omega_text.specs.pg.Forms.{IsLongest}
use Rattle.omega_text.specs.pg.Laws.{EndsAreGaps, NumbersAreLongest, WordsAreLongest}
use Rattle.omega_lang_lasso_text.specs.Cut.{BeginsWith, Follows}
use Rattle.omega_lang_lasso_text.specs.Format.{lasso_format}
use Rattle.omega_lang_lasso_text.specs.Grammar.{lasso_symbols}
use Rattle.omega_lang_lasso_text.specs.Laws.{WrittenLassosAreRead}
use Rattle.omega_lang_lasso_text.specs.Symbols.{LassoSymbol, cycle, number, stem, symbol}
use Rattle.omega_lang_lasso_text.specs.Tokens.{Spells}
use Rattle.omega_lang_lasso_text.specs.Written.{lasso_text, numbers_text}
use Rattle.omega_lang_lasso_text.specs.declared.kind.LassoKind.{LassoKind}
use Rattle.omega_lang_lasso_text.specs.declared.kind.LassoKind.TheVariants.{Cycle, Number, Stem}
use Rattle.omega_lang_lasso_text.proofs.Deciding.{symbols_of}
use Rattle.omega_lang_lasso_text.proofs.Tokens.{begins_at}

-- white space, and then the longest form, which spells a token
module _ (source gap text rest : List ℕ) (from : ℕ) (kind : LassoKind) (value : ℕ) (is : drop from source ≡ gap ++ (text ++ rest)) (inside : from ≤ length source) where
  -- how long the parts are
  sizes : length source ≡ from + length gap + length text + length rest
  sizes =
      let all = ap length is in
      omega (arith, length-drop from source, length-append gap (text ++ rest), length-append text rest)

  -- what comes after the white space
  after_gap : drop (from + length gap) source ≡ text ++ rest
  after_gap = sym (drop-drop (length gap) from source) ∙ ap (drop (length gap)) is ∙ drop_at gap (text ++ rest) (length gap) refl

  -- the white space
  written_gap : AllPass is_white gap → IsGap source from (from + length gap)
  written_gap white = record {
    forward = omega arith;
    within = omega (arith, sizes);
    white = λ k d low high.
        let place : from + (k - from) ≡ k = omega arith in
        let below : k - from < length gap = omega arith in
        ap (λ n. is_white (get_or source n d)) (sym place)
        ∙ ap is_white (sym (get_or-drop from source (k - from) d) ∙ ap (λ bytes. get_or bytes (k - from) d) is ∙ get_or_append_left gap (text ++ rest) d (k - from) below)
        ∙ white (k - from) d below;
  }

  -- the token
  written_follows : AllPass is_white gap → Spells kind value text → IsLongest (text ++ rest) (length text) → Follows source from (lexeme_at (from + length gap) kind value text)
  written_follows white spells longest =
      let front : take (length text) (text ++ rest) ≡ text = take_at text rest (length text) refl in
      let begins : BeginsWith (text ++ rest) (lexeme_at (from + length gap) kind value text) =
      subst (λ t. BeginsWith (text ++ rest) (lexeme_at (from + length gap) kind value t)) front
      (begins_at (text ++ rest) (from + length gap) (length text) kind value longest (subst (Spells kind value) (sym front) spells)) in
      record {
        gap = written_gap white;
        token = subst (λ bytes. BeginsWith bytes (lexeme_at (from + length gap) kind value text)) (sym after_gap) begins;
        within = omega (arith, sizes);
      }

-- from a place on, the text is cut into tokens with these symbols, and white space to its end
pub record IsCutFrom (source : List ℕ) (from : ℕ) (symbols : List LassoSymbol) : Type 0 where
  pub lexemes : List (Lexeme LassoKind)
  pub end : ℕ
  pub cuts : Cuts lasso_format source from lexemes end
  pub spelled : symbols_of lexemes ≡ symbols
  pub gap : IsGap source end (length source)

-- at the end of every text these bytes are cut so
abbrev pub IsWritten : List ℕ → List LassoSymbol → Type 0
IsWritten text symbols = (source : List ℕ) (from : ℕ) → from ≤ length source → drop from source ≡ text → IsCutFrom source from symbols

-- the two words
pub stem_is_word : IsWord (codes "stem")
stem_is_word = (omega arith, refl, All-from_recursion (λ b. is_word_byte b ≡ true) (codes "stem") (refl, (refl, (refl, (refl, tt)))))

pub cycle_is_word : IsWord (codes "cycle")
cycle_is_word = (omega arith, refl, All-from_recursion (λ b. is_word_byte b ≡ true) (codes "cycle") (refl, (refl, (refl, (refl, (refl, tt))))))

-- one white byte
pub one_white : (byte : ℕ) → is_white byte ≡ true → AllPass is_white (byte ∷ [])
one_white byte white = All-cons (λ b. is_white b ≡ true) byte [] white (All-nil (λ b. is_white b ≡ true))

-- numbers before a line feed begin with white space
ends_word : (numbers rest : List ℕ) → is_word_byte (slice_index (numbers_text numbers ++ 10 ∷ rest) 0) ≡ false
ends_word [] rest = refl
ends_word (n ∷ numbers) rest = refl

ends_number : (numbers rest : List ℕ) → is_digit (slice_index (numbers_text numbers ++ 10 ∷ rest) 0) ≡ false
ends_number [] rest = refl
ends_number (n ∷ numbers) rest = refl

module _ (gaps : EndsAreGaps) (numerals : NumbersAreLongest) (words : WordsAreLongest) where
  -- a line feed at the end of a text
  end_written : IsWritten (10 ∷ []) []
  end_written source from within e = record {
    lexemes = [];
    end = from;
    cuts = refl;
    spelled = refl;
    gap = gaps source from within (subst (AllPass is_white) (sym e) (one_white 10 refl));
  }

  -- a token and what is written after it
  pub token_written : (gap text rest : List ℕ) (kind : LassoKind) (value : ℕ) (symbols : List LassoSymbol)
      → AllPass is_white gap → Spells kind value text → IsLongest (text ++ rest) (length text)
      → IsWritten rest symbols → IsWritten (gap ++ (text ++ rest)) (symbol kind value ∷ symbols)
  token_written gap text rest kind value symbols white spells longest then source from within e =
      let follows = written_follows source gap text rest from kind value e within white spells longest in
      let place = from + length gap + length text in
      let following : drop place source ≡ rest =
      ap (λ n. drop n source) (let sum : place ≡ from + (length gap + length text) = omega arith in sum)
      ∙ sym (drop-drop (length gap + length text) from source)
      ∙ ap (drop (length gap + length text)) e
      ∙ sym (drop-drop (length text) (length gap) (gap ++ (text ++ rest)))
      ∙ ap (drop (length text)) (drop-append_seam gap (text ++ rest))
      ∙ drop-append_seam text rest in
      let next = then source place follows.within following in
      record {
        lexemes = lexeme_at (from + length gap) kind value text ∷ next.lexemes;
        end = next.end;
        cuts = (follows, next.cuts);
        spelled = ap (λ list. symbol kind value ∷ list) next.spelled;
        gap = next.gap;
      }

  -- numbers, a space before each, and then a line feed
  numbers_written : (numbers rest : List ℕ) (symbols : List LassoSymbol) → All (λ n. n ≤ most_number) numbers → IsWritten (10 ∷ rest) symbols
      → IsWritten (numbers_text numbers ++ 10 ∷ rest) (map number numbers ++ symbols)
  numbers_written [] rest symbols small then = then
  numbers_written (n ∷ numbers) rest symbols small then =
      let following = numbers_text numbers ++ 10 ∷ rest in
      let fits = All-head (λ n. n ≤ most_number) n numbers small in
      subst (λ text. IsWritten text (number n ∷ (map number numbers ++ symbols)))
      (sym (append_assoc (32 ∷ decimal n) (numbers_text numbers) (10 ∷ rest)))
      (token_written (32 ∷ []) (decimal n) following Number n (map number numbers ++ symbols) (one_white 32 refl) (fits, refl)
      (numerals n following (ends_number numbers rest))
      (numbers_written numbers rest symbols (All-tail (λ n. n ≤ most_number) n numbers small) then))

  -- a word, numbers and a line feed
  line_written : (gap word numbers rest : List ℕ) (kind : LassoKind) (symbols : List LassoSymbol) → AllPass is_white gap → IsWord word → Spells kind 0 word
      → All (λ n. n ≤ most_number) numbers → IsWritten (10 ∷ rest) symbols
      → IsWritten (gap ++ (word ++ (numbers_text numbers ++ 10 ∷ rest))) (symbol kind 0 ∷ (map number numbers ++ symbols))
  line_written gap word numbers rest kind symbols white is_word spells small then =
      token_written gap word (numbers_text numbers ++ 10 ∷ rest) kind 0 (map number numbers ++ symbols) white spells
      (words word (numbers_text numbers ++ 10 ∷ rest) is_word (ends_word numbers rest))
      (numbers_written numbers rest symbols small then)

  -- both lines
  lasso_written : (before around : List ℕ) → All (λ n. n ≤ most_number) before → All (λ n. n ≤ most_number) around
      → IsWritten (lasso_text before around) (lasso_symbols before (around ++ []))
  lasso_written before around small few =
      let last = line_written (10 ∷ []) (codes "cycle") around [] Cycle [] (one_white 10 refl) cycle_is_word (refl, refl) few end_written in
      let numbers : map number around ++ [] ≡ map number (around ++ []) = append-nil (map number around) ∙ ap (map number) (sym (append-nil around)) in
      subst (λ list. IsWritten (lasso_text before around) (stem ∷ (map number before ++ cycle ∷ list))) numbers
      (line_written [] (codes "stem") before (codes "cycle" ++ (numbers_text around ++ 10 ∷ [])) Stem (cycle ∷ (map number around ++ [])) (All-nil (λ b. is_white b ≡ true)) stem_is_word (refl, refl) small last)

pub lassos_written : EndsAreGaps → NumbersAreLongest → WordsAreLongest → WrittenLassosAreRead
lassos_written gaps numerals words lasso longer small few short =
    let cut = lasso_written gaps numerals words lasso.stem lasso.cycle small few (lasso_text lasso.stem lasso.cycle) 0 (omega arith) refl in
    record {
      short = short;
      writes = record {
        lexemes = cut.lexemes;
        cut = record { end = cut.end; cuts = cut.cuts; rest = cut.gap };
        text = record { spelled = cut.spelled ∙ ap (lasso_symbols lasso.stem) (append-nil lasso.cycle); longer = longer };
      };
    }
