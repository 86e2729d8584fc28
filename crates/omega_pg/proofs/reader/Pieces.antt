-- Pieces of a written text: white space and a token, and then a rest that is cut.
use Rattle.std.proofs.Common.{◌≡◌, ℕ, ◌+◌, ◌<◌, ◌≤◌, true, false, List, [], ◌∷◌, ◌++◌, length, drop, refl, ap, sym, ◌∙◌, subst, arith, All, inl, inr, codes}
use Rattle.std.specs.Int.{is_in_range}
use Rattle.std.specs.Prelude.{decimal, nat_le, not, slice_index, ◌==◌}
use Rattle.std.specs.List.{AllPass}
use Rattle.std.proofs.lemmas.Fmt.{decimal_nonempty}
use Rattle.std.proofs.lemmas.List.{drop-drop}
use Rattle.std.proofs.Math.Seq.{drop-append_seam}
use Rattle.std.proofs.lemmas.Bool.{and_from, le-leb, ne_eqb, not_from_false}
use Rattle.std.proofs.lemmas.List.Elements.{All-cons, All-from_recursion, All-nil, All-weaker}
use Rattle.omega_text.specs.Bytes.{is_digit, is_white, is_word_byte}
use Rattle.omega_text.specs.Cut.{Cuts}
use Rattle.omega_text.specs.pg.Cut.{IsGap}
use Rattle.omega_text.specs.Forms.{IsWord}
use Rattle.omega_text.specs.pg.Forms.{IsLongest, IsQuoted, Spells, is_name_byte, quoted}
use Rattle.omega_text.specs.pg.Laws.{EndsAreGaps, NamesAreLongest, NumbersAreLongest, SignsAreLongest, TokensFollow, WordsAreLongest}
use Rattle.omega_text.specs.Lexeme.{Lexeme, lexeme_at}
use Rattle.omega_text.specs.pg.Format.{pg_format}
use Rattle.omega_text.specs.Limits.{most_number}
use Rattle.omega_text.specs.declared.pg.kind.PgKind.{PgKind}
use Rattle.omega_text.specs.declared.pg.kind.PgKind.TheVariants.{Comma, Name, Number, Parity, ParitySol, Semicolon}
use Rattle.omega_game_values.specs.Game.{IsNameByte}
use Rattle.omega_pg.specs.Symbols.{PgSymbol, comma, name, number, parity, paritysol, semicolon, symbol}
use Rattle.omega_pg.specs.private.reader.Symbols.{symbols_of}
use Rattle.omega_pg.proofs.games.WellFormed.{between-quoted}

-- from a place on, the text is cut into tokens with these symbols, and white space to its end
pub record IsCutFrom (source : List ℕ) (from : ℕ) (symbols : List PgSymbol) : Type 0 where
  pub lexemes : List (Lexeme PgKind)
  pub end : ℕ
  pub cuts : Cuts pg_format source from lexemes end
  pub spelled : symbols_of lexemes ≡ symbols
  pub gap : IsGap source end (length source)

-- wherever these bytes end a text, they are cut so
abbrev pub IsWritten : List ℕ → List PgSymbol → Type 0
IsWritten text symbols = (source : List ℕ) (from : ℕ) → from ≤ length source → drop from source ≡ text → IsCutFrom source from symbols

-- the rest begins with no digit
abbrev pub EndsNumber : List ℕ → Type 0
EndsNumber rest = is_digit (slice_index rest 0) ≡ false

-- a byte that may be in a name passes the test
name_byte_passes : (b : ℕ) → IsNameByte b → is_name_byte b ≡ true
name_byte_passes b h =
    and_from (is_in_range 32 126 b) (not (b == 34))
    (and_from (nat_le 32 b) (nat_le b 126) (le-leb 32 b h.0) (le-leb b 126 h.1))
    (not_from_false (b == 34) (ne_eqb b 34 h.2))

-- the two words
parity_is_word : IsWord (codes "parity")
parity_is_word = (
  omega arith,
  refl,
  All-from_recursion (λ b. is_word_byte b ≡ true) (codes "parity") (refl, (refl, (refl, (refl, (refl, (refl, tt)))))),
)

paritysol_is_word : IsWord (codes "paritysol")
paritysol_is_word = (
  omega arith,
  refl,
  All-from_recursion (λ b. is_word_byte b ≡ true) (codes "paritysol") (refl, (refl, (refl, (refl, (refl, (refl, (refl, (refl, (refl, tt))))))))),
)

module _ (tokens : TokensFollow) (gaps : EndsAreGaps) (numbers : NumbersAreLongest) (words : WordsAreLongest) (signs : SignsAreLongest) (names : NamesAreLongest) where
  -- a line feed at the end of a text
  pub end_written : IsWritten (10 ∷ []) []
  end_written source from within e = record {
    lexemes = [];
    end = from;
    cuts = refl;
    spelled = refl;
    gap = gaps source from within (subst (AllPass is_white) (sym e) (All-cons (λ b. is_white b ≡ true) 10 [] refl (All-nil (λ b. is_white b ≡ true))));
  }

  -- a token and what is written after it
  pub token_written : (gap text rest : List ℕ) (kind : PgKind) (value : ℕ) (symbols : List PgSymbol)
      → AllPass is_white gap → 0 < length text → Spells kind value text → IsLongest (text ++ rest) (length text)
      → IsWritten rest symbols → IsWritten (gap ++ (text ++ rest)) (symbol kind value text ∷ symbols)
  token_written gap text rest kind value symbols white some spells longest then source from within e =
      let follows = tokens source gap text rest from kind value e within white some spells longest in
      let place = from + length gap + length text in
      let following : drop place source ≡ rest =
      ap (λ n. drop n source) (let sum : place ≡ from + (length gap + length text) = omega arith in sum)
      ∙ sym (drop-drop (length gap + length text) from source)
      ∙ ap (drop (length gap + length text)) e
      ∙ sym (drop-drop (length text) (length gap) (gap ++ (text ++ rest)))
      ∙ ap (drop (length text)) (drop-append_seam gap (text ++ rest))
      ∙ drop-append_seam text rest in
      let next = then source place follows.within following in
      record {
        lexemes = lexeme_at (from + length gap) kind value text ∷ next.lexemes;
        end = next.end;
        cuts = (follows, next.cuts);
        spelled = ap (λ list. symbol kind value text ∷ list) next.spelled;
        gap = next.gap;
      }

  -- a number before what ends it
  pub number_written : (gap rest : List ℕ) (n : ℕ) (symbols : List PgSymbol) → AllPass is_white gap → n ≤ most_number → EndsNumber rest
      → IsWritten rest symbols → IsWritten (gap ++ (decimal n ++ rest)) (number n ∷ symbols)
  number_written gap rest n symbols white fits ends then =
      token_written gap (decimal n) rest Number n symbols white (decimal_nonempty n (omega arith)) (fits, refl) (numbers n rest ends) then

  -- a semicolon
  pub semicolon_written : (rest : List ℕ) (symbols : List PgSymbol) → IsWritten rest symbols → IsWritten (59 ∷ rest) (semicolon ∷ symbols)
  semicolon_written rest symbols then =
      token_written [] (codes ";") rest Semicolon 0 symbols (All-nil (λ b. is_white b ≡ true)) (omega arith) (refl, refl) (signs (codes ";") rest (inl refl)) then

  -- a comma
  pub comma_written : (rest : List ℕ) (symbols : List PgSymbol) → IsWritten rest symbols → IsWritten (44 ∷ rest) (comma ∷ symbols)
  comma_written rest symbols then =
      token_written [] (codes ",") rest Comma 0 symbols (All-nil (λ b. is_white b ≡ true)) (omega arith) (refl, refl) (signs (codes ",") rest (inr refl)) then

  -- a name after a space
  pub name_written : (bytes rest : List ℕ) (symbols : List PgSymbol) → All IsNameByte bytes → IsWritten rest symbols
      → IsWritten (32 ∷ (quoted bytes ++ rest)) (name bytes ∷ symbols)
  name_written bytes rest symbols allowed then =
      let form : IsQuoted (quoted bytes) = (bytes, refl, All-weaker IsNameByte (λ b. is_name_byte b ≡ true) name_byte_passes bytes allowed) in
      subst (λ text. IsWritten (32 ∷ (quoted bytes ++ rest)) (name text ∷ symbols)) (between-quoted bytes)
      (token_written (32 ∷ []) (quoted bytes) rest Name 0 symbols (All-cons (λ b. is_white b ≡ true) 32 [] refl (All-nil (λ b. is_white b ≡ true)))
      (omega arith) (refl, form) (names (quoted bytes) rest form) then)

  -- the word `parity` before a space
  pub parity_written : (rest : List ℕ) (symbols : List PgSymbol) → IsWritten (32 ∷ rest) symbols → IsWritten (codes "parity" ++ (32 ∷ rest)) (parity ∷ symbols)
  parity_written rest symbols then =
      token_written [] (codes "parity") (32 ∷ rest) Parity 0 symbols (All-nil (λ b. is_white b ≡ true)) (omega arith) (refl, refl)
      (words (codes "parity") (32 ∷ rest) parity_is_word refl) then

  -- the word `paritysol` before a space
  pub paritysol_written : (rest : List ℕ) (symbols : List PgSymbol) → IsWritten (32 ∷ rest) symbols → IsWritten (codes "paritysol" ++ (32 ∷ rest)) (paritysol ∷ symbols)
  paritysol_written rest symbols then =
      token_written [] (codes "paritysol") (32 ∷ rest) ParitySol 0 symbols (All-nil (λ b. is_white b ≡ true)) (omega arith) (refl, refl)
      (words (codes "paritysol") (32 ∷ rest) paritysol_is_word refl) then
