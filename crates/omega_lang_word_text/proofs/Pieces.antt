-- Texts of words, piece by piece: tokens and white bytes, one before another.
use Rattle.std.proofs.Common.{◌≡◌, ◌≢◌, ℕ, ◌+◌, ◌≤◌, ◌==◌, Bool, true, false, not, ◌&&◌, ◌||◌, IsTrue, List, [], ◌∷◌, ◌++◌, codes, decimal, drop, length, length-append, length-drop, map, slice_index, ap, inl, refl, sym, ◌∙◌, subst, arith, lit<}
use Rattle.std.specs.List.{list_all}
use Rattle.std.specs.Int.{is_in_range}
use Rattle.std.specs.Fmt.{digits}
use Rattle.std.proofs.lemmas.Bool.{and_parts, false≢true}
use Rattle.std.proofs.lemmas.List.{drop-drop}
use Rattle.std.proofs.lemmas.List.Sums.{AllPass-from_list_all}
use Rattle.std.proofs.Math.Seq.{drop-append_seam}
use Rattle.omega_hoa_edges.specs.Names.{goes_on, is_identifier}
use Rattle.omega_lang_lasso_word.specs.Names.{is_reserved, stands_bare}
use Rattle.omega_text.specs.Bytes.{is_digit, is_letter, is_white, is_word_byte}
use Rattle.omega_text.specs.Cut.{Cuts}
use Rattle.omega_text.specs.Forms.{IsWord}
use Rattle.omega_text.specs.Lexeme.{Lexeme, lexeme_at}
use Rattle.omega_text.specs.declared.hoa.kind.HoaKind.{HoaKind}
use Rattle.omega_text.specs.declared.hoa.kind.HoaKind.TheVariants as kind
use Rattle.omega_text.specs.hoa.Cut.{Ends, Follows as HoaFollows, IsGap, IsLongest}
use Rattle.omega_text.specs.hoa.Cut as gap
use Rattle.omega_text.specs.hoa.Forms.{IsForm, IsQuotable, Spells}
use Rattle.omega_text.specs.hoa.Laws.{ClosedAreLongest, NumbersAreLongest, WordsAreLongest}
use Rattle.omega_lang_word_text.specs.Cut.{Follows, semicolon, semicolon_at, token, word_format}

-- a token without its place
pub record Piece : Type 0 where
  pub sort : HoaKind
  pub number : ℕ
  pub bytes : List ℕ

abbrev pub piece_of : Lexeme HoaKind → Piece
piece_of lexeme = record { sort = lexeme.kind; number = lexeme.value; bytes = lexeme.text }

-- from a place on a text is tokens with these pieces, and nothing more
pub record Stands (source : List ℕ) (from : ℕ) (pieces : List Piece) : Type 0 where
  pub tokens : List (Lexeme HoaKind)
  pub end : ℕ
  pub cuts : Cuts word_format source from tokens end
  pub rest : Ends source end
  pub are : map piece_of tokens ≡ pieces

-- wherever these bytes are the end of a text, they are such tokens
pub record IsSpelled (bytes : List ℕ) (pieces : List Piece) : Type 0 where
  pub there : (source : List ℕ) (from : ℕ) → from ≤ length source → drop from source ≡ bytes → Stands source from pieces

-- no bytes are no tokens
pub nothing_spelled : IsSpelled [] []
nothing_spelled = record {
  there = λ source from within is. record {
    tokens = [];
    end = from;
    cuts = refl;
    rest = record { passed = subst IsGap (sym is) gap.nothing; within = within };
    are = refl;
  };
}

-- what follows the first of two parts
drop_first : (source first rest : List ℕ) (from : ℕ) → drop from source ≡ first ++ rest → drop (from + length first) source ≡ rest
drop_first source first rest from is =
    sym (drop-drop (length first) from source) ∙ (ap (drop (length first)) is ∙ drop-append_seam first rest)

-- the first of two parts ends within the text
first_within : (source first rest : List ℕ) (from : ℕ) → from ≤ length source → drop from source ≡ first ++ rest → from + length first ≤ length source
first_within source first rest from within is =
    let lengths : length (drop from source) ≡ length (first ++ rest) = ap length is in
    omega (arith, lengths, length-drop from source, length-append first rest)

-- ---- white bytes

-- a token follows a white byte too
follows_white : (source bytes : List ℕ) (from byte : ℕ) (lexeme : Lexeme HoaKind) → is_white byte ≡ true → drop from source ≡ byte ∷ bytes
    → Follows source (from + 1) lexeme → Follows source from lexeme
follows_white source bytes from byte lexeme white is (token follows) =
    let following : drop (from + 1) source ≡ bytes = drop_first source (byte ∷ []) bytes from is in
    token (record {
      gap = byte ∷ follows.gap;
      rest = follows.rest;
      split = is ∙ ap (λ (more : List ℕ). byte ∷ more) (sym following ∙ follows.split);
      passed = gap.blank (byte ∷ []) follows.gap (inl (byte, refl, white)) follows.passed;
      spells = follows.spells;
      longest = follows.longest;
      start = omega (arith, follows.start);
      end = follows.end;
    })
follows_white source bytes from byte lexeme white is (semicolon place has same) =
    let following : drop (from + 1) source ≡ bytes = drop_first source (byte ∷ []) bytes from is in
    semicolon place (record {
      gap = byte ∷ has.gap;
      rest = has.rest;
      split = is ∙ ap (λ (more : List ℕ). byte ∷ more) (sym following ∙ has.split);
      passed = gap.blank (byte ∷ []) has.gap (inl (byte, refl, white)) has.passed;
      there = omega (arith, has.there);
    }) same

stands_white : (source bytes : List ℕ) (from byte end : ℕ) (tokens : List (Lexeme HoaKind)) (pieces : List Piece) → is_white byte ≡ true → from ≤ length source
    → drop from source ≡ byte ∷ bytes → Cuts word_format source (from + 1) tokens end → Ends source end → map piece_of tokens ≡ pieces → Stands source from pieces
stands_white source bytes from byte end [] pieces white within is cuts rest are =
    let passed : IsGap (drop (from + 1) source) = subst (λ (place : ℕ). IsGap (drop place source)) (sym cuts) rest.passed in
    let following : drop (from + 1) source ≡ bytes = drop_first source (byte ∷ []) bytes from is in
    record {
      tokens = [];
      end = from;
      cuts = refl;
      rest = record {
        passed = subst IsGap (sym is) (gap.blank (byte ∷ []) bytes (inl (byte, refl, white)) (subst IsGap following passed));
        within = within;
      };
      are = are;
    }
stands_white source bytes from byte end (lexeme ∷ tokens) pieces white within is cuts rest are = record {
  tokens = lexeme ∷ tokens;
  end = end;
  cuts = (follows_white source bytes from byte lexeme white is cuts.0, cuts.1);
  rest = rest;
  are = are;
}

-- a space before bytes changes nothing
pub space_spelled : (bytes : List ℕ) (pieces : List Piece) → IsSpelled bytes pieces → IsSpelled (32 ∷ bytes) pieces
space_spelled bytes pieces spelled = record {
  there = λ source from within is.
      let next = spelled.there source (from + 1) (first_within source (32 ∷ []) bytes from within is) (drop_first source (32 ∷ []) bytes from is) in
      stands_white source bytes from 32 next.end next.tokens pieces refl within is next.cuts next.rest next.are;
}

-- ---- tokens

-- a token of the Hanoi format before bytes
token_spelled : (sort : HoaKind) (number : ℕ) (bytes following : List ℕ) (others : List Piece) → Spells sort number bytes → IsLongest bytes following
    → IsSpelled following others → IsSpelled (bytes ++ following) (record { sort = sort; number = number; bytes = bytes } ∷ others)
token_spelled sort number bytes following others spells longest spelled = record {
  there = λ source from within is.
      let next = spelled.there source (from + length bytes) (first_within source bytes following from within is) (drop_first source bytes following from is) in
      record {
        tokens = lexeme_at from sort number bytes ∷ next.tokens;
        end = next.end;
        cuts = (
          token (record { gap = []; rest = following; split = is; passed = gap.nothing; spells = spells; longest = longest; start = omega arith; end = refl }),
          next.cuts,
        );
        rest = next.rest;
        are = ap (λ (pieces : List Piece). record { sort = sort; number = number; bytes = bytes } ∷ pieces) next.are;
      };
}

-- a semicolon
abbrev pub semicolon_piece : Piece
semicolon_piece = record { sort = kind.Identifier; number = 0; bytes = codes ";" }

pub semicolon_spelled : (following : List ℕ) (others : List Piece) → IsSpelled following others → IsSpelled (59 ∷ following) (semicolon_piece ∷ others)
semicolon_spelled following others spelled = record {
  there = λ source from within is.
      let next = spelled.there source (from + 1) (first_within source (59 ∷ []) following from within is) (drop_first source (59 ∷ []) following from is) in
      record {
        tokens = semicolon_at from ∷ next.tokens;
        end = next.end;
        cuts = (
          semicolon from (record { gap = []; rest = following; split = is; passed = gap.nothing; there = omega arith }) refl,
          next.cuts,
        );
        rest = next.rest;
        are = ap (λ (pieces : List Piece). semicolon_piece ∷ pieces) next.are;
      };
}

-- what is known of the tokens of every text
pub record Known : Type 0 where
  pub numbers : NumbersAreLongest
  pub words : WordsAreLongest
  pub closed : ClosedAreLongest

-- what may stand after a name or a number: nothing that goes on in one
pub record StandsApart (bytes : List ℕ) : Type 0 where
  pub ends : is_word_byte (slice_index bytes 0) ≡ false
  pub is_no_digit : is_digit (slice_index bytes 0) ≡ false
  pub closes : slice_index bytes 0 ≢ 58

zero_written : codes "0" ≡ decimal 0
unfolding digits
zero_written = refl

one_written : codes "1" ≡ decimal 1
unfolding digits
one_written = refl

module _ (known : Known) where
  -- `0` and `1`
  pub zero_spelled : (following : List ℕ) (others : List Piece) → StandsApart following → IsSpelled following others
      → IsSpelled (codes "0" ++ following) (record { sort = kind.Int; number = 0; bytes = codes "0" } ∷ others)
  zero_spelled following others apart spelled =
      token_spelled kind.Int 0 (codes "0") following others (omega arith, zero_written) (known.numbers (codes "0") following (lit< tt, AllPass-from_list_all is_digit (codes "0") refl) apart.is_no_digit) spelled

  pub one_spelled : (following : List ℕ) (others : List Piece) → StandsApart following → IsSpelled following others
      → IsSpelled (codes "1" ++ following) (record { sort = kind.Int; number = 1; bytes = codes "1" } ∷ others)
  one_spelled following others apart spelled =
      token_spelled kind.Int 1 (codes "1") following others (omega arith, one_written) (known.numbers (codes "1") following (lit< tt, AllPass-from_list_all is_digit (codes "1") refl) apart.is_no_digit) spelled

  -- an identifier
  pub word_spelled : (bytes following : List ℕ) (others : List Piece) → IsForm kind.Identifier bytes → StandsApart following → IsSpelled following others
      → IsSpelled (bytes ++ following) (record { sort = kind.Identifier; number = 0; bytes = bytes } ∷ others)
  word_spelled bytes following others form apart spelled =
      token_spelled kind.Identifier 0 bytes following others (refl, form) (known.words bytes following form.0 apart.ends apart.closes) spelled

  -- a string
  pub string_spelled : (bytes following : List ℕ) (others : List Piece) → IsQuotable bytes → IsSpelled following others
      → IsSpelled ((34 ∷ (bytes ++ 34 ∷ [])) ++ following) (record { sort = kind.String; number = 0; bytes = 34 ∷ (bytes ++ 34 ∷ []) } ∷ others)
  string_spelled bytes following others is spelled =
      let form : IsForm kind.String (34 ∷ (bytes ++ 34 ∷ [])) = (bytes, refl, is) in
      token_spelled kind.String 0 (34 ∷ (bytes ++ 34 ∷ [])) following others (refl, form) (known.closed kind.String (34 ∷ (bytes ++ 34 ∷ [])) following refl form) spelled

  -- signs
  pub not_spelled : (following : List ℕ) (others : List Piece) → IsSpelled following others → IsSpelled (33 ∷ following) (record { sort = kind.Not; number = 0; bytes = codes "!" } ∷ others)
  not_spelled following others spelled = token_spelled kind.Not 0 (codes "!") following others (refl, refl) (known.closed kind.Not (codes "!") following refl refl) spelled

  pub and_spelled : (following : List ℕ) (others : List Piece) → IsSpelled following others → IsSpelled (38 ∷ following) (record { sort = kind.And; number = 0; bytes = codes "&" } ∷ others)
  and_spelled following others spelled = token_spelled kind.And 0 (codes "&") following others (refl, refl) (known.closed kind.And (codes "&") following refl refl) spelled

  pub or_spelled : (following : List ℕ) (others : List Piece) → IsSpelled following others → IsSpelled (124 ∷ following) (record { sort = kind.Or; number = 0; bytes = codes "|" } ∷ others)
  or_spelled following others spelled = token_spelled kind.Or 0 (codes "|") following others (refl, refl) (known.closed kind.Or (codes "|") following refl refl) spelled

  pub open_spelled : (following : List ℕ) (others : List Piece) → IsSpelled following others
      → IsSpelled (40 ∷ following) (record { sort = kind.OpenParenthesis; number = 0; bytes = codes "(" } ∷ others)
  open_spelled following others spelled =
      token_spelled kind.OpenParenthesis 0 (codes "(") following others (refl, refl) (known.closed kind.OpenParenthesis (codes "(") following refl refl) spelled

  pub close_spelled : (following : List ℕ) (others : List Piece) → IsSpelled following others
      → IsSpelled (41 ∷ following) (record { sort = kind.CloseParenthesis; number = 0; bytes = codes ")" } ∷ others)
  close_spelled following others spelled =
      token_spelled kind.CloseParenthesis 0 (codes ")") following others (refl, refl) (known.closed kind.CloseParenthesis (codes ")") following refl refl) spelled

  pub brace_spelled : (following : List ℕ) (others : List Piece) → IsSpelled following others
      → IsSpelled (123 ∷ following) (record { sort = kind.OpenBrace; number = 0; bytes = codes "{" } ∷ others)
  brace_spelled following others spelled =
      token_spelled kind.OpenBrace 0 (codes "{") following others (refl, refl) (known.closed kind.OpenBrace (codes "{") following refl refl) spelled

  pub end_spelled : (following : List ℕ) (others : List Piece) → IsSpelled following others
      → IsSpelled (125 ∷ following) (record { sort = kind.CloseBrace; number = 0; bytes = codes "}" } ∷ others)
  end_spelled following others spelled =
      token_spelled kind.CloseBrace 0 (codes "}") following others (refl, refl) (known.closed kind.CloseBrace (codes "}") following refl refl) spelled

-- ---- names that stand bare

-- letters, underscores and digits go on in a word
in_word : (upper lower line digit hyphen : Bool) → (((upper || lower) || line) || digit) ≡ true → ((((digit || upper) || lower) || line) || hyphen) ≡ true
in_word upper lower line true hyphen is = refl
in_word true lower line false hyphen is = refl
in_word false true line false hyphen is = refl
in_word false false true false hyphen is = refl
in_word false false false false hyphen is = absurd (false≢true is)

goes_on_in_word : (byte : ℕ) → goes_on byte ≡ true → is_word_byte byte ≡ true
goes_on_in_word byte is = in_word (is_in_range 65 90 byte) (is_in_range 97 122 byte) (byte == 95) (is_digit byte) (byte == 45) is

rest_in_word : (bytes : List ℕ) → list_all goes_on bytes ≡ true → list_all is_word_byte bytes ≡ true
rest_in_word [] is = refl
rest_in_word (byte ∷ bytes) is =
    let parts = and_parts (goes_on byte) (list_all goes_on bytes) is in
    ap (λ (b : Bool). b && list_all is_word_byte bytes) (goes_on_in_word byte parts.0) ∙ rest_in_word bytes parts.1

letter_in_word : (byte : ℕ) → is_letter byte ≡ true → is_word_byte byte ≡ true
letter_in_word byte is = goes_on_in_word byte (ap (λ (b : Bool). b || is_digit byte) is)

identifier_is_word : (name : List ℕ) → is_identifier name ≡ true → IsWord name
identifier_is_word [] is = absurd (false≢true is)
identifier_is_word (byte ∷ bytes) is =
    let parts = and_parts (is_letter byte) (list_all goes_on bytes) is in (
      omega arith,
      parts.0,
      AllPass-from_list_all is_word_byte (byte ∷ bytes)
          (ap (λ (b : Bool). b && list_all is_word_byte bytes) (letter_in_word byte parts.0) ∙ rest_in_word bytes parts.1),
    )

pub bare_is_form : (name : List ℕ) → IsTrue (stands_bare name) → IsForm kind.Identifier name
bare_is_form name is =
    let parts = and_parts (is_identifier name) (not (is_reserved name)) is in
    (identifier_is_word name parts.0, unlike (codes "t") refl, unlike (codes "f") refl)
  where
    unlike : (sign : List ℕ) → stands_bare sign ≡ false → name ≢ sign
    unlike sign not_bare same = false≢true (sym not_bare ∙ (ap stands_bare (sym same) ∙ is))
