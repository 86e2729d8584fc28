-- Texts that are the tokens of symbols: white bytes and tokens, one before another.
use Rattle.std.proofs.Common.{◌≡◌, ℕ, ◌+◌, ◌≤◌, Bool, true, false, ◌||◌, ◌==◌, List, [], ◌∷◌, ◌++◌, codes, decimal, drop, length, length-append, length-drop, slice_index, ap, append_assoc, inl, refl, sym, ◌∙◌, subst, arith, lit<}
use Rattle.std.proofs.lemmas.List.{drop-drop, take_at}
use Rattle.std.proofs.lemmas.List.Sums.{AllPass-from_list_all}
use Rattle.std.proofs.Math.Seq.{drop-append_seam}
use Rattle.omega_text.specs.Bytes.{is_digit, is_white, is_word_byte}
use Rattle.omega_text.specs.Cut.{Cuts, CutsJoin}
use Rattle.omega_text.specs.Forms.{IsWord, between_quotes}
use Rattle.omega_text.specs.Lexeme.{Lexeme, lexeme_at}
use Rattle.omega_text.specs.Limits.{most_number}
use Rattle.omega_text.specs.declared.hoa.kind.HoaKind.{HoaKind}
use Rattle.omega_text.specs.declared.hoa.kind.HoaKind.TheVariants as kind
use Rattle.omega_text.specs.hoa.Cut.{Ends, Follows, IsGap, IsLongest}
use Rattle.omega_text.specs.hoa.Cut as gap
use Rattle.omega_text.specs.hoa.Format.{hoa_format}
use Rattle.omega_text.specs.hoa.Forms.{IsForm, IsQuotable}
use Rattle.omega_text.specs.hoa.Forms as forms
use Rattle.omega_text.specs.hoa.Laws.{ClosedAreLongest, NumbersAreLongest, NumbersArePlain, WordsAreLongest}
use Rattle.omega_hoa_expression.specs.Writing.{truth_text}
use Rattle.omega_acc.specs.WritingLaws.{AccTextsAreFormulas, LabelTextsAreLabels, StandsApart, WrittenFormulasMean, WrittenLabelsMean}
use Rattle.omega_hoa_syntax.specs.Grammar.{boolean_row}
use Rattle.omega_hoa_syntax.specs.Symbols.{ReadsSymbol, ReadsSymbols, AutomatonSymbol, Tokens, header, number, sign, text, without_last, word}
use Rattle.omega_canon.specs.Parts.{quoted_string}

-- what is known of the tokens of every text, and of the texts of expressions
pub record Known : Type 0 where
  pub join : CutsJoin hoa_format
  pub numbers : NumbersAreLongest
  pub plain : NumbersArePlain
  pub words : WordsAreLongest
  pub closed : ClosedAreLongest
  pub labels : LabelTextsAreLabels
  pub label_means : WrittenLabelsMean
  pub formulas : AccTextsAreFormulas
  pub formula_means : WrittenFormulasMean

-- from a place on a text is the tokens of these symbols, and nothing more
pub record Stands (source : List ℕ) (from : ℕ) (symbols : List AutomatonSymbol) : Type 0 where
  pub tokens : Tokens
  pub end : ℕ
  pub cuts : Cuts hoa_format source from tokens end
  pub rest : Ends source end
  pub spells : ReadsSymbols tokens symbols []

-- wherever these bytes are the end of a text, they are the tokens of these symbols
pub record IsSpelled (bytes : List ℕ) (symbols : List AutomatonSymbol) : Type 0 where
  pub there : (source : List ℕ) (from : ℕ) → from ≤ length source → drop from source ≡ bytes → Stands source from symbols

-- no bytes are no symbols
pub nothing-spelled : IsSpelled [] []
nothing-spelled = record {
  there = λ source from within is. record {
    tokens = [];
    end = from;
    cuts = refl;
    rest = record { passed = subst IsGap (sym is) gap.nothing; within = within };
    spells = refl;
  };
}

-- what follows the first of two parts
pub drop-first : (source first rest : List ℕ) (from : ℕ) → drop from source ≡ first ++ rest → drop (from + length first) source ≡ rest
drop-first source first rest from is =
    sym (drop-drop (length first) from source) ∙ (ap (drop (length first)) is ∙ drop-append_seam first rest)

-- the first of two parts ends within the text
pub first-within : (source first rest : List ℕ) (from : ℕ) → from ≤ length source → drop from source ≡ first ++ rest → from + length first ≤ length source
first-within source first rest from within is =
    let lengths : length (drop from source) ≡ length (first ++ rest) = ap length is in
    omega (arith, lengths, length-drop from source, length-append first rest)

-- ---- white bytes

-- a token follows a white byte too
follows-white : (source bytes : List ℕ) (from byte : ℕ) (lexeme : Lexeme HoaKind) → is_white byte ≡ true → drop from source ≡ byte ∷ bytes
    → Follows source (from + 1) lexeme → Follows source from lexeme
follows-white source bytes from byte lexeme white is follows =
    let following : drop (from + 1) source ≡ bytes = drop-first source (byte ∷ []) bytes from is in
    record {
      gap = byte ∷ follows.gap;
      rest = follows.rest;
      split = is ∙ ap (λ more. byte ∷ more) (sym following ∙ follows.split);
      passed = gap.blank (byte ∷ []) follows.gap (inl (byte, refl, white)) follows.passed;
      spells = follows.spells;
      longest = follows.longest;
      start = omega (arith, follows.start);
      end = follows.end;
    }

stands-white : (source bytes : List ℕ) (from byte end : ℕ) (tokens : Tokens) (symbols : List AutomatonSymbol) → is_white byte ≡ true → from ≤ length source
    → drop from source ≡ byte ∷ bytes → Cuts hoa_format source (from + 1) tokens end → Ends source end → ReadsSymbols tokens symbols [] → Stands source from symbols
stands-white source bytes from byte end [] symbols white within is cuts rest spells =
    let passed : IsGap (drop (from + 1) source) = subst (λ place. IsGap (drop place source)) (sym cuts) rest.passed in
    let following : drop (from + 1) source ≡ bytes = drop-first source (byte ∷ []) bytes from is in
    record {
      tokens = [];
      end = from;
      cuts = refl;
      rest = record {
        passed = subst IsGap (sym is) (gap.blank (byte ∷ []) bytes (inl (byte, refl, white)) (subst IsGap following passed));
        within = within;
      };
      spells = spells;
    }
stands-white source bytes from byte end (lexeme ∷ tokens) symbols white within is cuts rest spells = record {
  tokens = lexeme ∷ tokens;
  end = end;
  cuts = (follows-white source bytes from byte lexeme white is cuts.0, cuts.1);
  rest = rest;
  spells = spells;
}

-- a white byte before bytes changes nothing
white-spelled : (byte : ℕ) → is_white byte ≡ true → {bytes : List ℕ} {symbols : List AutomatonSymbol} → IsSpelled bytes symbols → IsSpelled (byte ∷ bytes) symbols
white-spelled byte white {bytes} {symbols} spelled = record {
  there = λ source from within is.
      let next = spelled.there source (from + 1) (first-within source (byte ∷ []) bytes from within is) (drop-first source (byte ∷ []) bytes from is) in
      stands-white source bytes from byte next.end next.tokens symbols white within is next.cuts next.rest next.spells;
}

-- a space
pub space-spelled : {bytes : List ℕ} {symbols : List AutomatonSymbol} → IsSpelled bytes symbols → IsSpelled (32 ∷ bytes) symbols
space-spelled spelled = white-spelled 32 refl spelled

-- a line feed
pub line-spelled : {bytes : List ℕ} {symbols : List AutomatonSymbol} → IsSpelled bytes symbols → IsSpelled (10 ∷ bytes) symbols
line-spelled spelled = white-spelled 10 refl spelled

-- ---- tokens

-- a token before bytes
token-spelled : (symbol : AutomatonSymbol) (sort : HoaKind) (value : ℕ) (bytes following : List ℕ) (others : List AutomatonSymbol)
    → forms.Spells sort value bytes → IsLongest bytes following
    → ((lexeme : Lexeme HoaKind) (rest : Tokens) → lexeme.kind ≡ sort → lexeme.value ≡ value → lexeme.text ≡ bytes → ReadsSymbol symbol (lexeme ∷ rest) rest)
    → IsSpelled following others → IsSpelled (bytes ++ following) (symbol ∷ others)
token-spelled symbol sort value bytes following others spells longest begins spelled = record {
  there = λ source from within is.
      let next = spelled.there source (from + length bytes) (first-within source bytes following from within is) (drop-first source bytes following from is) in
      record {
        tokens = lexeme_at from sort value bytes ∷ next.tokens;
        end = next.end;
        cuts = (
          record { gap = []; rest = following; split = is; passed = gap.nothing; spells = spells; longest = longest; start = omega arith; end = refl },
          next.cuts,
        );
        rest = next.rest;
        spells = record { middle = next.tokens; front = begins (lexeme_at from sort value bytes) next.tokens refl refl refl; back = next.spells };
      };
}

-- if neither holds the first does not
pub or-left : (a b : Bool) → (a || b) ≡ false → a ≡ false
or-left false b is = refl
or-left true b is = is

-- what goes on in no word is no digit
no-digit : (byte : ℕ) → is_word_byte byte ≡ false → is_digit byte ≡ false
no-digit byte is = or-left (is_digit byte) _ (or-left _ _ (or-left _ (byte == 95) (or-left _ (byte == 45) is)))

-- a number
pub number-spelled : Known → (n : ℕ) (following : List ℕ) (others : List AutomatonSymbol) → n ≤ most_number → StandsApart following
    → IsSpelled following others → IsSpelled (decimal n ++ following) (number n ∷ others)
number-spelled known n following others fits apart spelled =
    token-spelled (number n) kind.Int n (decimal n) following others (fits, refl)
    (known.numbers (decimal n) following ((known.plain (decimal n) n).0 (fits, refl)).0 (no-digit (slice_index following 0) apart.ends))
    (λ lexeme rest sort value bytes. record { lexeme = lexeme; next = refl; shows = (sort, value) })
    spelled

-- an identifier
pub word-spelled : Known → (bytes following : List ℕ) (others : List AutomatonSymbol) → IsForm kind.Identifier bytes → StandsApart following
    → IsSpelled following others → IsSpelled (bytes ++ following) (word bytes ∷ others)
word-spelled known bytes following others form apart spelled =
    token-spelled (word bytes) kind.Identifier 0 bytes following others (refl, form) (known.words bytes following form.0 apart.ends apart.closes)
    (λ lexeme rest sort value same. record { lexeme = lexeme; next = refl; shows = (sort, same) })
    spelled

-- the name of a header, and the colon after it
pub header-spelled : Known → (name following : List ℕ) (others : List AutomatonSymbol) → IsWord name
    → IsSpelled following others → IsSpelled (name ++ 58 ∷ following) (header name ∷ others)
header-spelled known name following others is spelled =
    let form : IsForm kind.HeaderName (name ++ 58 ∷ []) = (name, refl, is) in
    let bare : without_last (name ++ 58 ∷ []) ≡ name = take_at name (58 ∷ []) _ (omega (arith, length-append name (58 ∷ []))) in
    subst (λ bytes. IsSpelled bytes (header name ∷ others)) (append_assoc name (58 ∷ []) following)
    (token-spelled (header name) kind.HeaderName 0 (name ++ 58 ∷ []) following others (refl, form) (known.closed kind.HeaderName _ following refl form)
    (λ lexeme rest sort value same. record { lexeme = lexeme; next = refl; shows = (sort, ap without_last same ∙ bare) })
    spelled)

-- a string
pub string-spelled : Known → (bytes following : List ℕ) (others : List AutomatonSymbol) → IsQuotable bytes
    → IsSpelled following others → IsSpelled (quoted_string bytes ++ following) (text bytes ∷ others)
string-spelled known bytes following others is spelled =
    let form : IsForm kind.String (34 ∷ (bytes ++ 34 ∷ [])) = (bytes, refl, is) in
    let bare : between_quotes (34 ∷ (bytes ++ 34 ∷ [])) ≡ bytes = take_at bytes (34 ∷ []) _ (omega (arith, length-append bytes (34 ∷ []))) in
    token-spelled (text bytes) kind.String 0 (34 ∷ (bytes ++ 34 ∷ [])) following others (refl, form) (known.closed kind.String _ following refl form)
    (λ lexeme rest sort value same. record { lexeme = lexeme; next = refl; shows = (sort, ap between_quotes same ∙ bare) })
    spelled

-- a sign, a mark or a constant
pub sign-spelled : (sort : HoaKind) (bytes following : List ℕ) (others : List AutomatonSymbol) → forms.Spells sort 0 bytes → IsLongest bytes following
    → IsSpelled following others → IsSpelled (bytes ++ following) (sign sort ∷ others)
sign-spelled sort bytes following others spells longest spelled =
    token-spelled (sign sort) sort 0 bytes following others spells longest
    (λ lexeme rest is value same. record { lexeme = lexeme; next = refl; shows = is })
    spelled

-- `t` or `f`
pub truth-spelled : Known → (is : Bool) (following : List ℕ) (others : List AutomatonSymbol) → StandsApart following
    → IsSpelled following others → IsSpelled (truth_text is ++ following) (boolean_row is others)
truth-spelled known true following others apart spelled =
    sign-spelled kind.True (codes "t") following others (refl, refl)
    (known.words (codes "t") following (lit< tt, refl, AllPass-from_list_all is_word_byte (codes "t") refl) apart.ends apart.closes) spelled
truth-spelled known false following others apart spelled =
    sign-spelled kind.False (codes "f") following others (refl, refl)
    (known.words (codes "f") following (lit< tt, refl, AllPass-from_list_all is_word_byte (codes "f") refl) apart.ends apart.closes) spelled
