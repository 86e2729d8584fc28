-- Tokens of a text, one after another.
use Rattle.std.proofs.Common.{◌≡◌, ℕ, ◌+◌, Bool, true, false, ◌||◌, ◌==◌, List, [], ◌∷◌, ◌++◌, drop, length, map, ap, append_assoc, refl, sym, ◌∙◌, subst, arith, length-append}
use Rattle.std.proofs.lemmas.List.{drop-drop, map-append}
use Rattle.std.proofs.Math.Seq.{drop-append_seam}
use Rattle.omega_hoa_expression.specs.Symbols.{ExpressionSymbol, seen_as, expression_symbol_of}
use Rattle.omega_acc.specs.WritingLaws.{AreThere}
use Rattle.omega_text.specs.Cut.{Cuts, CutsJoin}
use Rattle.omega_text.specs.Lexeme.{lexeme_at}
use Rattle.omega_text.specs.declared.hoa.kind.HoaKind.{HoaKind}
use Rattle.omega_text.specs.hoa.Cut.{IsGap, IsLongest}
use Rattle.omega_text.specs.hoa.Cut as cut
use Rattle.omega_text.specs.hoa.Format.{hoa_format}
use Rattle.omega_text.specs.hoa.Forms.{Spells}
use Rattle.omega_text.specs.Bytes.{is_digit, is_word_byte}
use Rattle.omega_text.specs.hoa.Laws.{ClosedAreLongest, NumbersAreLongest, NumbersArePlain, WordsAreLongest}

-- what is known of the tokens of every text
pub record Tokens : Type 0 where
  pub join : CutsJoin hoa_format
  pub numbers : NumbersAreLongest
  pub plain : NumbersArePlain
  pub words : WordsAreLongest
  pub closed : ClosedAreLongest

-- a token that stands there
pub there-token : (source rest text : List ℕ) (from value : ℕ) (sort : HoaKind)
    → drop from source ≡ text ++ rest → Spells sort value text → IsLongest text rest
    → AreThere source from (from + length text) (seen_as sort value text ∷ [])
there-token source rest text from value sort stands spells longest = record {
  lexemes = lexeme_at from sort value text ∷ [];
  cuts = (
    record { gap = []; rest = rest; split = stands; passed = cut.nothing; spells = spells; longest = longest; start = omega arith; end = refl },
    refl,
  );
  spells = refl;
}

-- what follows the first of two texts
drop-first : (source first rest : List ℕ) (from : ℕ) → drop from source ≡ first ++ rest → drop (from + length first) source ≡ rest
drop-first source first rest from stands =
    sym (drop-drop (length first) from source) ∙ (ap (drop (length first)) stands ∙ drop-append_seam first rest)

-- the tokens of two texts, one after the other
pub there-then : Tokens → (source first second following : List ℕ) (from : ℕ) (one other : List ExpressionSymbol)
    → drop from source ≡ (first ++ second) ++ following
    → (drop from source ≡ first ++ (second ++ following) → AreThere source from (from + length first) one)
    → ((place : ℕ) → drop place source ≡ second ++ following → AreThere source place (place + length second) other)
    → AreThere source from (from + length (first ++ second)) (one ++ other)
there-then laws source first second following from one other stands begins follows =
    let apart = stands ∙ append_assoc first second following in
    let front = begins apart in
    let back = follows (from + length first) (drop-first source first (second ++ following) from apart) in
    let ends : from + length first + length second ≡ from + length (first ++ second) = omega (arith, length-append first second) in
    record {
      lexemes = front.lexemes ++ back.lexemes;
      cuts = subst (λ to. Cuts hoa_format source from (front.lexemes ++ back.lexemes) to) ends
          (laws.join source from (from + length first) (from + length first + length second) front.lexemes back.lexemes front.cuts back.cuts);
      spells = map-append expression_symbol_of front.lexemes back.lexemes ∙ (ap (λ symbols. symbols ++ map expression_symbol_of back.lexemes) front.spells ∙ ap (λ symbols. one ++ symbols) back.spells);
    }

-- where neither holds the first does not
pub or-left : (a b : Bool) → (a || b) ≡ false → a ≡ false
or-left false b is = refl
or-left true b is = is

-- what goes on in no word is no digit
pub no-digit : (byte : ℕ) → is_word_byte byte ≡ false → is_digit byte ≡ false
no-digit byte is =
    or-left (is_digit byte) _ (or-left _ _ (or-left _ (byte == 95) (or-left _ (byte == 45) is)))
