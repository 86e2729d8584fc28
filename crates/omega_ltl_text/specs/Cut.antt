-- How a formula's text is cut into tokens.
use Rattle.std.specs.Prelude.{◌≡◌, ℕ, ◌+◌, ◌<◌, false, List, None, Some, drop, length, slice_index, take}
use Rattle.omega_text.specs.Bytes.{is_white}
use Rattle.omega_text.specs.Format.{TextFormat}
use Rattle.omega_text.specs.Lexeme.{Lexeme}
use Rattle.omega_text.specs.declared.refusal.text.TextFault.{TextFault}
use Rattle.omega_text.specs.declared.refusal.text.TextFault.TheVariants.{Lex}
use Rattle.omega_text.specs.pg.Cut.{IsGap}
use Rattle.omega_ltl_text.specs.Tokens.{front, front_token}
use Rattle.omega_ltl_text.specs.declared.kind.FormulaKind.{FormulaKind}

-- from a place on, white space follows and then this token
pub record Follows (source : List ℕ) (from : ℕ) (lexeme : Lexeme FormulaKind) : Type 0 where
  pub gap : IsGap source from lexeme.span.start
  pub token : front_token (drop lexeme.span.start source) ≡ Some (front lexeme.kind (length lexeme.text))
  pub text : lexeme.text ≡ take (length lexeme.text) (drop lexeme.span.start source)
  pub value : lexeme.value ≡ 0
  pub end : lexeme.span.end ≡ lexeme.span.start + length lexeme.text

-- from a place on, white space follows and then bytes that begin no token
pub record HasFaultFrom (source : List ℕ) (from : ℕ) (fault : TextFault) : Type 0 where
  pub place : ℕ
  pub gap : IsGap source from place
  pub more : place < length source
  pub black : is_white (slice_index source place) ≡ false
  pub none : front_token (drop place source) ≡ None
  pub there : fault ≡ Lex place

-- texts of formulas as a format
abbrev pub formula_format : TextFormat FormulaKind
formula_format = record {
  follows = Follows;
  ends = λ source from. IsGap source from (length source);
  faults = HasFaultFrom;
}
