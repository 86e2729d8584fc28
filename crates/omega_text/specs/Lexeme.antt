-- A token as contracts see it.
use Rattle.std.specs.Prelude.{ℕ, ◌+◌, List, length}
use Rattle.omega_text.specs.declared.token.Span.{Span}
use Rattle.omega_text.specs.declared.token.Token.{Token}

-- a token without the address of its bytes
pub record Lexeme (Kind : Type 0) : Type 0 where
  pub kind : Kind
  pub text : List ℕ
  pub value : ℕ
  pub span : Span

-- the lexeme that a token is
abbrev pub lexeme_of : {Kind : Type 0} → Token Kind → Lexeme Kind
lexeme_of token = record {
  kind = token.kind;
  text = token.text.now;
  value = token.value;
  span = token.span;
}

-- the lexeme of this kind, value and text at a place
abbrev pub lexeme_at : {Kind : Type 0} → ℕ → Kind → ℕ → List ℕ → Lexeme Kind
lexeme_at place kind value text = record {
  kind = kind;
  text = text;
  value = value;
  span = record { start = place; end = place + length text };
}
