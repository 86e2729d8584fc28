-- Lenient texts as a format: the tokens of strict texts, and the word `start`.
use Rattle.std.specs.Prelude.{◌≡◌, ℕ, false, ◌⊎◌, List, take, drop, slice_index, codes}
use Rattle.omega_text.specs.Bytes.{is_word_byte}
use Rattle.omega_text.specs.Format.{TextFormat}
use Rattle.omega_text.specs.Lexeme.{Lexeme, lexeme_at}
use Rattle.omega_text.specs.pg.Format.{pg_format}
use Rattle.omega_text.specs.declared.pg.kind.PgKind.{PgKind}
use Rattle.omega_text.specs.declared.refusal.text.TextFault.{TextFault}
use Rattle.omega_text.specs.declared.refusal.text.TextFault.TheVariants.{Lex, Number, Syntax, TooLong}
use Rattle.omega_pg_lenient.specs.declared.kind.LenientKind.{LenientKind}
use Rattle.omega_pg_lenient.specs.declared.kind.LenientKind.TheVariants.{Start, Strict}

-- the bytes begin with the word `start`, which no further byte continues
pub record BeginsStart (bytes : List ℕ) : Type 0 where
  pub word : take 5 bytes ≡ codes "start"
  pub ended : is_word_byte (slice_index bytes 5) ≡ false

-- a token of a strict text as one of a lenient text
abbrev pub lenient : Lexeme PgKind → Lexeme LenientKind
lenient token = record {
  kind = Strict token.kind;
  text = token.text;
  value = token.value;
  span = token.span;
}

-- from a place on, the next token is one of strict texts
pub record StrictFollows (source : List ℕ) (from : ℕ) (lexeme : Lexeme LenientKind) : Type 0 where
  pub token : Lexeme PgKind
  pub follows : pg_format.follows source from token
  pub same : lexeme ≡ lenient token

-- from a place on, the next token is the word `start`: a strict text has its fault there
pub record StartFollows (source : List ℕ) (from : ℕ) (lexeme : Lexeme LenientKind) : Type 0 where
  pub place : ℕ
  pub no_strict : pg_format.faults source from (Lex place)
  pub begins : BeginsStart (drop place source)
  pub same : lexeme ≡ lexeme_at place Start 0 (codes "start")

-- a fault is at the word `start`
abbrev pub IsAtStart : List ℕ → TextFault → Type 0
IsAtStart source (Lex at) = BeginsStart (drop at source)
IsAtStart source (Number at) = ⊥
IsAtStart source (Syntax at) = ⊥
IsAtStart source TooLong = ⊥

-- from a place on, a strict text has this fault, and not at the word `start`
pub record HasFaultFrom (source : List ℕ) (from : ℕ) (fault : TextFault) : Type 0 where
  pub strict : pg_format.faults source from fault
  pub elsewhere : IsAtStart source fault → ⊥

-- strict tokens and `start`, white space to the end, and faults
abbrev pub lenient_format : TextFormat LenientKind
lenient_format = record {
  follows = λ source from lexeme. StrictFollows source from lexeme ⊎ StartFollows source from lexeme;
  ends = pg_format.ends;
  faults = HasFaultFrom;
}
