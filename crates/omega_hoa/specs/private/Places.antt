-- The places of a segment that is read by itself, a part of a text.
use Rattle.std.specs.Prelude.{ℕ, ◌+◌, List, map}
use Rattle.omega_text.specs.Cases.{never, or_automaton, or_memory, or_text}
use Rattle.omega_text.specs.Cut.{IsCut}
use Rattle.omega_text.specs.Lexeme.{Lexeme}
use Rattle.omega_text.specs.hoa.Format.{hoa_format}
use Rattle.omega_text.specs.declared.hoa.kind.HoaKind.{HoaKind}
use Rattle.omega_text.specs.declared.hoa.kind.HoaKind.TheVariants.{End}
use Rattle.omega_text.specs.declared.refusal.Refusal.{Refusal}
use Rattle.omega_hoa.specs.Segment.{HasMeaningFault, IsSyntaxWithin}
use Rattle.omega_hoa.specs.Stream.{IsSegment}

-- a token of a part that begins at a place, with its own place counted from the first byte of all
abbrev pub counted_from : ℕ → Lexeme HoaKind → Lexeme HoaKind
counted_from begins lexeme = record {
  kind = lexeme.kind;
  text = lexeme.text;
  value = lexeme.value;
  span = record { start = lexeme.span.start + begins; end = lexeme.span.end + begins };
}

-- the tokens of a part spell no automaton as it is written: `Syntax` at one of them, or `Memory`
abbrev pub IsPartUnread : ℕ → List (Lexeme HoaKind) → Refusal → Type 0
IsPartUnread begins lexemes =
    or_text (IsSyntaxWithin (map (counted_from begins) lexemes)) (or_memory never)

-- why the tokens of a part are not an automaton's, or `Memory`
abbrev pub IsPartFault : ℕ → List (Lexeme HoaKind) → Refusal → Type 0
IsPartFault begins lexemes = or_text (IsSyntaxWithin (map (counted_from begins) lexemes))
    (or_automaton (HasMeaningFault lexemes) (or_memory never))

-- this holds of the tokens of the bytes, if they are a segment that ends with `--END--`
abbrev pub OfSegment : List ℕ → (List (Lexeme HoaKind) → Type 0) → Type 0
OfSegment bytes Holds = (lexemes : List (Lexeme HoaKind)) → IsCut hoa_format bytes lexemes
    → IsSegment End lexemes → Holds lexemes
