-- Pieces of a game text, and where they lead a reader.
use Rattle.std.specs.Prelude.{◌≡◌, ℕ, ◌≤◌, Some, List, length}
use Rattle.omega_text.specs.Cut.{Cuts}
use Rattle.omega_text.specs.Lexeme.{Lexeme}
use Rattle.omega_text.specs.pg.Format.{pg_format}
use Rattle.omega_text.specs.declared.pg.kind.PgKind.{PgKind}
use Rattle.omega_pg.specs.Symbols.{PgSymbol}
use Rattle.omega_pg.specs.private.reader.Symbols.{symbols_of}
use Rattle.omega_pg.specs.private.game.reader.Automaton.{GameReaderState, IsReady, run}
use Rattle.omega_pg.specs.declared.game.stage.GameStage.{GameStage}
use Rattle.omega_pg.specs.declared.game.stage.GameStage.TheVariants.{Ended, Headed, Start}

-- the text between two places is cut into tokens with these symbols
pub record IsPiece (source : List ℕ) (from to : ℕ) (symbols : List PgSymbol) : Type 0 where
  pub lexemes : List (Lexeme PgKind)
  pub cuts : Cuts pg_format source from lexemes to
  pub spelled : symbols_of lexemes ≡ symbols
  pub forward : from ≤ to
  pub within : to ≤ length source

-- the text between two places leads from one state to another, on which a reader may rely
pub record LeadsOn (source : List ℕ) (from to : ℕ) (old new : GameReaderState) : Type 0 where
  pub symbols : List PgSymbol
  pub piece : IsPiece source from to symbols
  pub runs : run old symbols ≡ Some new
  pub ready : IsReady new

-- a node may begin here
abbrev pub BeginsNode : GameStage → Type 0
BeginsNode Start = Unit {0}
BeginsNode Headed = Unit {0}
BeginsNode Ended = Unit {0}
BeginsNode _ = ⊥
