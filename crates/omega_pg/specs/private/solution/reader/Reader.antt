-- A reader of a solution text: what its calls do, and what it has become, whatever it keeps of the lines.
use Rattle.std.specs.Prelude.{◌≡◌, Bool, Option, List}
use Rattle.omega_text.specs.Lexeme.{Lexeme}
use Rattle.omega_text.specs.declared.pg.kind.PgKind.{PgKind}
use Rattle.omega_game_values.specs.Game.{Node}
use Rattle.omega_pg.specs.Symbols.{PgSymbol}
use Rattle.omega_pg.specs.private.reader.Symbols.{symbols_of}
use Rattle.omega_pg.specs.private.solution.reader.Automaton.{SolutionReaderState, step}
use Rattle.omega_pg.specs.private.solution.reader.Reading.{GoesOnTo, HasTaken, Keeps, KeepsNext}
use Rattle.omega_pg.specs.solution.Grammar.{SolutionLine}
use Rattle.omega_pg.specs.declared.solution.reader.SolutionReader.{SolutionReader}
use Rattle.omega_pg.specs.declared.solution.stage.SolutionStage.{SolutionStage}

-- a call took the symbol or refused it: whatever state the old reader keeps, the new one keeps the state after the
-- symbol, or no text goes on so
abbrev pub Takes : {L : Type 0} → (List Node → List SolutionLine → L → Type 0) → PgSymbol → SolutionReader L
    → Bool → SolutionReader L → Type 0
Takes KeepsLines symbol old taken new = (state : SolutionReaderState)
    → Keeps KeepsLines old.game.now state old.stage old.greatest old.lines
    → KeepsNext KeepsLines taken old.game.now (step state symbol) new.stage new.greatest new.lines

-- a call went on to this stage, if there is one
abbrev pub GoesOn : {L : Type 0} → Option SolutionStage → SolutionReader L → Bool → SolutionReader L → Type 0
GoesOn next old taken new =
    GoesOnTo taken next old.stage old.greatest old.lines new.stage new.greatest new.lines

-- by these tokens the one reader became the other, for the same game
abbrev pub HasBecome : {L : Type 0} → (List Node → List SolutionLine → L → Type 0) → SolutionReader L
    → List (Lexeme PgKind) → SolutionReader L → Type 0
HasBecome KeepsLines start lexemes reader = (reader.game.now ≡ start.game.now)
    × HasTaken KeepsLines start.game.now (symbols_of lexemes) reader.stage reader.greatest reader.lines
