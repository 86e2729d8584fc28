-- The grammar of solution texts as an automaton over symbols, whose states keep what was read.
use Rattle.std.specs.Prelude.{ℕ, Option, Some, None, List, [], ◌∷◌, ◌++◌, option_map}
use Rattle.omega_game_values.specs.declared.player.Player.{Player}
use Rattle.omega_pg.specs.private.game.reader.Automaton.{player_of}
use Rattle.omega_pg.specs.solution.Grammar.{SolutionLine, line_for}
use Rattle.omega_pg.specs.private.reader.Run.{run_by}
use Rattle.omega_pg.specs.Symbols.{PgSymbol, comma, name, number, parity, paritysol, semicolon}
use Rattle.omega_pg.specs.declared.solution.stage.SolutionStage.{SolutionStage}
use Rattle.omega_pg.specs.declared.solution.stage.SolutionStage.TheVariants.{Chosen, Ended, Identifier}
use Rattle.omega_pg.specs.declared.solution.stage.SolutionStage.TheVariants.{Number, Start, Winner, Word}

-- what was read so far: the stage, the header's number and the lines
pub record SolutionReaderState : Type 0 where
  pub stage : SolutionStage
  pub greatest : ℕ
  pub lines : List SolutionLine

-- the state before the first symbol
abbrev pub initial : SolutionReaderState
initial = record { stage = Start; greatest = 0; lines = [] }

-- the state at another stage
abbrev pub to_stage : SolutionStage → SolutionReaderState → SolutionReaderState
to_stage stage state = record state { stage = stage }

-- the state with one line more
abbrev pub with_line : ℕ → Player → Option ℕ → SolutionReaderState → SolutionReaderState
with_line id winner successor state = record {
  stage = Ended;
  greatest = state.greatest;
  lines = state.lines ++ line_for id winner successor ∷ [];
}

-- the stage after a number, if a text goes on so
abbrev pub stage_after_number : SolutionStage → ℕ → Option SolutionStage
stage_after_number Start n = None
stage_after_number Word n = Some (Number n)
stage_after_number (Number greatest) n = None
stage_after_number Ended n = Some (Identifier n)
stage_after_number (Identifier id) n = option_map (λ winner. Winner id winner) (player_of n)
stage_after_number (Winner id winner) n = Some (Chosen id winner n)
stage_after_number (Chosen id winner successor) n = None

-- the stage after the word `paritysol`, if a text goes on so
abbrev pub stage_after_word : SolutionStage → Option SolutionStage
stage_after_word Start = Some Word
stage_after_word _ = None

-- the state after a number
abbrev pub after_number : SolutionStage → SolutionReaderState → ℕ → Option SolutionReaderState
after_number stage state n = option_map (λ next. to_stage next state) (stage_after_number stage n)

-- the state after the word `paritysol`
abbrev pub after_word : SolutionStage → SolutionReaderState → Option SolutionReaderState
after_word stage state = option_map (λ next. to_stage next state) (stage_after_word stage)

-- the state after a semicolon
abbrev pub after_semicolon : SolutionStage → SolutionReaderState → Option SolutionReaderState
after_semicolon (Number greatest) state =
    Some (record { stage = Ended; greatest = greatest; lines = state.lines })
after_semicolon (Winner id winner) state = Some (with_line id winner None state)
after_semicolon (Chosen id winner successor) state =
    Some (with_line id winner (Some successor) state)
after_semicolon _ state = None

-- the state after a symbol, or none if no text of the grammar goes on with it
abbrev pub step : SolutionReaderState → PgSymbol → Option SolutionReaderState
step state (number n) = after_number state.stage state n
step state parity = None
step state paritysol = after_word state.stage state
step state semicolon = after_semicolon state.stage state
step state comma = None
step state (name bytes) = None

-- the state after symbols
abbrev pub run : SolutionReaderState → List PgSymbol → Option SolutionReaderState
run = run_by step
