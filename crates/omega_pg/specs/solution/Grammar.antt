-- The grammar of solution texts, as a spelling: the symbols by which a header and lines are written.
use Rattle.std.specs.Prelude.{◌≡◌, ℕ, Option, Some, None, List, [], ◌∷◌, ◌++◌}
use Rattle.std.specs.List.{flat_map}
use Rattle.omega_game_values.specs.declared.player.Player.{Player}
use Rattle.omega_game_values.specs.declared.player.Player.TheVariants.{Zero}
use Rattle.omega_text.specs.Syntax.{Syntax}
use Rattle.omega_text.specs.declared.pg.kind.PgKind.{PgKind}
use Rattle.omega_pg.specs.Symbols.{PgSymbol, pg_syntax, number, paritysol, semicolon}
use Rattle.omega_game_values.specs.Player.{player_number}

-- what a text says of a node: its identifier, its winner, and the identifier of a successor or none
pub record SolutionLine : Type 0 where
  pub identifier : ℕ
  pub winner : Player
  pub successor : Option ℕ

-- the line for a node with this identifier
abbrev pub line_for : ℕ → Player → Option ℕ → SolutionLine
line_for identifier winner successor = record {
  identifier = identifier;
  winner = winner;
  successor = successor;
}

-- the line past the end of all lines
abbrev pub no_line : SolutionLine
no_line = record { identifier = 0; winner = Zero; successor = None }

-- a solution text as it is written: the number of its header, and its lines
pub record RawSolution : Type 0 where
  pub greatest : ℕ
  pub lines : List SolutionLine

-- successor?
abbrev pub choice_symbols : Option ℕ → List PgSymbol
choice_symbols None = []
choice_symbols (Some id) = number id ∷ []

-- line: identifier winner successor? `;`
abbrev pub line_symbols : SolutionLine → List PgSymbol
line_symbols line = number line.identifier ∷ number (player_number line.winner)
    ∷ (choice_symbols line.successor ++ semicolon ∷ [])

-- solution: `paritysol` number `;` line*
abbrev pub SpellsSolution : List PgSymbol → RawSolution → Type 0
SpellsSolution symbols raw =
    symbols ≡ paritysol ∷ number raw.greatest ∷ semicolon ∷ flat_map line_symbols raw.lines

-- the syntax of solution texts
abbrev pub solution_syntax : Syntax PgKind PgSymbol RawSolution
solution_syntax = pg_syntax SpellsSolution
