-- What is read of a solution text to find what is at fault in it, symbol by symbol.
use Rattle.std.specs.Prelude.{◌≡◌, ℕ, ◌==◌, Option, Some, None, List, [], ◌∷◌, ◌++◌, fold, if◌then◌else◌}
use Rattle.omega_pg_diagnostics.specs.declared.written_solution.WrittenLine.{WrittenLine}
use Rattle.omega_pg_diagnostics.specs.declared.written_solution.NextSolutionNumber.{NextSolutionNumber}
use Rattle.omega_pg_diagnostics.specs.declared.written_solution.NextSolutionNumber.TheVariants.{Choice, End}
use Rattle.omega_pg_diagnostics.specs.declared.written_solution.NextSolutionNumber.TheVariants.{Greatest}
use Rattle.omega_pg_diagnostics.specs.declared.written_solution.NextSolutionNumber.TheVariants.{Identifier}
use Rattle.omega_pg_diagnostics.specs.declared.written_solution.NextSolutionNumber.TheVariants.{Winner}
use Rattle.omega_game_values.specs.declared.player.Player.{Player}
use Rattle.omega_game_values.specs.declared.player.Player.TheVariants.{One, Zero}
use Rattle.omega_pg.specs.Symbols.{PgSymbol, comma, name, number, parity, paritysol, semicolon}
use Rattle.omega_pg.specs.solution.Grammar.{RawSolution, SolutionLine}

-- a line as the grammar has it
abbrev pub as_written : WrittenLine → SolutionLine
as_written line = record { identifier = line.id; winner = line.winner; successor = line.choice }

-- what was read so far: which number is next, the header's number, and the lines
pub record Written : Type 0 where
  pub next : NextSolutionNumber
  pub greatest : ℕ
  pub lines : List SolutionLine

-- nothing was read
abbrev pub nothing : Written
nothing = record { next = Greatest; greatest = 0; lines = [] }

-- the player with this number, which is 0 or 1
abbrev pub player_with : ℕ → Player
player_with n = if n == 0 then Zero else One

-- what was read after one more line
abbrev pub with_line : NextSolutionNumber → ℕ → Player → Option ℕ → Written → Written
with_line next id winner choice written = record {
  next = next;
  greatest = written.greatest;
  lines = written.lines ++ record { identifier = id; winner = winner; successor = choice } ∷ [];
}

-- what was read after one more number
abbrev pub after_number : NextSolutionNumber → Written → ℕ → Written
after_number Greatest written n = record written { next = End; greatest = n }
after_number Identifier written n = record written { next = Winner n }
after_number (Winner id) written n = record written { next = Choice id (player_with n) }
after_number (Choice id winner) written n = with_line End id winner (Some n) written
after_number End written n = written

-- what was read after a semicolon
abbrev pub after_semicolon : NextSolutionNumber → Written → Written
after_semicolon (Choice id winner) written = with_line Identifier id winner None written
after_semicolon _ written = record written { next = Identifier }

-- what was read after one more symbol
abbrev pub step : Written → PgSymbol → Written
step written (number n) = after_number written.next written n
step written parity = written
step written paritysol = written
step written semicolon = after_semicolon written.next written
step written comma = written
step written (name bytes) = written

-- what was read after symbols
abbrev pub run : Written → List PgSymbol → Written
run = fold step

-- what was read is what is written
pub record Keeps (raw : RawSolution) (written : Written) : Type 0 where
  pub greatest : written.greatest ≡ raw.greatest
  pub lines : written.lines ≡ raw.lines
