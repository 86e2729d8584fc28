-- What is read of each spelling of a solution text is what is written.
use Rattle.std.proofs.Common.{◌≡◌, ℕ, append-nil, Option, Some, None, List, [], ◌∷◌, ◌++◌, map, refl, ap, sym, ◌∙◌, append_assoc}
use Rattle.std.specs.List.{flat_map}
use Rattle.omega_pg_diagnostics.specs.private.WrittenSolution.{Keeps, Written, as_written, nothing, run}
use Rattle.omega_pg_diagnostics.specs.declared.written_solution.WrittenLine.{WrittenLine}
use Rattle.omega_pg_diagnostics.specs.declared.written_solution.NextSolutionNumber.{NextSolutionNumber}
use Rattle.omega_pg_diagnostics.specs.declared.written_solution.NextSolutionNumber.TheVariants.{Identifier}
use Rattle.omega_game_values.specs.declared.player.Player.{Player}
use Rattle.omega_game_values.specs.declared.player.Player.TheVariants.{One, Zero}
use Rattle.omega_pg.specs.Symbols.{PgSymbol, number, paritysol, semicolon}
use Rattle.omega_pg.specs.solution.Grammar.{RawSolution, SolutionLine, line_for, line_symbols}

-- one line more, as the grammar has it
pub one_line_more : (lines : List WrittenLine) (line : WrittenLine) → map as_written (lines ++ line ∷ []) ≡ map as_written lines ++ as_written line ∷ []
one_line_more [] line = refl
one_line_more (first ∷ lines) line = ap (λ list. as_written first ∷ list) (one_line_more lines line)

-- what was read, by its parts
abbrev pub at : NextSolutionNumber → ℕ → List SolutionLine → Written
at next greatest lines = record { next = next; greatest = greatest; lines = lines }

-- a line is read
run_line : (greatest : ℕ) (lines : List SolutionLine) (id : ℕ) (winner : Player) (successor : Option ℕ) (rest : List PgSymbol)
    → run (at Identifier greatest lines) (line_symbols (line_for id winner successor) ++ rest)
    ≡ run (at Identifier greatest (lines ++ line_for id winner successor ∷ [])) rest
run_line greatest lines id Zero None rest = refl
run_line greatest lines id Zero (Some choice) rest = refl
run_line greatest lines id One None rest = refl
run_line greatest lines id One (Some choice) rest = refl

-- lines are read
run_lines : (greatest : ℕ) (lines others : List SolutionLine)
    → run (at Identifier greatest lines) (flat_map line_symbols others) ≡ at Identifier greatest (lines ++ others)
run_lines greatest lines [] = ap (at Identifier greatest) (sym (append-nil lines))
run_lines greatest lines (line ∷ others) =
    run_line greatest lines line.identifier line.winner line.successor (flat_map line_symbols others)
    ∙ run_lines greatest (lines ++ line ∷ []) others
    ∙ ap (at Identifier greatest) (append_assoc lines (line ∷ []) others)

-- what is read of a text is what is written
pub read_is_kept : (raw : RawSolution) (written : Written)
    → written ≡ run nothing (paritysol ∷ number raw.greatest ∷ semicolon ∷ flat_map line_symbols raw.lines) → Keeps raw written
read_is_kept raw written read =
    let all = read ∙ run_lines raw.greatest [] raw.lines in
    record { greatest = ap (λ (w : Written). w.greatest) all; lines = ap (λ (w : Written). w.lines) all }
