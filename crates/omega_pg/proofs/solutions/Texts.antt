-- Solution texts as they are read.
use Rattle.std.proofs.Common.{◌≡◌, ℕ, inr, List, Result, Ok, Err, IfOk, IfErr, refl, sym, subst}
use Rattle.omega_text.specs.Reading.{IsReadText}
use Rattle.omega_text.specs.Syntax.{IsTextOf, TokensComplete}
use Rattle.omega_text.specs.pg.Format.{pg_format}
use Rattle.omega_text.specs.declared.refusal.Refusal.{Refusal}
use Rattle.omega_game_values.specs.Game.{Node}
use Rattle.omega_pg.specs.private.reader.Symbols.{symbols_of}
use Rattle.omega_pg.specs.solution.Grammar.{SolutionLine, SpellsSolution, solution_syntax}
use Rattle.omega_pg.specs.solution.Refusing.{IsReadSolutionRefusal}
use Rattle.omega_pg.specs.solution.Text.{IsSolutionText}
use Rattle.omega_pg.specs.private.solution.reader.Lines.{IsOutcome, KeepsLines}
use Rattle.omega_pg.specs.private.solution.reader.Reader.{HasBecome}
use Rattle.omega_pg.specs.private.solution.reader.Reading.{HasTaken}
use Rattle.omega_game_values.specs.declared.solution.Solution.{Solution}
use Rattle.omega_pg.specs.declared.solution.lines.ChoiceLines.{ChoiceLines}
use Rattle.omega_pg.specs.declared.solution.reader.SolutionReader.{SolutionReader}
use Rattle.omega_pg.specs.declared.solution.stage.SolutionStage.{SolutionStage}
use Rattle.omega_pg.proofs.reader.Deciding.{ended_from_run}
use Rattle.omega_pg.proofs.solutions.Grammar.{SpellsSolution-from_run, decides_solutions}

-- the text was read, and a reader for the game keeps what it says
abbrev pub LeadsTo : {L : Type 0} → (List Node → List SolutionLine → L → Type 0) → List ℕ → List Node → SolutionStage → ℕ → L → Type 0
LeadsTo Keeps source nodes stage greatest lines =
    IsReadText pg_format (λ lexemes. HasTaken Keeps nodes (symbols_of lexemes) stage greatest lines) (TokensComplete solution_syntax) source

module _ {L : Type 0} (Keeps : List Node → List SolutionLine → L → Type 0) (source : List ℕ) (nodes : List Node) where
  -- what a new reader of the game became is what the text says of the game
  pub read_for : (start reader : SolutionReader L) → start.game.now ≡ nodes
      → IsReadText pg_format (λ lexemes. HasBecome Keeps start lexemes reader) (TokensComplete solution_syntax) source
      → LeadsTo Keeps source nodes reader.stage reader.greatest reader.lines
  read_for start reader e read = record {
    short = read.short;
    lexemes = read.lexemes;
    cut = read.cut;
    all_taken = subst (λ list. HasTaken Keeps list (symbols_of read.lexemes) reader.stage reader.greatest reader.lines) e read.all_taken.1;
    complete = read.complete;
  }

  -- the raw text that was read
  pub text_read : (stage : SolutionStage) (greatest : ℕ) (lines : L) (read : LeadsTo Keeps source nodes stage greatest lines)
      → IsTextOf solution_syntax source (record { greatest = greatest; lines = read.all_taken.state.lines })
  text_read stage greatest lines read = record {
    lexemes = read.lexemes;
    cut = read.cut;
    text = subst (λ n. SpellsSolution (symbols_of read.lexemes) (record { greatest = n; lines = read.all_taken.state.lines })) (sym read.all_taken.keeps.same_greatest)
        (SpellsSolution-from_run (symbols_of read.lexemes) read.all_taken.state read.all_taken.runs
        (ended_from_run decides_solutions (symbols_of read.lexemes) read.all_taken.state read.complete.0 read.all_taken.runs read.complete.1));
  }

-- the outcome of the lines is what the text describes
module _ (source : List ℕ) (nodes : List Node) (stage : SolutionStage) (greatest : ℕ) (lines : ChoiceLines) (read : LeadsTo KeepsLines source nodes stage greatest lines) where
  pub solution_read : (result : Result Solution Refusal) → IsOutcome nodes (record { greatest = greatest; lines = read.all_taken.state.lines }) result
      → IfOk result (IsSolutionText nodes source)
  solution_read (Ok solution) outcome = record {
    short = read.short;
    writes = subst (IsTextOf solution_syntax source) outcome.1 (text_read KeepsLines source nodes stage greatest lines read);
    fits = outcome.0;
  }
  solution_read (Err refusal) outcome = tt

  pub solution_refused : (result : Result Solution Refusal) → IsOutcome nodes (record { greatest = greatest; lines = read.all_taken.state.lines }) result
      → IfErr result (IsReadSolutionRefusal nodes source)
  solution_refused (Ok solution) outcome = tt
  solution_refused (Err refusal) outcome =
      subst (IsReadSolutionRefusal nodes source) (sym outcome.0) (inr (
        refl,
        record {
          short = read.short;
          raw = record { greatest = greatest; lines = read.all_taken.state.lines };
          writes = text_read KeepsLines source nodes stage greatest lines read;
          wrong = outcome.1;
        },
      ))
