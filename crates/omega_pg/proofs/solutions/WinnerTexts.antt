-- Solution texts whose winners are read.
use Rattle.std.proofs.Common.{◌≡◌, ℕ, inr, List, Result, Ok, Err, IfOk, IfErr, refl, sym, subst}
use Rattle.omega_text.specs.Syntax.{IsTextOf}
use Rattle.omega_text.specs.declared.refusal.Refusal.{Refusal}
use Rattle.omega_text.specs.declared.refusal.Refusal.TheVariants.{Task}
use Rattle.omega_text.specs.declared.refusal.task.TaskFault.TheVariants.{BadSolution}
use Rattle.omega_game_values.specs.Game.{Node}
use Rattle.omega_game_values.specs.declared.player.Player.{Player}
use Rattle.omega_pg.specs.solution.Grammar.{RawSolution, solution_syntax}
use Rattle.omega_pg.specs.solution.Winners.{IsReadWinnersRefusal, IsWinnersText, NamesNodes, NamesOthers, winners_of}
use Rattle.omega_pg.specs.private.solution.winners.Lines.{KeepsWinners}
use Rattle.omega_pg.specs.declared.solution.stage.SolutionStage.{SolutionStage}
use Rattle.omega_pg.specs.declared.solution.winner_lines.WinnerLines.{WinnerLines}
use Rattle.omega_pg.proofs.solutions.Texts.{LeadsTo, text_read}

module _ (source : List ℕ) (nodes : List Node) (stage : SolutionStage) (greatest : ℕ) (lines : WinnerLines) (read : LeadsTo KeepsWinners source nodes stage greatest lines) where
  -- what was read
  abbrev written : RawSolution
  written = record { greatest = greatest; lines = read.all_taken.state.lines }

  text_given : IsTextOf solution_syntax source written
  text_given = text_read KeepsWinners source nodes stage greatest lines read

  -- the winners of lines that name the nodes of the game
  pub winners_read_by : {V : Type 0} (result : Result V Refusal) (items : V → List Player) → IfOk result (λ _. NamesNodes nodes written)
      → IfOk result (λ winners. items winners ≡ winners_of read.all_taken.state.lines) → IfOk result (λ winners. IsWinnersText nodes source (items winners))
  winners_read_by (Ok winners) items names given = record {
    short = read.short;
    raw = written;
    writes = text_given;
    names = names;
    given = given;
  }
  winners_read_by (Err refusal) items names given = tt

  -- the refusal of lines that do not
  pub winners_refused_by : {V : Type 0} (result : Result V Refusal) → IfErr result (λ refusal. refusal ≡ Task BadSolution)
      → IfErr result (λ _. NamesOthers nodes written) → IfErr result (IsReadWinnersRefusal nodes source)
  winners_refused_by (Ok winners) same wrong = tt
  winners_refused_by (Err refusal) same wrong =
      subst (IsReadWinnersRefusal nodes source) (sym same) (inr (
        refl,
        record { short = read.short; raw = written; writes = text_given; wrong = wrong },
      ))
