-- The first fault of what was read is the cause.
use Rattle.std.proofs.Common.{◌≡◌, ℕ, List, ap, ◌∙◌}
use Rattle.omega_pg_diagnostics.specs.SolutionCauses.{IsSolutionCause, WritesSolution, faults_in, first_of}
use Rattle.omega_pg_diagnostics.specs.private.WrittenSolution.{Keeps, Written}
use Rattle.omega_game_values.specs.Game.{Node}
use Rattle.omega_pg.specs.solution.Grammar.{RawSolution, SolutionLine, solution_syntax}
use Rattle.omega_text.specs.Syntax.{IsTextOf}

-- what is written, by its parts
abbrev pub raw_of : ℕ → List SolutionLine → RawSolution
raw_of greatest lines = record { greatest = greatest; lines = lines }

-- the parts that were read are those that are written
pub caused : (nodes : List Node) (text line : List ℕ) (written : Written) (greatest : ℕ) (lines : List SolutionLine) → WritesSolution text
    → ((raw : RawSolution) → IsTextOf solution_syntax text raw → Keeps raw written) → greatest ≡ written.greatest → lines ≡ written.lines
    → line ≡ first_of (faults_in nodes (raw_of greatest lines)) → IsSolutionCause nodes text line
caused nodes text line written greatest lines is kept number same said = record {
  written = λ raw short writes.
      said ∙ ap (λ n. first_of (faults_in nodes (raw_of n lines))) (number ∙ (kept raw writes).greatest)
      ∙ ap (λ list. first_of (faults_in nodes (raw_of raw.greatest list))) (same ∙ (kept raw writes).lines);
  unwritten = λ none. absurd (none is);
}
