-- The line for a solution text tells a reason if the text is refused with `BadSolution`, and is there only then.
use Rattle.std.proofs.Common.{◌≡◌, ℕ, List, [], refl, ap, sym, ◌∙◌, subst}
use Rattle.omega_game_values.specs.Game.{Node}
use Rattle.omega_game_values.specs.declared.solution.Solution.{Solution}
use Rattle.omega_pg.specs.solution.Grammar.{solution_syntax}
use Rattle.omega_pg.specs.solution.Laws.{ReasonsAreExact}
use Rattle.omega_pg.specs.solution.Refusing.{IsSolutionRefusal}
use Rattle.omega_pg.specs.solution.Text.{IsSolutionText, raw_solution}
use Rattle.omega_pg_diagnostics.specs.Laws.{SolutionCausesAreOfRefusals, TellsSolutionRefusal}
use Rattle.omega_pg_diagnostics.specs.SolutionCauses.{IsSolutionCause, first_of}
use Rattle.omega_pg_diagnostics.specs.SolutionReasons.{TellsReason}
use Rattle.omega_pg_diagnostics.proofs.solutions.Faultless.{faultless, faultless-none, faultless-unrefused, unrefused-faultless}
use Rattle.omega_pg_diagnostics.proofs.solutions.Reasons.{reason-told}
use Rattle.omega_text.specs.Syntax.{TextsHaveNoFault}
use Rattle.omega_text.specs.declared.refusal.Refusal.{Refusal}
use Rattle.omega_text.specs.declared.refusal.Refusal.TheVariants.{Automaton, Circuit, Game, Io, Memory, Task, Text}

refused-told : TextsHaveNoFault solution_syntax → (nodes : List Node) (text line : List ℕ) → IsSolutionCause nodes text line
    → (refusal : Refusal) → IsSolutionRefusal nodes text refusal → TellsSolutionRefusal nodes text refusal line
refused-told law nodes text line cause (Task fault) refused =
    let bad = refused.1 in
    record {
      raw = bad.raw;
      writes = bad.writes;
      about = subst (TellsReason nodes bad.raw) (sym (cause.written bad.raw bad.short bad.writes))
          (reason-told nodes bad.raw (λ e. faultless-unrefused nodes bad.raw (faultless nodes bad.raw e) bad.wrong));
    }
refused-told law nodes text line cause (Text fault) refused =
    cause.unwritten (λ written. law text written.raw fault written.short written.writes refused)
refused-told law nodes text line cause (Game fault) refused = absurd refused
refused-told law nodes text line cause (Automaton fault) refused = absurd refused
refused-told law nodes text line cause (Circuit fault) refused = absurd refused
refused-told law nodes text line cause Memory refused = absurd refused
refused-told law nodes text line cause Io refused = absurd refused

-- a solution has no line
solution-told : ReasonsAreExact → (nodes : List Node) (text line : List ℕ) → IsSolutionCause nodes text line
    → (solution : Solution) → IsSolutionText nodes text solution → line ≡ []
solution-told exact nodes text line cause solution read =
    let raw = raw_solution nodes solution in
    cause.written raw read.short read.writes
    ∙ ap first_of (faultless-none nodes raw (unrefused-faultless nodes raw (λ wrong. (exact nodes raw).0 wrong solution read.fits refl)))

pub causes_of_refusals : ReasonsAreExact → TextsHaveNoFault solution_syntax → SolutionCausesAreOfRefusals
causes_of_refusals exact law nodes text line cause =
    (refused-told law nodes text line cause, solution-told exact nodes text line cause)
