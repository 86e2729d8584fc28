-- The answer of `draw` for the text of one automaton: its drawing, or its drawing with an accepting lasso.
use Rattle.std.specs.Prelude.{◌≡◌, List, ℕ}
use Rattle.omega_hoa_automaton.specs.Automaton.{Description}
use Rattle.omega_hoa_dot.specs.AutomatonDrawing.{drawing_of_automaton, drawing_of_lasso}
use Rattle.omega_lang_runs.specs.Verdict.{IsVerdict}
use Rattle.omega_lang_runs.specs.declared.verdict.Verdict.{Verdict}
use Rattle.omega_lang_runs.specs.declared.verdict.Verdict.TheVariants.{Empty, Lasso}
use Rattle.omega_lang_lasso_search.specs.Searching.{IsSearchable}
use Rattle.omega_answers.specs.OneAutomaton.{OfAutomaton}

-- the answer of `draw`: the text is that of an automaton, and its drawing is written
abbrev pub IsAutomatonDrawingAnswer : (text output : List ℕ) → Type 0
IsAutomatonDrawingAnswer text output =
    OfAutomaton (λ automaton. output ≡ drawing_of_automaton automaton) text

-- the drawing of an automaton with the lasso of a verdict, if it has one
abbrev pub drawing_of_verdict : Description → Verdict → List ℕ
drawing_of_verdict automaton Empty = drawing_of_automaton automaton
drawing_of_verdict automaton (Lasso stem cycle) = drawing_of_lasso automaton stem cycle

-- the drawing of an automaton without universal branching, with an accepting lasso, or without one if no lasso accepts
pub record IsLassoDrawing (automaton : Description) (output : List ℕ) : Type 0 where
  pub given : IsSearchable automaton
  pub verdict : Verdict
  pub right : IsVerdict automaton verdict
  pub written : output ≡ drawing_of_verdict automaton verdict

-- the answer of `draw --lasso`: the text is that of such an automaton, and the drawing is written
abbrev pub IsLassoDrawingAnswer : (text output : List ℕ) → Type 0
IsLassoDrawingAnswer text output = OfAutomaton (λ automaton. IsLassoDrawing automaton output) text
