-- A verdict on an automaton: an accepting lasso, or `Empty` only if no lasso accepts.
use Rattle.std.specs.Prelude.{List, ℕ}
use Rattle.omega_hoa_automaton.specs.Automaton.{Description}
use Rattle.omega_lang_runs.specs.Lasso.{IsAcceptingLasso}
use Rattle.omega_lang_runs.specs.declared.verdict.Verdict.{Verdict}
use Rattle.omega_lang_runs.specs.declared.verdict.Verdict.TheVariants.{Empty, Lasso}

-- a verdict is right: its lasso accepts, or it is `Empty` and no lasso accepts
abbrev pub IsVerdict : Description → Verdict → Type 0
IsVerdict a Empty = (stem cycle : List ℕ) → ¬ IsAcceptingLasso a stem cycle
IsVerdict a (Lasso stem cycle) = IsAcceptingLasso a stem cycle
