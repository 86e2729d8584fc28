-- The referee's answers inside the crate.
use Rattle.std.specs.Prelude.{◌++◌, ℕ, List, Option, None, Some}
use Rattle.omega_text.specs.declared.refusal.Refusal.{Refusal}
use Rattle.omega_hoa_automaton.specs.Automaton.{Description}
use Rattle.omega_lang_runs.specs.Judging.{GivesUpOn}
use Rattle.omega_lang_runs.specs.Lasso.{IsAcceptingLasso}
use Rattle.omega_lang_lasso_check.specs.Conditions.{IsLassoWalk}
use Rattle.omega_lang_lasso_check.specs.Fault.{IsLassoFault}
use Rattle.omega_lang_lasso_check.specs.Refusing.{IsUndecidedAlong}
use Rattle.omega_lang_lasso_check.specs.declared.fault.LassoFault.{LassoFault}

-- the answer is right: `None`, and the lasso accepts, or a fault that it has
abbrev pub IsRefereed : Description → (stem cycle : List ℕ) → Option LassoFault → Type 0
IsRefereed a stem cycle None = IsAcceptingLasso a stem cycle
IsRefereed a stem cycle (Some fault) = IsLassoFault a stem cycle fault

-- `TooManyPropositions` if a label that has to be judged is wide, or `Memory`
abbrev pub IsLabelRefusal : Description → (stem cycle : List ℕ) → Refusal → Type 0
IsLabelRefusal a stem cycle =
    GivesUpOn (IsLassoWalk a stem cycle × IsUndecidedAlong a (stem ++ cycle))
