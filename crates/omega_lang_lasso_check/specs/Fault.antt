-- Which fault a lasso, given by numbers of edges, has: the first that applies, in the order of `LassoFault`.
use Rattle.std.specs.Prelude.{◌≡◌, ℕ, ◌<◌, ◌++◌, [], false, List, length, slice_index}
use Rattle.omega_hoa_automaton.specs.Automaton.{Description}
use Rattle.omega_lang_runs.specs.Lasso.{IsLasso}
use Rattle.omega_lang_lasso_check.specs.Conditions.{AreLinked, FailsFirst, HasEdges, IsBegun}
use Rattle.omega_lang_lasso_check.specs.Conditions.{IsClosed, IsFirstApart, IsLassoWalk, IsNumber}
use Rattle.omega_lang_lasso_check.specs.Conditions.{IsUsableNumber, LeavesStart, cycle_accepts}
use Rattle.omega_lang_lasso_check.specs.declared.fault.LassoFault.{LassoFault}
use Rattle.omega_lang_lasso_check.specs.declared.fault.LassoFault.TheVariants.{Apart, NeverTrue, NoCycle}
use Rattle.omega_lang_lasso_check.specs.declared.fault.LassoFault.TheVariants.{NoStart, NotAccepted}
use Rattle.omega_lang_lasso_check.specs.declared.fault.LassoFault.TheVariants.{NotClosed, NotThere}

-- the fault applies, and none before it in that order does
abbrev pub IsLassoFault : Description → (stem cycle : List ℕ) → LassoFault → Type 0
IsLassoFault a stem cycle NoCycle = cycle ≡ []
IsLassoFault a stem cycle (NotThere number) =
    (0 < length cycle) × FailsFirst (IsNumber a) (stem ++ cycle) number
IsLassoFault a stem cycle (NoStart number) =
    HasEdges a stem cycle × (number ≡ slice_index (stem ++ cycle) 0) × (¬ LeavesStart a number)
IsLassoFault a stem cycle (Apart number) =
    IsBegun a stem cycle × IsFirstApart a (stem ++ cycle) number
IsLassoFault a stem cycle NotClosed = IsBegun a stem cycle × AreLinked a (stem ++ cycle)
    × (¬ IsClosed a cycle)
IsLassoFault a stem cycle (NeverTrue number) =
    IsLassoWalk a stem cycle × FailsFirst (IsUsableNumber a) (stem ++ cycle) number
IsLassoFault a stem cycle NotAccepted = IsLasso a stem cycle × (cycle_accepts a cycle ≡ false)
