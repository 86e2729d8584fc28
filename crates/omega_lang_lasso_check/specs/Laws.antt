-- Laws of the faults of lassos.
use Rattle.std.specs.Prelude.{◌≡◌, ℕ, List}
use Rattle.omega_hoa_automaton.specs.Automaton.{Description}
use Rattle.omega_lang_lasso_check.specs.Fault.{IsLassoFault}
use Rattle.omega_lang_lasso_check.specs.declared.fault.LassoFault.{LassoFault}

-- a lasso has at most one fault
abbrev pub LassoFaultsAreOne : Type 0
LassoFaultsAreOne =
    (a : Description) (stem cycle : List ℕ) (one other : LassoFault)
    → IsLassoFault a stem cycle one → IsLassoFault a stem cycle other → one ≡ other
