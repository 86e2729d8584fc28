-- The messages of faults.
use Rattle.std.specs.Prelude.{ℕ, List, ◌++◌, codes, decimal}
use Rattle.omega_lang_lasso_check.specs.declared.fault.LassoFault.{LassoFault}
use Rattle.omega_lang_lasso_check.specs.declared.fault.LassoFault.TheVariants.{Apart, NeverTrue, NoCycle}
use Rattle.omega_lang_lasso_check.specs.declared.fault.LassoFault.TheVariants.{NoStart, NotAccepted}
use Rattle.omega_lang_lasso_check.specs.declared.fault.LassoFault.TheVariants.{NotClosed, NotThere}

-- the message of a fault, with the number of its edge
abbrev pub fault_text : LassoFault → List ℕ
fault_text NoCycle = codes "the cycle has no edge"
fault_text (NotThere edge) = codes "edge " ++ (decimal edge ++ codes " is not there")
fault_text (NoStart edge) = codes "edge " ++ (decimal edge ++ codes " leaves no start")
fault_text (Apart edge) = codes "edge " ++ (decimal edge ++ codes " does not follow")
fault_text NotClosed = codes "the cycle does not close"
fault_text (NeverTrue edge) = codes "edge " ++ (decimal edge ++ codes " can not be taken")
fault_text NotAccepted = codes "the cycle does not accept"
